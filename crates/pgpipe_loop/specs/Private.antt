-- Words of private functions. No public contract cites them.
pub mod Running
pub mod Telling
pub mod Lines
pub mod Turning
