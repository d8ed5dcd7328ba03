-- Words of private functions. No public contract cites them.
pub mod Telling
pub mod Moves
pub mod Answering
pub mod Opening
pub mod Playing
pub mod Advancing
pub mod Turning
