-- Words of private functions. No public contract cites them.
pub mod Stopping
pub mod Showing
pub mod Telling
pub mod CountMap
pub mod Counting
