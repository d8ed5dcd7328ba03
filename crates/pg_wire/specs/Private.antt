-- Words of private functions. No public contract cites them.
pub mod FirstReader
pub mod Found
pub mod Held
pub mod Patience
