-- Words of private functions. No public contract cites them.
pub mod Faults
pub mod Reads
pub mod Files
pub mod Begun
