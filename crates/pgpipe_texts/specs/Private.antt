-- Words of private functions. No public contract cites them.
pub mod Parts
