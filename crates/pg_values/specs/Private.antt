-- Words of how values and fields are kept and lent. No contract that pg_wire gives out cites them.
pub mod View
pub mod Block
pub mod Kept
