pub mod Pairs
pub mod Kept
pub mod Judged
-- For who writes proofs over pg_copy.
pub use Rattle.pg_copy_binary.proofs.Given
