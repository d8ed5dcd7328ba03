pub mod Rests
pub mod Takings
pub mod Lendings
pub mod Spelled
pub mod Streams
pub mod Passwords
pub mod Rows
pub mod Segments
pub mod Cuts
pub mod Packets
-- Links: calls in a row, and bytes that are sent from their front.
pub mod Patience
pub mod Sent
-- What proofs above cite of the crate below.
pub use Rattle.pg_message.proofs.BackMessages
pub use Rattle.pg_message.specs.declared.backend.kind
