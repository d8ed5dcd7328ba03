-- What a reader must believe: what is collected and sent, what is received, and what is answered
-- where the work stops.
pub mod Outbox
pub mod Receiving
pub mod Stop
-- The digits of bytes, as the crate that writes them defines them.
pub use Rattle.hex.specs.Hex
