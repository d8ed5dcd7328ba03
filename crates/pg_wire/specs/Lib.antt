-- What a reader must believe: how messages are spelled, which have a spelling, what a stream is,
-- and what each call does.
pub mod Stream
pub mod Decoder
pub mod BackDecoder
pub mod Spellings
pub mod First
pub mod FirstDecoder
pub mod Laws
pub mod Password
pub mod Fault
pub mod Segment
pub mod Turns
-- What each call of a link does, and what sending all of some bytes comes to.
pub mod Link
pub mod Sending
-- Words of private functions, which no public contract cites.
pub mod Private
-- What the crates below define and the contracts here speak of. Who uses pg_wire names it through
-- these lines.
pub use Rattle.pg_codec.specs.Field
pub use Rattle.pg_values.specs.Fields
pub use Rattle.pg_values.specs.Text
pub use Rattle.pg_message.specs.Direction
pub use Rattle.pg_message.specs.Backend
pub use Rattle.pg_message.specs.Frontend
pub use Rattle.pg_message.specs.Message
pub use Rattle.pg_message.specs.Lent
pub use Rattle.pg_message.specs.Encoder
pub use Rattle.pg_message.specs.Shown
-- Their types.
pub use Rattle.pg_codec.specs.declared.fault
pub use Rattle.pg_codec.specs.declared.value
pub use Rattle.pg_message.specs.declared.message
pub use Rattle.pg_message.specs.declared.lent
