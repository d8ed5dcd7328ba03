-- What a reader must believe: how messages and first packets are spelled, which have a spelling, what encoding one does, and what
-- `{:?}` doesn't write.
pub mod Direction
pub mod Backend
pub mod Frontend
pub mod Message
pub mod Lent
pub mod Appending
pub mod First
pub mod Encoder
pub mod Shown
-- Words of how bodies are read.
pub mod Private
