-- What a reader must believe: how the fields and the values of a message are spelled.
pub mod Field
pub mod Value
-- Words of how bodies are read and written.
pub mod Private
