-- What a reader must believe: what is converted of a file.
pub mod Convert
-- Words of private functions, which no public contract cites.
pub mod Private
