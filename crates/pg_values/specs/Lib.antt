-- What is asked of the fields of an error or a notice, and how they are spelled.
pub mod Fields
-- What a value is as text.
pub mod Text
-- Words of how values and fields are kept and lent.
pub mod Private
