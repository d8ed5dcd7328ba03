-- The words of private functions.
pub mod BinaryPart
pub mod BinaryRow
