-- The words of private functions.
pub mod RowBuffer
pub mod Cuts
