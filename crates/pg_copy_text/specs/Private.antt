-- The words of private functions.
pub mod Breaks
pub mod Units
pub mod TextLine
pub mod Cuts
pub mod TextRow
