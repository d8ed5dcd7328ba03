-- How the program ends.
pub mod Status
