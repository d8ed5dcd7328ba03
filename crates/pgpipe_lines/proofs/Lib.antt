-- How a line is taken apart.
pub mod Lists
pub mod Words
pub mod Refusals
pub mod Numbers
pub mod FieldLists
pub mod FieldRows
-- Comments.
pub mod Uncommenting
