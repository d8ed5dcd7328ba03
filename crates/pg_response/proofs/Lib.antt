pub mod Copies
pub mod Holding
pub mod Lists
pub mod Marks
pub mod Segments
pub mod Steps
pub mod Rows
