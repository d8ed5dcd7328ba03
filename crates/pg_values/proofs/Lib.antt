pub mod Views
pub mod Blocks
pub mod Equal
pub mod Lists
pub mod Kept
