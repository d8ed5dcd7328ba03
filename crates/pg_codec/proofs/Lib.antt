pub mod Layouts
pub mod Fields
pub mod Loops
pub mod Passed
