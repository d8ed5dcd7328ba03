pub mod Readers
pub mod Growing
pub mod Widths
pub mod Converting
pub mod Sent
pub mod Lent
pub mod Puts
pub mod Rows
