pub mod Filling
pub mod Judging
