-- What is kept until it is taken.
pub mod Groups
pub mod Queueing
