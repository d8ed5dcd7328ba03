-- Calls that send something.
pub mod Encoded
pub mod Accepting
