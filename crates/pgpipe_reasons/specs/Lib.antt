-- What a reader must believe: how the program fails, what its task is about, and why that failed.
pub mod Failure
pub mod Subject
pub mod Explaining
