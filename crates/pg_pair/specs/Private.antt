pub mod Inside
pub mod Known
pub mod Calling
pub mod Chunks
pub mod Delivering
pub mod Passing
