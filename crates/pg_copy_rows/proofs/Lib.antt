pub mod Numbers
pub mod Bytes
pub mod Readings
pub mod Writing
pub mod Cuts
