-- Messages and pieces that come.
pub mod Faults
pub mod Messages
pub mod Feeding
pub mod Lending
