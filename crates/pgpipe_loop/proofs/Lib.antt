pub mod LineWriting
pub mod Loops
pub mod LoopGroups
pub mod LoopEnds
pub mod LoopRows
pub mod Rows
pub mod Sending
pub mod Telling
pub mod Crossing
pub mod Everywhere
-- Clients that are served.
pub mod Turning
pub mod Coming
