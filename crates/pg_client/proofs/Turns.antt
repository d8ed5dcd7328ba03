-- A client and a server take turns.
pub mod TurnLaws
pub mod Ordering
pub mod Copying
pub mod TakingTurns
pub mod TurnRows
