-- A client that takes turns.
pub mod TurnByTurn
pub mod PartOfTurns
pub mod Loaded
