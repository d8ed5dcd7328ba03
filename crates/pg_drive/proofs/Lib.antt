-- Lemmas, by the subject.
pub mod Looking
pub mod Turning
pub mod EarlyTurning
pub mod LentTurning
pub mod Owned
pub mod Sessions
pub mod GroupGives
pub mod Carrying
