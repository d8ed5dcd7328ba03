-- Words of private functions. No public contract cites them.
pub mod Turning
pub mod LentTurning
