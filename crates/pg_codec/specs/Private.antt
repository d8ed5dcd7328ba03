-- Words of how bodies are read and written. No contract that pg_wire gives out cites them.
pub mod Reader
pub mod Lent
pub mod Writer
