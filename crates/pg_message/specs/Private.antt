-- Words of how bodies are read. No contract that pg_wire gives out cites them.
pub mod Reading
pub mod BackReader
pub mod FrontReader
pub mod LentReader
