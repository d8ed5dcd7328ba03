-- What a reader must believe: which options the words of a task say, how a loop's files are read,
-- what is done for a task, and how it ends.
pub mod LoopFiles
pub mod TextOptions
pub mod Doing
pub mod Serving
pub mod Ending
