-- What a reader must believe: the command line, and the tasks that its words ask for.
pub mod CommandLine
pub mod Tasks
-- Words of private functions, which no public contract cites.
pub mod Private
