-- What a reader must believe: what the rows of a file come to.
pub mod Lines
-- What each line of CALLS and of SCRIPT is read as in its place, and what stands in the place of a
-- file that CALLS names.
pub mod CallsFile
pub mod ScriptFile
pub mod Filling
-- Words of private functions, which no public contract cites.
pub mod Private
