-- What a reader must believe: which word is which verb, and what fields are read as.
pub mod Verb
pub mod Arguments
-- What a line is read as that stands in an answer of SCRIPT, or in a group of CALLS.
pub mod AnswerLines
pub mod StepLines
-- What is left of a file without its comments.
pub mod Comments
-- What functions that read a line, or a file, return.
pub mod Reads
