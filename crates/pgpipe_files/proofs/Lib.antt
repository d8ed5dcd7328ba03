-- The rows of a file.
pub mod RowsRead
-- The two files.
pub mod Lists
pub mod Files
pub mod CallLines
pub mod ScriptLines
pub mod Rows
