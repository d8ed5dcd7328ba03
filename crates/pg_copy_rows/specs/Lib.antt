-- What a reader must believe about rows and reading them: Row says which rows may be written, Reading
-- what was read of a file and which numbers a reader returns, Lent what it is to lend a row.
pub mod Row
pub mod Reading
pub mod Lent
-- Words of private functions.
pub mod Private
