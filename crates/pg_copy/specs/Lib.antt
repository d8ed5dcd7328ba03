-- What a reader with a limit was given and has given, and which line it rejects.
pub mod Limited
-- Words of private functions, which no public contract cites.
pub mod Private
-- What the crates below define and the contracts here speak of. Who uses pg_copy names it through
-- these lines.
pub use Rattle.pg_copy_rows.specs.Row
pub use Rattle.pg_copy_rows.specs.Reading
pub use Rattle.pg_copy_rows.specs.Lent
pub use Rattle.pg_copy_text.specs.Text
pub use Rattle.pg_copy_text.specs.TextOptions
pub use Rattle.pg_copy_text.specs.TextField
pub use Rattle.pg_copy_text.specs.TextLine
pub use Rattle.pg_copy_text.specs.TextReader
pub use Rattle.pg_copy_text.specs.TextWriter
pub use Rattle.pg_copy_text.specs.TextLaws
pub use Rattle.pg_copy_binary.specs.Binary
pub use Rattle.pg_copy_binary.specs.BinaryPart
pub use Rattle.pg_copy_binary.specs.BinaryReader
pub use Rattle.pg_copy_binary.specs.BinaryLaws
-- Their types.
pub use Rattle.pg_copy_rows.specs.declared.fault
pub use Rattle.pg_copy_text.specs.declared.line_end
pub use Rattle.pg_copy_text.specs.declared.text_stage
pub use Rattle.pg_copy_binary.specs.declared.binary_reader
