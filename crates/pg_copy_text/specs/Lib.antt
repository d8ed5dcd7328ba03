-- What a reader of the contracts must believe stands in Text, TextOptions, TextField and TextLine.
-- TextReader says what the calls of a reader do, TextWriter what those of a writer of single fields
-- do, TextLaws what holds of the format. Of private types the public files name the stages of the
-- reader (TextStage) and how lines end (LineEnd).
pub mod Text
pub mod TextOptions
pub mod TextField
pub mod TextLine
pub mod TextReader
pub mod TextWriter
pub mod TextLaws
-- Words of private functions.
pub mod Private
