-- What is converted of a COPY file.
use Rattle.std.specs.Prelude.{ℕ, ◌≡◌, ◌≤◌, ◌+◌, ◌++◌, ◌∷◌, ◌⊎◌, Bool, true, false, List, [], length, Option, Some, None, Result, Ok, Err}
use Rattle.std.specs.List.{flat_map, AllByRecursion}
use Rattle.pg_copy.specs.fault.RowFault.{RowFault}
use Rattle.pg_copy.specs.Binary.{binary_row, written_head, trailer}
use Rattle.pg_copy.specs.BinaryPart.{binary_file_reading, binary_reading}
use Rattle.pg_copy.specs.Reading.{RowsRead, RowsEnding, Open, Done, Ended, Bad, IsGood, after_rows}
use Rattle.pg_copy.specs.Row.{Row, binary_fault}
use Rattle.pg_copy.specs.Text.{Options, default_options, text_file_reading, text_reading, written_row, text_fault}
use Rattle.pgpipe_convert.specs.declared.convert.Converted.{Converted}
use Rattle.pgpipe_convert.specs.declared.convert.Converted.TheVariants as converted
use Rattle.pgpipe_convert.specs.declared.format.Format.{Format}
use Rattle.pgpipe_convert.specs.declared.format.Format.TheVariants as format
use Rattle.pgpipe_base.specs.declared.fault.ToolFault.{ToolFault}
use Rattle.pgpipe_base.specs.declared.fault.ToolFault.TheVariants as fault
use Rattle.pgpipe_base.specs.Outbox.{most_collected}
use mathlib.Core.List.{IsPrefix}
use Rattle.pgpipe_base.specs.Receiving.{receive_limit}

-- ---- the file that is read

-- an ending, with its fault put as an answer of `convert`
abbrev pub answered_ending : {F : Type 0} → (F → Converted) → RowsEnding F → RowsEnding Converted
answered_ending answer (Open rest) = Open rest
answered_ending answer Done = Done
answered_ending answer Ended = Ended
answered_ending answer (Bad f) = Bad (answer f)

-- a reading, with its fault put as an answer of `convert`
abbrev pub answered : {F : Type 0} → (F → Converted) → RowsRead F → RowsRead Converted
answered answer r = record { rows = r.rows; ending = answered_ending answer r.ending }

-- how a format reads bytes: as the beginning of a file (false) or as a whole file (true)
abbrev pub FileReading : Type 0
FileReading = Bool → List ℕ → RowsRead Converted

-- how COPY text is read, with these options and so many columns or any number (None)
abbrev pub text_file : Options → Option ℕ → FileReading
text_file o columns false bytes = answered converted.Text (text_reading o columns bytes)
text_file o columns true bytes = answered converted.Text (text_file_reading o columns bytes)

-- how COPY binary is read, with so many columns and values of at most `most` bytes
abbrev pub binary_file : ℕ → ℕ → FileReading
binary_file columns most false bytes = answered converted.Binary (binary_reading columns most bytes)
binary_file columns most true bytes =
    answered converted.Binary (binary_file_reading columns most bytes)

-- the most bytes that a value of a binary file may have in `convert`
abbrev pub value_limit : ℕ
value_limit = 1073741823

-- how a file of this format and so many columns is read, COPY text with these options
abbrev pub file_with : Options → Format → ℕ → FileReading
file_with o format.Text columns = text_file o (Some columns)
file_with o format.Binary columns = binary_file columns value_limit

-- how a file of this format and so many columns is read, COPY text with the default options
abbrev pub file_of : Format → ℕ → FileReading
file_of from columns = file_with default_options from columns

-- a reading without further rows, which ends so
abbrev pub none_left : RowsEnding Converted → RowsRead Converted
none_left ending = record { rows = []; ending = ending }

-- A whole file ends so: by its end mark or trailer, or by the end of a text file.
abbrev pub IsEnd : RowsEnding Converted → Type 0
IsEnd (Open rest) = ⊥
IsEnd Done = Unit {0}
IsEnd Ended = Unit {0}
IsEnd (Bad f) = ⊥

-- The bytes are read as this: as the beginning of a file; or as a whole one, if the input has
-- ended.
abbrev pub IsReadAs : FileReading → Type 0 → List ℕ → RowsRead Converted → Type 0
IsReadAs file ended bytes r = (file false bytes ≡ r) ⊎ (ended × (file true bytes ≡ r))

-- ---- the file that is written

-- how a file is written: what stands before its rows, why a row can't be written, if it can't, the
-- bytes of a row, and what stands after the rows
pub record FileWriting : Type 0 where
  pub head : List ℕ
  pub row_fault : Row → Option RowFault
  pub row : Row → List ℕ
  pub trailer : List ℕ

-- how COPY text with these options is written: a line for each row, and nothing else
abbrev pub text_writing : Options → FileWriting
text_writing o =
    record { head = []; row_fault = text_fault o; row = written_row o; trailer = [] }

-- how COPY binary is written: a head, the rows and a trailer
abbrev pub binary_writing : FileWriting
binary_writing = record {
  head = written_head;
  row_fault = binary_fault;
  row = binary_row;
  trailer = trailer;
}

-- how a file of this format is written, COPY text with these options
abbrev pub writing_with : Options → Format → FileWriting
writing_with o format.Text = text_writing o
writing_with o format.Binary = binary_writing

-- The row can be written so.
abbrev pub IsWritable : FileWriting → Row → Type 0
IsWritable to row = to.row_fault row ≡ None

-- what is written last, by the answer: a trailer only where the file was whole
abbrev pub trailer_for : FileWriting → Converted → List ℕ
trailer_for to converted.Whole = to.trailer
trailer_for to _ = []

-- ---- how much is converted

-- The text is the head and the first rows of these bytes, all of which can be written, and `left`
-- is what the file has after those rows.
pub record AreConverted (file : FileReading) (to : FileWriting) (ended : Type 0) (bytes : List ℕ)
    (left : RowsRead Converted) (text : List ℕ) : Type 0 where
  pub rows : List Row
  pub read : IsReadAs file ended bytes (after_rows rows left)
  pub each_writable : AllByRecursion (IsWritable to) rows
  pub each_row : text ≡ to.head ++ flat_map to.row rows

-- The answer where `left` is what the file has after the rows written: Whole at its end; Row for a
-- next row that can't be written; else the fault that stands there.
abbrev pub IsAnswerFor : FileWriting → RowsRead Converted → Converted → Type 0
IsAnswerFor to left converted.Whole = (ending : RowsEnding Converted) × IsEnd ending
    × (left ≡ none_left ending)
IsAnswerFor to left (converted.Row f) = (row : Row) × (later : RowsRead Converted)
    × (left ≡ after_rows (row ∷ []) later) × (to.row_fault row ≡ Some f)
IsAnswerFor to left c = left ≡ none_left (Bad c)

-- The text is all that `convert` writes for these bytes where c is its answer.
pub record IsOutput (file : FileReading) (to : FileWriting) (ended : Type 0) (bytes : List ℕ)
    (c : Converted) (text : List ℕ) : Type 0 where
  pub left : RowsRead Converted
  pub answer : IsAnswerFor to left c
  pub before : List ℕ
  pub are_converted : AreConverted file to ended bytes left before
  pub with_trailer : text ≡ before ++ trailer_for to c

-- The text is the head and all rows of these bytes, and no fault comes after the rows.
pub record AreAllConverted (file : FileReading) (to : FileWriting)
    (bytes text : List ℕ) : Type 0 where
  pub ending : RowsEnding Converted
  pub good : IsGood ending
  pub are_converted : AreConverted file to ⊥ bytes (none_left ending) text

-- The text is the head and all rows of these bytes without the last piece, a piece being at most
-- 65,536 bytes.
pub record AreConvertedBefore (file : FileReading) (to : FileWriting)
    (bytes text : List ℕ) : Type 0 where
  pub earlier : List ℕ
  pub last : List ℕ
  pub whole : bytes ≡ earlier ++ last
  pub a_piece : length last ≤ receive_limit
  pub all_converted : AreAllConverted file to earlier text

-- The text is the head and whole rows of these bytes, and no row of those before the last piece is
-- missing.
pub record AreMostlyConverted (file : FileReading) (to : FileWriting) (ended : Type 0)
    (bytes text : List ℕ) : Type 0 where
  pub before : List ℕ
  pub converted_before : AreConvertedBefore file to bytes before
  pub begins : IsPrefix before text
  pub left : RowsRead Converted
  pub are_converted : AreConverted file to ended bytes left text

-- The text is a prefix of what is written for these bytes, and may end within a row.
abbrev pub ArePartlyConverted : FileReading → FileWriting → Type 0 → List ℕ → List ℕ → Type 0
ArePartlyConverted file to ended bytes text = (all : List ℕ) × IsPrefix text all
    × (((left : RowsRead Converted) × AreConverted file to ended bytes left all)
    ⊎ IsOutput file to ended bytes converted.Whole all)

-- At most 65,536 bytes of what is written for the bytes before the last piece weren't sent: so a
-- failed sink is noticed soon.
abbrev pub IsConvertedAtOnce : FileReading → FileWriting → List ℕ → List ℕ → Type 0
IsConvertedAtOnce file to bytes text = (before : List ℕ) × AreConvertedBefore file to bytes before
    × (length before ≤ most_collected + length text)

-- ---- the answer

-- What a conversion returns, by the bytes received and the text sent. Memory: no row before the
-- last piece is missing, or nothing was received or sent. Device: the sink broke (a prefix was
-- sent), or the source stopped (the head and all rows were sent).
abbrev pub ConversionAnswers : Type 0 → Type 0 → Type 0 → FileReading → FileWriting → List ℕ
    → List ℕ → Result Converted ToolFault → Type 0
ConversionAnswers stopped broke ended file to bytes text (Ok c) =
    IsOutput file to ended bytes c text
ConversionAnswers stopped broke ended file to bytes text (Err fault.Memory) =
    ((bytes ≡ []) × (text ≡ []))
    ⊎ AreMostlyConverted file to ended bytes text
ConversionAnswers stopped broke ended file to bytes text (Err fault.Device) = (broke
    × ArePartlyConverted file to ended bytes text × IsConvertedAtOnce file to bytes text)
    ⊎ (stopped × AreAllConverted file to bytes text)

-- What `convert` returns, by the bytes received and the text sent: it is a conversion in which a
-- text file is written with the default options.
abbrev pub ConvertAnswers : Type 0 → Type 0 → Type 0 → FileReading → Format → List ℕ → List ℕ
    → Result Converted ToolFault → Type 0
ConvertAnswers stopped broke ended file to bytes text result =
    ConversionAnswers stopped broke ended file (writing_with default_options to) bytes text result

-- Where the answer is Whole, the source has ended.
abbrev pub EndsFile : Type 0 → Result Converted ToolFault → Type 0
EndsFile ended (Ok converted.Whole) = ended
EndsFile ended _ = Unit {0}
