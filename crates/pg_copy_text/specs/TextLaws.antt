-- Laws of the text format.
use Rattle.std.specs.Prelude.{◌≡◌, ℕ, suc, false, List, [], ◌∷◌, ◌++◌, length, Option, Some, None, Ok}
use Rattle.std.specs.List.{flat_map, position_from, AllByRecursion}
use Rattle.pg_copy_rows.specs.Row.{Row, Writes}
use Rattle.pg_copy_text.specs.TextWriter.{next_fault, next_written, end_fault}
use Rattle.pg_copy_text.specs.declared.line_end.LineEnd.{LineEnd}
use Rattle.pg_copy_text.specs.declared.line_end.LineEnd.TheVariants.{Newline}
use Rattle.pg_copy_rows.specs.Reading.{Ended, after_rows}
use Rattle.pg_copy_text.specs.Text.{Options, default_options, backslash, newline, ends_escaped, parts, field_value, line_row, FitsReader, lines, reading_after, text_reading, text_file_reading, written_row, is_like_null, text_fault}
use Rattle.pg_copy_text.specs.TextOptions.{AreOptions}
use Rattle.pg_copy_text.specs.TextField.{IsField}
use Rattle.pg_copy_text.specs.TextLine.{AreParts, AreLines, AreFields}

-- `parts` cuts bytes at each mark that isn't escaped, `lines` at each line end, and there is one
-- such cut: so lines and fields are what the bytes say.
pub record OneSplit : Type 0 where
  pub there : (mark : ℕ) (bytes : List ℕ) → (mark ≡ backslash → ⊥)
      → AreParts mark bytes (parts mark bytes)
  pub one : (mark : ℕ) (bytes : List ℕ) (ps qs : List (List ℕ)) → (mark ≡ backslash → ⊥)
      → AreParts mark bytes ps → AreParts mark bytes qs
      → ps ≡ qs
  pub lines_there : (e : LineEnd) (bytes : List ℕ) → AreLines e bytes (lines e bytes)
  pub lines_one : (e : LineEnd) (bytes : List ℕ) (ps qs : List (List ℕ)) → AreLines e bytes ps
      → AreLines e bytes qs
      → ps ≡ qs

-- A field spells one value at most, and `field_value` is it, where no lone backslash stands last,
-- as in a whole line. So a line's row has the values that its fields spell.
pub record OneValue : Type 0 where
  pub there : (o : Options) (bytes : List ℕ) → ends_escaped false bytes ≡ false
      → IsField o bytes (field_value o bytes)
  pub one : (o : Options) (bytes : List ℕ) (v w : Option (List ℕ)) → IsField o bytes v
      → IsField o bytes w
      → v ≡ w
  pub of_line : (o : Options) (columns : Option ℕ) (line : List ℕ) (row : Row) → AreOptions o
      → line_row o columns line ≡ Ok row
      → AreFields o (parts o.delimiter line) row

-- A reader with these columns may give this row, and it has a canonical line with these options.
pub record HasLine (o : Options) (columns : Option ℕ) (row : Row) : Type 0 where
  pub fits : FitsReader columns row
  pub no_like_null : position_from (is_like_null o) 0 row ≡ None

-- how the lines of a file end that begins with the canonical lines of these rows
abbrev pub end_after : List Row → Option LineEnd
end_after [] = None
end_after (row ∷ rows) = Some Newline

-- Canonical lines of rows that a reader may give are read as those rows, before any other bytes and
-- as a whole file. With the default options no text is like null.
pub record TextRoundTrip : Type 0 where
  pub before : (o : Options) (columns : Option ℕ) (rows : List Row) (rest : List ℕ) → AreOptions o
      → AllByRecursion (HasLine o columns) rows
      → text_reading o columns (flat_map (written_row o) rows ++ rest)
      ≡ after_rows rows (reading_after o columns (end_after rows) rest)
  pub whole : (o : Options) (columns : Option ℕ) (rows : List Row) → AreOptions o
      → AllByRecursion (HasLine o columns) rows
      → text_file_reading o columns (flat_map (written_row o) rows)
      ≡ record { rows = rows; ending = Ended }
  pub by_default : (v : Option (List ℕ)) → is_like_null default_options v ≡ false

-- These fields were written to a buffer one after the other, with these options and after n fields
-- of their row, and each call returned Ok.
abbrev pub WritesTextFields : Options → ℕ → Row → List ℕ → List ℕ → Type 0
WritesTextFields o n [] old new = new ≡ old
WritesTextFields o n (field ∷ fields) old new = (mid : List ℕ)
    × Writes (next_fault o n field) (next_written o n field) old (Ok tt) mid
    × WritesTextFields o (suc n) fields mid new

-- The fields of a row that were written one by one, and then its end, are the row written: it has
-- no fault, and its canonical line is appended.
pub record FieldsAreLine : Type 0 where
  pub line : (o : Options) (row : Row) (old mid new : List ℕ) → WritesTextFields o 0 row old mid
      → Writes (end_fault (length row)) (newline ∷ []) mid (Ok tt) new
      → Writes (text_fault o row) (written_row o row) old (Ok tt) new
