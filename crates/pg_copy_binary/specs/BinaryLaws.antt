-- Laws of the binary format.
use Rattle.std.specs.Prelude.{◌≡◌, ℕ, ◌≤◌, List, [], ◌∷◌, ◌++◌, length, Ok}
use Rattle.std.specs.Int.{w16, to_be_bytes}
use Rattle.std.specs.List.{flat_map, AllByRecursion}
use Rattle.pg_copy_rows.specs.Row.{Row, width_fault, field_fault, binary_fault, Writes}
use Rattle.pg_copy_rows.specs.declared.fault.BinaryFault.{BinaryFault}
use Rattle.pg_copy_rows.specs.Reading.{RowsEnding, Done, after_rows}
use Rattle.pg_copy_binary.specs.Binary.{IsHead, FitsBinary, value, binary_row, trailer, IsBytes, IsBinaryFile}
use Rattle.pg_copy_binary.specs.BinaryPart.{binary_reading, body_reading}
use Rattle.pg_copy_binary.specs.BinaryPart as binary

-- a reader of binary files may have these columns and this limit (0 columns included)
pub record AreBounds (columns limit : ℕ) : Type 0 where
  pub few : columns ≤ 32767
  pub short : limit ≤ 2147483647

-- `binary_reading` gives what the bytes of a binary file are, and they are nothing else.
pub record OneFile : Type 0 where
  pub there : (columns limit : ℕ) (bytes : List ℕ) → AreBounds columns limit → IsBytes bytes
      → IsBinaryFile columns limit bytes (binary_reading columns limit bytes).rows
      (binary_reading columns limit bytes).ending
  pub one : (columns limit : ℕ) (bytes : List ℕ) (rows : List Row) (ending : RowsEnding BinaryFault)
      → AreBounds columns limit
      → IsBytes bytes → IsBinaryFile columns limit bytes rows ending
      → binary_reading columns limit bytes ≡ record { rows = rows; ending = ending }

-- A head, with any flags below bit 16 and any extension, and rows that a reader takes are read as
-- those rows, before any other bytes and as a whole file with its trailer.
pub record BinaryRoundTrip : Type 0 where
  pub before : (columns limit : ℕ) (h : List ℕ) (rows : List Row) (rest : List ℕ)
      → AreBounds columns limit → IsHead h
      → AllByRecursion (FitsBinary columns limit) rows
      → binary_reading columns limit (h ++ flat_map binary_row rows ++ rest)
      ≡ after_rows rows (body_reading columns limit rest)
  pub whole : (columns limit : ℕ) (h : List ℕ) (rows : List Row) → AreBounds columns limit
      → IsHead h
      → AllByRecursion (FitsBinary columns limit) rows
      → binary.binary_file_reading columns limit (h ++ flat_map binary_row rows ++ trailer)
      ≡ record { rows = rows; ending = Done }

-- These fields were written to a buffer one after the other, and each call returned Ok.
abbrev pub WritesFields : Row → List ℕ → List ℕ → Type 0
WritesFields [] old new = new ≡ old
WritesFields (field ∷ fields) old new = (mid : List ℕ)
    × Writes (field_fault field) (value field) old (Ok tt) mid × WritesFields fields mid new

-- The number of a row's fields that was written, and then each field, is the row written: it has no
-- fault, and its bytes are appended.
pub record FieldsAreRow : Type 0 where
  pub row : (row : Row) (old mid new : List ℕ)
      → Writes (width_fault (length row)) (to_be_bytes w16 (length row)) old (Ok tt) mid
      → WritesFields row mid new
      → Writes (binary_fault row) (binary_row row) old (Ok tt) new
