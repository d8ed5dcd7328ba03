-- Rows, and which of them can be written.
use Rattle.std.specs.Prelude.{◌≡◌, ℕ, ◌++◌, ◌||◌, nat_lt, ◌==◌, Bool, false, if◌then◌else◌, List, length, Option, Some, None, Result, Ok, Err}
use Rattle.std.specs.List.{list_any}
use Rattle.pg_copy_rows.specs.declared.fault.RowFault.{RowFault}
use Rattle.pg_copy_rows.specs.declared.fault.RowFault.TheVariants as faults

-- the values of a row; None is null
abbrev pub Row : Type 0
Row = List (Option (List ℕ))

-- the most fields that a row may have
abbrev pub most_fields : ℕ
most_fields = 32767

-- whether a file has no such row for its number of fields: none, or more than 32,767
abbrev pub is_misfit : Row → Bool
is_misfit row = length row == 0 || nat_lt most_fields (length row)

-- whether a value is longer than the length field of a binary file can say
abbrev pub is_long : Option (List ℕ) → Bool
is_long None = false
is_long (Some bytes) = nat_lt 2147483647 (length bytes)

-- why a row can't have so many fields, if it can't: none, or more than 32,767
abbrev pub width_fault : ℕ → Option RowFault
width_fault count =
    if count == 0 || nat_lt most_fields count then Some (faults.Width count) else None

-- why a field can't be written in binary, if it can't: it is too long
abbrev pub field_fault : Option (List ℕ) → Option RowFault
field_fault field = if is_long field then Some faults.FieldLong else None

-- why a row can't be written in binary, if it can't: its number of fields, else a value that is too
-- long
abbrev pub binary_fault : Row → Option RowFault
binary_fault row =
    if is_misfit row then Some (faults.Width (length row))
    else if list_any is_long row then Some faults.FieldLong
    else None

-- What a writer returns for a row with this fault, or none, and these bytes: Ok, and they are
-- appended; its fault; or, where it has none, Memory. A fault leaves the buffer as it was.
abbrev pub Writes : Option RowFault → List ℕ → List ℕ → Result Unit RowFault → List ℕ → Type 0
Writes fault spelled old (Ok x) new = (fault ≡ None) × (new ≡ old ++ spelled)
Writes fault spelled old (Err faults.Memory) new = (fault ≡ None) × (new ≡ old)
Writes fault spelled old (Err f) new = (fault ≡ Some f) × (new ≡ old)
