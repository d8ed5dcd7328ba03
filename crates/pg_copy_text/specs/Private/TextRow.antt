-- A row of a text file that is lent.
use Rattle.std.specs.Prelude.{ℕ, List, length, map, Option, Some, None}
use Rattle.pg_copy_rows.specs.Row.{Row}
use Rattle.pg_copy_text.specs.Text.{Options, parts, field_value}
use Rattle.pg_copy_rows.specs.Private.Cuts.{values_by, AreCuts}

-- the values of a line
abbrev pub line_values : Options → List ℕ → Row
line_values o line = map (field_value o) (parts o.delimiter line)

-- the row that is lent, whose texts these bytes begin with
abbrev pub held_row : List ℕ → Option (List ℕ) → Option Row
held_row cuts None = None
held_row cuts (Some bytes) = Some (values_by 0 cuts bytes)

-- Where a row is lent, its texts end at these cuts.
abbrev pub AreHeld : List ℕ → Option (List ℕ) → Type 0
AreHeld cuts None = Unit {0}
AreHeld cuts (Some bytes) = AreCuts 0 cuts (length bytes)
