-- Lines that are written field by field.
use Rattle.std.specs.Prelude.{ℕ, suc, nat_lt, if◌then◌else◌, List, [], ◌∷◌, ◌++◌, Option}
use Rattle.pg_copy.specs.Row.{Row, most_fields}
use Rattle.pg_copy.specs.Text.{default_options, newline}
use Rattle.pg_copy.specs.TextWriter.{next_written}

-- the text so far, and how many fields its open line has
pub record LineState : Type 0 where
  pub text : List ℕ
  pub fields : ℕ

-- a text of whole lines
abbrev pub whole_lines : List ℕ → LineState
whole_lines text = record { text = text; fields = 0 }

-- one field more, if the line may have it
unfoldable pub with_field : LineState → Option (List ℕ) → LineState
with_field s field =
    if nat_lt s.fields most_fields then record {
      text = s.text ++ next_written default_options s.fields field;
      fields = suc s.fields;
    }
    else s

-- with these fields more, one after the other
abbrev pub with_fields : LineState → Row → LineState
with_fields s [] = s
with_fields s (field ∷ fields) = with_fields (with_field s field) fields

-- the line is closed
unfoldable pub with_end : LineState → LineState
with_end s = record { text = s.text ++ newline ∷ []; fields = 0 }

-- one line more
abbrev pub with_row : LineState → Row → LineState
with_row s row = with_end (with_fields s row)

-- with these lines more, one after the other
abbrev pub with_rows : LineState → List Row → LineState
with_rows s [] = s
with_rows s (row ∷ rows) = with_rows (with_row s row) rows
