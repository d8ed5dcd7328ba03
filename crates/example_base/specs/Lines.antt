-- Lines of text, as bytes.
use Rattle.std.specs.Prelude.{ℕ, List, [], ◌∷◌, ◌++◌, map, Option, Some, None, codes}
use Rattle.pg_wire.specs.Fields.{code_text, message_text, severity_text}
use Rattle.pg_wire.specs.value.Column.{Column}
use Rattle.pg_wire.specs.value.ErrorField.{ErrorField}

-- What is printed of a value: its bytes, and nothing for a null.
abbrev pub value_text : Option (List ℕ) → List ℕ
value_text None = []
value_text (Some bytes) = bytes

-- What is printed of the values after the first: a bar before each.
abbrev pub barred : List (Option (List ℕ)) → List ℕ
barred [] = []
barred (value ∷ values) = codes "|" ++ value_text value ++ barred values

-- The line of a row: its values with a bar between two, and a newline. A row without values has
-- no line.
abbrev pub row_line : List (Option (List ℕ)) → List ℕ
row_line [] = []
row_line (value ∷ values) = value_text value ++ barred values ++ codes "\n"

-- The text of a column's name.
abbrev pub name_value : Column → Option (List ℕ)
name_value column = Some column.name

-- The line of the columns' names, with a bar between two.
abbrev pub names_line : List Column → List ℕ
names_line [] = codes "\n"
names_line (column ∷ columns) = column.name ++ barred (map name_value columns) ++ codes "\n"

-- The line of an error or a notice: its severity, its code and its message.
abbrev pub error_line : List ErrorField → List ℕ
error_line fields = value_text (severity_text fields) ++ codes ":  "
    ++ value_text (code_text fields) ++ codes ": " ++ value_text (message_text fields)
    ++ codes "\n"
