-- What the fields of an error or a notice are shown as (Frontend/Backend Protocol, "Error and Notice
-- Message Fields").
use Rattle.std.specs.Prelude.{ℕ, ◌==◌, ◌||◌, Bool, false, if◌then◌else◌, List, [], ◌++◌, Option, None, Some, codes}
use Rattle.std.specs.List.{flat_map}
use Rattle.pg_wire.specs.value.ErrorField.{ErrorField}
use Rattle.pg_values.specs.Fields.{severity_text, code_text, message_text}
use Rattle.pgpipe_texts.specs.Text.{shown_byte, quoted, whole}

-- the name of a field, by its code; a code without a name stands for itself
unfoldable pub field_name : ℕ → List ℕ
field_name code =
    if code == 68 then codes "detail"
    else if code == 72 then codes "hint"
    else if code == 80 then codes "position"
    else if code == 112 then codes "internal position"
    else if code == 113 then codes "internal query"
    else if code == 87 then codes "where"
    else if code == 115 then codes "schema"
    else if code == 116 then codes "table"
    else if code == 99 then codes "column"
    else if code == 100 then codes "type"
    else if code == 110 then codes "constraint"
    else if code == 70 then codes "file"
    else if code == 76 then codes "line"
    else if code == 82 then codes "routine"
    else shown_byte false 92 code

-- whether a field is of the four that stand first: S, V, C and M
abbrev pub stands_first : ℕ → Bool
stands_first code = code == 83 || code == 86 || code == 67 || code == 77

-- a field that doesn't stand first: its name and its text
unfoldable pub further_field : ErrorField → List ℕ
further_field f = if stands_first f.code then []
    else codes ", " ++ field_name f.code ++ codes " " ++ quoted f.value

-- a text that stands first, or a dash where there is none
abbrev pub first_field : Option (List ℕ) → List ℕ
first_field None = codes "-"
first_field (Some text) = whole text

-- the fields: severity, code and message, and then the others
unfoldable pub fields_text : List ErrorField → List ℕ
fields_text fields =
    first_field (severity_text fields) ++ codes " " ++ first_field (code_text fields) ++ codes " "
    ++ first_field (message_text fields) ++ flat_map further_field fields
