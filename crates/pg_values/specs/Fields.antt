-- The fields of an error or a notice that callers ask for by name, and how fields are spelled
-- (Frontend/Backend Protocol, "Error and Notice Message Fields").
use Rattle.std.specs.Prelude.{ℕ, ◌==◌, if◌then◌else◌, List, [], ◌∷◌, Option, None, Some}
use Rattle.std.specs.Option.{option_or}
use Rattle.pg_codec.specs.declared.value.ErrorField.{ErrorField}
use Rattle.pg_codec.specs.Field.{listed}
use Rattle.pg_codec.specs.Value.{error_field}

-- the text of the first field with this code
abbrev pub field_text : ℕ → List ErrorField → Option (List ℕ)
field_text code [] = None
field_text code (f ∷ fields) = if f.code == code then Some f.value else field_text code fields

-- the SQLSTATE code of the error
abbrev pub code_text : List ErrorField → Option (List ℕ)
code_text fields = field_text 67 fields  -- C

-- the severity: the one that is never translated, or where that is absent the other
abbrev pub severity_text : List ErrorField → Option (List ℕ)
severity_text fields = option_or (field_text 86 fields) (field_text 83 fields)  -- V, S

-- the primary message
abbrev pub message_text : List ErrorField → Option (List ℕ)
message_text fields = field_text 77 fields  -- M

-- the fields as a message spells them, one after the other: of each its code, its text and a zero byte
abbrev pub fields_spelled : List ErrorField → List ℕ
fields_spelled fields = (listed error_field fields).bytes
