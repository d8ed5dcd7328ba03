-- What a value is as text.
use Rattle.std.specs.Prelude.{◌≡◌, ℕ, List, Option, None, Some}
use Rattle.std.specs.List.{slice_get}
use Rattle.std.specs.Str.{IsUtf8}
use Rattle.pg_values.specs.declared.text.Text.{Text}
use Rattle.pg_values.specs.declared.text.Text.TheVariants as text

-- This is the text of a value: null has none, and bytes are given as a text where they are UTF-8,
-- and else as they are.
abbrev pub IsText : Text → Option (List ℕ) → Type 0
IsText text.Null value = value ≡ None
IsText (text.Utf8 s) value = value ≡ Some s.now
IsText (text.NotUtf8 bytes) value = (value ≡ Some bytes.now) × (IsUtf8 bytes.now → ⊥)

-- This is the text of the value at an index, and None past the last value.
abbrev pub IsTextAt : Option Text → List (Option (List ℕ)) → ℕ → Type 0
IsTextAt None values index = slice_get values index ≡ None
IsTextAt (Some t) values index = (value : Option (List ℕ)) × (slice_get values index ≡ Some value)
    × IsText t value
