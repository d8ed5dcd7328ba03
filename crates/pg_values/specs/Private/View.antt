-- Rows, errors and notices read in place: the values and fields that are still to come.
use Rattle.std.specs.Prelude.{ℕ, zero, suc, List, [], ◌∷◌, length, Option}
use Rattle.std.specs.Option.{option_map_or}
use Rattle.pg_codec.specs.declared.value.ErrorField.{ErrorField}
use Rattle.pg_codec.specs.Private.Reader.{value_at, counted_at, terminated_at, error_field_at, whole}

-- the values that are still to come: so many, or fewer where the bytes have no more
unfoldable pub values_left : ℕ → List ℕ → List (Option (List ℕ))
values_left zero bytes = []
values_left (suc n) bytes = option_map_or (λ x. x.0 ∷ values_left n x.1) (value_at bytes) []

-- the fields that are still to come, at most so many: they end where the bytes begin none
unfoldable pub fields_within : ℕ → List ℕ → List ErrorField
fields_within zero bytes = []
fields_within (suc n) bytes = option_map_or (λ x. x.0 ∷ fields_within n x.1)
    (error_field_at bytes) []

-- the fields that are still to come: each has a byte at least, so these are all
abbrev pub fields_left : List ℕ → List ErrorField
fields_left bytes = fields_within (length bytes) bytes

-- the values of a row, by its body
abbrev pub row_of : List ℕ → Option (List (Option (List ℕ)))
row_of body = whole (λ values. values) (counted_at value_at body)

-- the fields of an error or a notice, by its body
abbrev pub fields_of : List ℕ → Option (List ErrorField)
fields_of body = whole (λ fields. fields) (terminated_at error_field_at body)
