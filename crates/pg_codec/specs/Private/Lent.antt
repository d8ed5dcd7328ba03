-- Reading in place: what is left after a value, and a field as it is lent.
use Rattle.std.specs.Prelude.{ℕ, List, Option}
use Rattle.std.specs.Option.{option_map}
use Rattle.std.specs.Borrow.{Bor}
use Rattle.pg_codec.specs.declared.value.ErrorField.{ErrorField}

-- the bytes that are left after what was read
abbrev pub left_after : {A : Type 0} → Option (A × List ℕ) → Option (List ℕ)
left_after read = option_map (λ x. x.1) read

-- a field of an error or a notice, by its code and its text as they are lent
abbrev pub lent_field : ℕ × Bor (List ℕ) → ErrorField
lent_field f = record { code = f.0; value = f.1.now }
