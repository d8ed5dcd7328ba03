-- A row of a binary file read in place: the values that are still to come. A row that is written
-- from where its values stand: their size.
use Rattle.std.specs.Prelude.{◌≡◌, ℕ, zero, suc, true, false, List, [], ◌∷◌, length, Option, Some, None, Result, Ok, Err}
use Rattle.std.specs.List.{flat_map, list_any}
use Rattle.pg_copy_rows.specs.Row.{Row, is_long}
use Rattle.pg_copy_binary.specs.Binary.{value}
use Rattle.pg_copy_binary.specs.BinaryPart.{NoPart, value_at}

-- a value, where one was read, and those that are read after it
abbrev pub value_then : (List ℕ → Row) → Result (Option (List ℕ) × List ℕ) NoPart → Row
value_then next (Ok x) = x.0 ∷ next x.1
value_then next (Err stop) = []

-- the values that are still to come: so many, or fewer where the bytes have no more
unfoldable pub values_left : ℕ → ℕ → List ℕ → Row
values_left limit zero bytes = []
values_left limit (suc n) bytes =
    value_then (λ rest. values_left limit n rest) (value_at limit bytes)

-- the row that is lent, whose values these bytes begin with
abbrev pub held_row : ℕ → ℕ → Option (List ℕ) → Option Row
held_row columns limit None = None
held_row columns limit (Some bytes) = Some (values_left limit columns bytes)

-- The values of a row take so many bytes in all, or one of them is too long (None).
abbrev pub AreSized : Row → Option ℕ → Type 0
AreSized row None = list_any is_long row ≡ true
AreSized row (Some n) = (list_any is_long row ≡ false) × (length (flat_map value row) ≡ n)
