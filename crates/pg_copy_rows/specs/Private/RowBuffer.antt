-- The bytes that a reader keeps, in front of which a row may stand that is lent.
use Rattle.std.specs.Prelude.{ℕ, List, Option, Some, None}

-- the bytes from the row on that is lent, where one is, and those that aren't taken
pub record RowBytes : Type 0 where
  pub front : Option (List ℕ)
  pub kept : List ℕ

-- how many bytes of a row stand in front of those that aren't taken
abbrev pub held_len : Option ℕ → ℕ
held_len None = 0
held_len (Some n) = n

-- all bytes, where a row stands in front
abbrev pub front_of : Option ℕ → List ℕ → Option (List ℕ)
front_of None bytes = None
front_of (Some n) bytes = Some bytes
