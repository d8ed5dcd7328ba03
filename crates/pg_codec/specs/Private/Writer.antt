-- A buffer that is appended to.
use Rattle.std.specs.Prelude.{ℕ, ◌≡◌, ◌<◌, ◌+◌, List, Option, Some, None}

-- what was there before, and what was added
pub record Appended : Type 0 where
  pub before : List ℕ
  pub added : List ℕ

-- The room that is left after so many bytes, or None where they don't fit.
abbrev pub LeavesRoom : ℕ → ℕ → Option ℕ → Type 0
LeavesRoom room size None = room < size
LeavesRoom room size (Some left) = left + size ≡ room
