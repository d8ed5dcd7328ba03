-- Values that stand in bytes, each ended by a cut.
use Rattle.std.specs.Prelude.{◌≡◌, ◌≤◌, ◌+◌, ◌-◌, ◌==◌, ℕ, if◌then◌else◌, List, [], ◌∷◌, length, Option, Some, None}
use Rattle.std.specs.List.{between}
use Rattle.pg_copy_rows.specs.Row.{Row}

-- the value that begins at a place and ends at a cut: a text with a byte after it, or null, which
-- takes no byte
abbrev pub value_by : ℕ → ℕ → List ℕ → Option (List ℕ)
value_by start cut bytes = if cut == start then None else Some (between start (cut - 1) bytes)

-- the values that stand in bytes from a place on, and end at these cuts
abbrev pub values_by : ℕ → List ℕ → List ℕ → Row
values_by start [] bytes = []
values_by start (cut ∷ cuts) bytes = value_by start cut bytes ∷ values_by cut cuts bytes

-- The cuts come in their order from a place on, and the texts in front of them lie in so many bytes.
abbrev pub AreCuts : ℕ → List ℕ → ℕ → Type 0
AreCuts start [] len = Unit {0}
AreCuts start (cut ∷ cuts) len = (start ≤ cut) × (cut ≤ len + 1) × AreCuts cut cuts len

-- The values of a row stand in bytes, and end at these cuts.
pub record AreTexts (row : Row) (cuts bytes : List ℕ) : Type 0 where
  pub cut : AreCuts 0 cuts (length bytes)
  pub values : values_by 0 cuts bytes ≡ row

-- where the next value begins behind these cuts
abbrev pub last_cut : ℕ → List ℕ → ℕ
last_cut start [] = start
last_cut start (cut ∷ cuts) = last_cut cut cuts
