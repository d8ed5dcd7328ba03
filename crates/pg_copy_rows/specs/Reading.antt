-- What the bytes of a file, or of its beginning, are read as; what a call that looks for the next
-- row returns; and the numbers that a reader returns.
use Rattle.std.specs.Prelude.{◌≡◌, ℕ, suc, ◌<◌, nat_lt, if◌then◌else◌, ◌⊎◌, List, [], ◌∷◌, ◌++◌, length, Option, Some, None, Result, Ok, Err}
use Rattle.pg_copy_rows.specs.Row.{Row}

-- What stands after the rows: bytes that may still become a row (Open), the end mark or the trailer
-- (Done), nothing at the end of the input (Ended), or a fault (Bad).
pub data RowsEnding (F : Type 0) : Type 0 where
  Open : List ℕ → RowsEnding F
  Done : RowsEnding F
  Ended : RowsEnding F
  Bad : F → RowsEnding F

-- What bytes are read as: rows, and what stands after them.
pub record RowsRead (F : Type 0) : Type 0 where
  pub rows : List Row
  pub ending : RowsEnding F

-- a reading with these rows before its own
abbrev pub after_rows : {F : Type 0} → List Row → RowsRead F → RowsRead F
after_rows rows r = record { rows = rows ++ r.rows; ending = r.ending }

-- At least one row is still to be given.
abbrev pub RowWaits : {F : Type 0} → RowsRead F → Type 0
RowWaits r = 0 < length r.rows

-- the row that a call with this result gave, if it gave one
abbrev pub given_by : {F : Type 0} → Result (Option Row) F → List Row
given_by (Ok (Some row)) = row ∷ []
given_by (Ok None) = []
given_by (Err f) = []

-- The rows don't end with a fault.
abbrev pub IsGood : {F : Type 0} → RowsEnding F → Type 0
IsGood (Bad f) = ⊥
IsGood ending = Unit {0}

-- What `next` returns for this file, where the rows `given` were given before and the reader then
-- stands at `ending`: None only where the file has no more rows, a fault only where it stands after
-- them, or that memory ran out (`memory`).
abbrev pub AnswersNext : {F : Type 0} → F → RowsRead F → List Row → RowsEnding F
    → Result (Option Row) F
    → Type 0
AnswersNext memory file given ending (Ok (Some row)) = Unit {0}
AnswersNext memory file given ending (Ok None) = IsGood ending
    × (file ≡ record { rows = given; ending = ending })
AnswersNext memory file given ending (Err f) = (f ≡ memory)
    ⊎ ((ending ≡ Bad f) × (file ≡ record { rows = given; ending = Bad f }))

-- the number that a reader returns, of rows or bytes: the number itself, or the last one of 64 bits
abbrev pub told : ℕ → ℕ
told n = if nat_lt n 18446744073709551615 then n else 18446744073709551615

-- the number of rows that a reader returns after one more: it stays at the last one of 64 bits
abbrev pub one_more : ℕ → ℕ
one_more n = if nat_lt n 18446744073709551615 then suc n else n

-- the number of rows that a reader returns after these rows too
abbrev pub given_after : ℕ → List Row → ℕ
given_after n [] = n
given_after n (row ∷ rows) = given_after (one_more n) rows
