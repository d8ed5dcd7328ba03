-- What the rows of a file are read as, one after the other. What a line means is a function of what
-- was read so far, the number of the line's row, its verb, and the fields after it. It gives what
-- is read with the line, or nothing where the line has no meaning there.
use Rattle.std.specs.Prelude.{ℕ, ◌+◌, Bool, true, false, if◌then◌else◌, List, [], ◌∷◌, Option, Some, None, Result, Ok, Err}
use Rattle.pg_copy.specs.fault.TextFault.{TextFault}
use Rattle.pg_copy.specs.Row.{Row}
use Rattle.pg_copy.specs.Reading.{RowsEnding, Bad}
use Rattle.pg_copy.specs.Text.{default_options, text_file_reading}
use Rattle.pgpipe_lines.specs.Arguments.{◌>>=◌, text_at}

-- whether the row is that of an empty line: one empty field
abbrev pub is_blank : Row → Bool
is_blank (Some [] ∷ []) = true
is_blank _ = false

-- what is read with row n too: a blank row changes nothing, and in any other the first field is the
-- verb
abbrev pub with_row : {S : Type 0} → (S → ℕ → List ℕ → Row → Option S) → S → ℕ → Row → Option S
with_row line so_far n row =
    if is_blank row then Some so_far else (text_at row >>= λ verb. line so_far n verb.0 verb.1)

-- the number of row n, where it has no meaning, and else what `more` gives
abbrev pub or_refused : {S A : Type 0} → ℕ → Option S → (S → Result A ℕ) → Result A ℕ
or_refused n None more = Err n
or_refused n (Some so_far) more = more so_far

-- What is read with these rows too, the first of which has number n; or the number of the first
-- that has no meaning. A fault of the text format stands in the place of a row.
unfoldable pub with_rows : {S : Type 0} → (S → ℕ → List ℕ → Row → Option S) → S → ℕ → List Row
    → RowsEnding TextFault
    → Result S ℕ
with_rows line so_far n [] (Bad fault) = Err n
with_rows line so_far n [] ending = Ok so_far
with_rows line so_far n (row ∷ rows) ending =
    or_refused n (with_row line so_far n row) (λ next. with_rows line next (n + 1) rows ending)

-- what is read with all rows of this file, numbered from 1, or the number of the first that has no
-- meaning
abbrev pub with_file : {S : Type 0} → (S → ℕ → List ℕ → Row → Option S) → S → List ℕ → Result S ℕ
with_file line so_far bytes =
    with_rows line so_far 1 (text_file_reading default_options None bytes).rows
    (text_file_reading default_options None bytes).ending

-- what the whole file is read as, by what `end` makes of all its lines, or the number of a row that
-- is rejected
abbrev pub in_the_end : {S A : Type 0} → Result S ℕ → (S → Result A ℕ) → Result A ℕ
in_the_end (Ok so_far) end = end so_far
in_the_end (Err n) end = Err n
