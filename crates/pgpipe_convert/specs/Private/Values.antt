-- A writer of rows, and the values of a row that is lent.
use Rattle.std.specs.Prelude.{◌≡◌, ◌≤◌, ℕ, true, List, [], ◌∷◌, ◌++◌, length, Option, Some, None, Result, Ok, Err, option_copied}
use Rattle.std.specs.Iterator.{AlwaysYields}
use Rattle.std.specs.List.{position_from}
use Rattle.pg_copy.specs.fault.RowFault.{RowFault}
use Rattle.pg_copy.specs.fault.RowFault.TheVariants as faults
use Rattle.pg_copy.specs.Row.{Row}
use Rattle.pg_copy.specs.Text.{Options, is_like_null}
use Rattle.pg_copy.specs.TextLaws.{WritesTextFields}
use Rattle.pg_copy.specs.TextWriter.{RowWriterState}
use Rattle.pgpipe_convert.specs.declared.format.Format.{Format}
use Rattle.pgpipe_convert.specs.declared.values.Progress.{Progress}
use Rattle.pgpipe_convert.specs.declared.values.Progress.TheVariants as progress
use Rattle.pgpipe_convert.specs.Convert.{FileWriting, writing_with}
use denote.Ref.{Bor}
use mathlib.Core.List.{IsPrefix}

-- a writer of rows: its format, how many values the rows have that are lent to it, and its options
pub record RowWriting : Type 0 where
  pub format : Format
  pub columns : ℕ
  pub options : Options

-- how it writes a file
abbrev pub writing_by : RowWriting → FileWriting
writing_by w = writing_with w.options w.format

-- The values that this iterator gives are those of the row, and after them it ends.
abbrev pub AreGiven : {S : Type 0} → (S → Option (Option (Bor (List ℕ))) → S → Type 0) → S → Row
    → Type 0
AreGiven gives s row = AlwaysYields gives option_copied s row

-- What is returned for a line with this fault, or none, and these bytes: the answers of `Writes`.
-- But a line without a fault may be put off or rejected, and where the bytes aren't written, a part
-- of them may stand in the buffer.
abbrev pub WritesInPart : Option RowFault → List ℕ → List ℕ → Result Progress RowFault → List ℕ
    → Type 0
WritesInPart fault spelled old (Ok progress.Written) new = (fault ≡ None) × (new ≡ old ++ spelled)
WritesInPart fault spelled old (Ok progress.PutOff) new = (fault ≡ None) × IsPrefix old new
WritesInPart fault spelled old (Ok progress.Refused) new = (fault ≡ None) × IsPrefix old new
WritesInPart fault spelled old (Err f) new = (fault ≡ Some f) × IsPrefix old new

-- What is returned for a line with this fault, or none, and these bytes, where a buffer is left as
-- it was unless the bytes are written.
abbrev pub WritesOrNot : Option RowFault → List ℕ → List ℕ → Result Progress RowFault → List ℕ
    → Type 0
WritesOrNot fault spelled old (Ok progress.Written) new = (fault ≡ None) × (new ≡ old ++ spelled)
WritesOrNot fault spelled old (Ok progress.PutOff) new = (fault ≡ None) × (new ≡ old)
WritesOrNot fault spelled old (Ok progress.Refused) new = (fault ≡ None) × (new ≡ old)
WritesOrNot fault spelled old (Err f) new = (fault ≡ Some f) × (new ≡ old)

-- what a writer's answer comes to: want of memory is no fault of a value
abbrev pub progress_of : Result Unit RowFault → Result Progress RowFault
progress_of (Ok x) = Ok progress.Written
progress_of (Err faults.Memory) = Ok progress.Refused
progress_of (Err f) = Err f

-- what is said of a value of a line that was given to a writer to be judged alone, after so many
-- others, which have come so far: whether it is like null
abbrev pub judged_at : ℕ → Progress → Result Unit RowFault → Result Progress RowFault
judged_at before so_far (Err (faults.LikeNull n)) = Err (faults.LikeNull before)
judged_at before so_far _ = Ok so_far

-- These are the first values of a line that began at `start`: none of them is like null, and where
-- they have come so far, they are written.
pub record LineStands (o : Options) (row : Row) (start : List ℕ) (so_far : Progress)
    (w : RowWriterState) (out : List ℕ) : Type 0 where
  pub options : w.options ≡ o
  pub few : w.fields ≤ length row
  pub none_like_null : position_from (is_like_null o) 0 row ≡ None
  pub written : so_far ≡ progress.Written
      → (w.fields ≡ length row) × WritesTextFields o 0 row start out
  pub begun : IsPrefix start out

-- One more value comes: the line stands with it, or the value is like null.
abbrev pub LineGoesOn : Options → Row → List ℕ → Option (List ℕ) → Result Progress RowFault
    → RowWriterState → List ℕ → Type 0
LineGoesOn o row start v (Ok so_far) w out = LineStands o (row ++ v ∷ []) start so_far w out
LineGoesOn o row start v (Err f) w out = (w.options ≡ o) × (f ≡ faults.LikeNull (length row))
    × (is_like_null o v ≡ true) × IsPrefix start out
