-- A reader of a text file that rejects a line which is too long to be kept, as its callers see it,
-- and what its calls return.
use Rattle.std.specs.Prelude.{◌≡◌, ℕ, ◌+◌, ◌<◌, ◌≤◌, ◌⊎◌, Bool, true, false, List, length, Option, Some, None, Result, Ok, Err}
use Rattle.pg_copy_rows.specs.declared.fault.TextFault.{TextFault}
use Rattle.pg_copy_text.specs.declared.text_stage.TextStage.TheVariants as stages
use Rattle.pg_copy_rows.specs.Reading.{told}
use Rattle.pg_copy_rows.specs.Row.{Row}
use Rattle.pg_copy_text.specs.Text.{Options}
use Rattle.pg_copy_text.specs.TextReader.{TextState, HasReadText, PushesText, text_begun}
use Rattle.pg_copy.specs.declared.limit.fault.LimitedTextFault.{LimitedTextFault}
use Rattle.pg_copy.specs.declared.limit.fault.LimitedTextFault.TheVariants.{Text, LongLine}

-- the reader without the limit, the most bytes of a line that isn't whole, how many bytes were
-- pushed, as readers tell numbers, and whether a line was too long
pub record LimitedState : Type 0 where
  pub reader : TextState
  pub limit : ℕ
  pub pushed : ℕ
  pub long : Bool

-- a reader with these options, columns and limit that was pushed nothing
abbrev pub begun : Options → Option ℕ → ℕ → LimitedState
begun options columns limit = record {
  reader = text_begun options columns;
  limit = limit;
  pushed = 0;
  long = false;
}

-- The reader was pushed these bytes in all, and has given these rows: as a reader without a limit.
pub record HasReadLimited (s : LimitedState) (pushed : List ℕ) (given : List Row) : Type 0 where
  pub read : HasReadText s.reader pushed given
  pub counted : s.pushed ≡ told (length pushed)

-- A push takes the whole piece, as a reader without a limit does, or rejects it and changes
-- nothing: for a fault of that reader, or a line that was too long.
abbrev pub PushesLimited : LimitedState → List ℕ → Result Unit LimitedTextFault → LimitedState
    → Type 0
PushesLimited old piece (Ok x) new = (old.long ≡ false)
    × PushesText old.reader piece (Ok x) new.reader
    × (new ≡ record old {
      reader = new.reader;
      pushed = told (old.pushed + length piece);
    })
PushesLimited old piece (Err (Text f)) new = (old.long ≡ false)
    × PushesText old.reader piece (Err f) new.reader × (new ≡ old)
PushesLimited old piece (Err LongLine) new = (old.long ≡ true) × (new ≡ old)

-- what a reader without a limit returns in this place: no row, where a line is too long
abbrev pub as_text : Result (Option Row) LimitedTextFault → Result (Option Row) TextFault
as_text (Ok row) = Ok row
as_text (Err (Text f)) = Err f
as_text (Err LongLine) = Ok None

-- How a reader that was pushed these bytes in all has judged the length of the line that comes
-- next. LongLine: no row waits, and more bytes are kept than the limit. None: they aren't more, or
-- the end mark was read, or so many bytes were pushed that they aren't counted any more. Before a
-- row or another fault no length is judged.
abbrev pub JudgesLine : LimitedState → List ℕ → Result (Option Row) LimitedTextFault → Type 0
JudgesLine new pushed (Ok (Some row)) = new.long ≡ false
JudgesLine new pushed (Ok None) = (new.long ≡ false)
    × ((new.reader.stage ≡ stages.Marked) ⊎ ((length new.reader.kept ≤ new.limit)
    ⊎ (18446744073709551615 ≤ length pushed)))
JudgesLine new pushed (Err (Text f)) = new.long ≡ false
JudgesLine new pushed (Err LongLine) = (new.long ≡ true) × (new.reader.stage ≡ stages.Lines)
    × (new.limit < length new.reader.kept)
