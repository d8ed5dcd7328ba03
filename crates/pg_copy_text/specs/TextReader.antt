-- A reader of a text file as its callers see it, what its calls do, and what it was given and has
-- given.
use Rattle.std.specs.Prelude.{◌≡◌, ℕ, zero, suc, ◌+◌, ◌<◌, ◌⊎◌, Bool, false, List, [], ◌∷◌, ◌++◌, length, Option, None, Result, Ok, Err}
use Rattle.pg_copy_rows.specs.declared.fault.TextFault.{TextFault}
use Rattle.pg_copy_rows.specs.declared.fault.TextFault.TheVariants.{Memory}
use Rattle.pg_copy_text.specs.declared.line_end.LineEnd.{LineEnd}
use Rattle.pg_copy_text.specs.declared.text_stage.TextStage.{TextStage}
use Rattle.pg_copy_text.specs.declared.text_stage.TextStage.TheVariants as stages
use Rattle.pg_copy_rows.specs.Row.{Row}
use Rattle.pg_copy_rows.specs.Reading.{RowsRead, RowsEnding, Open, Done, Ended, Bad, after_rows, told}
use Rattle.pg_copy_text.specs.Text.{Options, end_len, lines, decided_at_end, reading_after, text_reading, last_after, text_file_reading}

-- a reader's options, its columns (None for any number), how the lines of the rows that it gave
-- ended (None before the first), the bytes that it keeps since they are no whole row yet, its
-- stage, whether `finish` has ended the input, how many rows it has given, where in the file the
-- next line begins, and the row that it lends, if it lends one
pub record TextState : Type 0 where
  pub options : Options
  pub columns : Option ℕ
  pub line_end : Option LineEnd
  pub kept : List ℕ
  pub stage : TextStage
  pub ended : Bool
  pub given : ℕ
  pub offset : ℕ
  pub held : Option Row

-- a reader with these options and columns that was pushed nothing
abbrev pub text_begun : Options → Option ℕ → TextState
text_begun options columns = record {
  options = options;
  columns = columns;
  line_end = None;
  kept = [];
  stage = stages.Lines;
  ended = false;
  given = 0;
  offset = 0;
  held = None;
}

-- where the first n of these lines end, or all where there are fewer: so many bytes end each line
-- but the last
abbrev pub lines_size : ℕ → ℕ → List (List ℕ) → ℕ
lines_size end zero lines = 0
lines_size end (suc n) [] = 0
lines_size end (suc n) (line ∷ []) = length line
lines_size end (suc n) (line ∷ next ∷ lines) =
    length line + end + lines_size end n (next ∷ lines)

-- where the first n lines end of bytes that come after lines which ended so, or after none
unfoldable pub lines_end : Option LineEnd → List ℕ → ℕ → ℕ
lines_end before bytes n =
    lines_size (end_len (decided_at_end before bytes)) n (lines (decided_at_end before bytes) bytes)

-- what a reader at this stage still gives of these bytes
abbrev pub text_stage_reading : TextStage → Options → Option ℕ → Option LineEnd → List ℕ
    → RowsRead TextFault
text_stage_reading stages.Lines o columns before bytes = reading_after o columns before bytes
text_stage_reading stages.Marked o columns before bytes = record { rows = []; ending = Done }
text_stage_reading (stages.Failed fault) o columns before bytes =
    record { rows = []; ending = Bad fault }

-- what the reader still gives, if these bytes are pushed next
abbrev pub text_left : TextState → List ℕ → RowsRead TextFault
text_left s more =
    text_stage_reading s.stage s.options s.columns s.line_end (s.kept ++ more)

-- what a reader at this stage still gives of these bytes, if the input has ended
abbrev pub text_stage_last : TextStage → Options → Option ℕ → Option LineEnd → List ℕ
    → RowsRead TextFault
text_stage_last stages.Lines o columns before bytes = last_after o columns before bytes
text_stage_last stages.Marked o columns before bytes = record { rows = []; ending = Done }
text_stage_last (stages.Failed fault) o columns before bytes =
    record { rows = []; ending = Bad fault }

-- what the reader still gives, if the input has ended
abbrev pub text_last : TextState → RowsRead TextFault
text_last s = text_stage_last s.stage s.options s.columns s.line_end s.kept

-- The reader was pushed these bytes in all, and has given these rows: they are the first that a
-- file which begins so has, and what the reader still gives is the rest of that file's reading. It
-- tells how many they are, and where as many lines end. While it is among the lines, those that
-- come next are the lines of what it keeps.
pub record HasReadText (s : TextState) (pushed : List ℕ) (given : List Row) : Type 0 where
  pub so_far : s.ended ≡ false → (more : List ℕ)
      → text_reading s.options s.columns (pushed ++ more) ≡ after_rows given (text_left s more)
  pub to_end : s.ended ≡ false → (more : List ℕ)
      → text_file_reading s.options s.columns (pushed ++ more)
      ≡ after_rows given (text_last (record s { kept = s.kept ++ more }))
  pub in_all : text_file_reading s.options s.columns pushed ≡ after_rows given (text_last s)
  pub counted : s.given ≡ told (length given)
  pub placed : s.offset ≡ told (lines_end None pushed (length given))
  pub goes_on : (more : List ℕ) (n : ℕ) → (s.ended ≡ false) ⊎ (more ≡ [])
      → (s.stage ≡ stages.Lines) ⊎ (n ≡ 0)
      → lines_end None (pushed ++ more) (length given + n)
      ≡ lines_end None pushed (length given) + lines_end s.line_end (s.kept ++ more) n

-- what stands after all rows, of a reader at this stage that keeps these bytes, while the input
-- goes on
abbrev pub text_ending : TextStage → List ℕ → RowsEnding TextFault
text_ending stages.Lines kept = Open kept
text_ending stages.Marked kept = Done
text_ending (stages.Failed fault) kept = Bad fault

-- what stands after all rows, of a reader at this stage, once the input has ended
abbrev pub last_text_ending : TextStage → RowsEnding TextFault
last_text_ending stages.Lines = Ended
last_text_ending stages.Marked = Done
last_text_ending (stages.Failed fault) = Bad fault

-- the reader after a piece that it took at this stage: among the rows it keeps the piece, and lends
-- no row any more; after the end mark it drops it
abbrev pub kept_at : TextStage → TextState → List ℕ → TextState
kept_at stages.Lines s piece = record s { kept = s.kept ++ piece; held = None }
kept_at stages.Marked s piece = s
kept_at (stages.Failed fault) s piece = s

-- the reader after a push that took this piece
abbrev pub kept_after : TextState → List ℕ → TextState
kept_after s piece = kept_at s.stage s piece

-- A push takes the whole piece, or rejects it and changes nothing: by the fault that was found
-- before, or because memory ran out, but never a piece without bytes or after the end mark.
abbrev pub PushesText : TextState → List ℕ → Result Unit TextFault → TextState → Type 0
PushesText old piece (Ok x) new = ((f : TextFault) → old.stage ≡ stages.Failed f → ⊥)
    × (new ≡ kept_after old piece)
PushesText old piece (Err f) new = ((old.stage ≡ stages.Failed f)
    ⊎ ((f ≡ Memory) × (old.stage ≡ stages.Lines) × (0 < length piece))) × (new ≡ old)
