-- What a function answers for one line.
use Rattle.std.specs.Prelude.{◌≡◌, ℕ, suc, ◌+◌, ◌<◌, ◌≤◌, ◌⊎◌, Bool, true, List, [], ◌∷◌, ◌++◌, length, take, drop, map, Option, Some, None, Result, Ok, Err}
use Rattle.pg_copy_rows.specs.declared.fault.TextFault.{TextFault}
use Rattle.pg_copy_rows.specs.declared.fault.TextFault.TheVariants.{Memory}
use Rattle.pg_copy_text.specs.declared.line_end.LineEnd.{LineEnd}
use Rattle.pg_copy_text.specs.declared.text_line.JudgedLine.{JudgedLine}
use Rattle.pg_copy_text.specs.declared.text_line.JudgedLine.TheVariants as judged
use Rattle.pg_copy_text.specs.declared.text_stage.TextStage.TheVariants as stages
use Rattle.pg_copy_rows.specs.Row.{Row}
use Rattle.pg_copy_rows.specs.Reading.{RowsRead, Done, Bad, after_rows, RowWaits, IsGood, told, one_more}
use Rattle.pg_copy_text.specs.Text.{Options, parts, field_value, line_reading, lines, end_len, decided_at_end}
use Rattle.pg_copy_text.specs.declared.scan.Scan.{Scan}
use Rattle.pg_copy_text.specs.declared.text_stage.TextStage.{TextStage}
use Rattle.pg_copy_text.specs.TextReader.{TextState, lines_end, text_last, last_text_ending}
use Rattle.pg_copy_rows.specs.Lent.{as_next, Lends}
use Rattle.pg_copy_text.specs.declared.text_reader.steps.LineLeft.{LineLeft}
use Rattle.pg_copy_text.specs.Private.Units.{IsScanned, IsCounted}
use Rattle.pg_copy_text.specs.Private.Breaks.{IsLastLine}
use Rattle.pg_copy_rows.specs.Private.RowBuffer.{RowBytes}
use Rattle.pg_copy_rows.specs.Private.Cuts.{AreTexts}
use Rattle.pg_copy_text.specs.Private.Cuts.{AreNoted}
use Rattle.pg_copy_text.specs.Private.TextRow.{line_values, AreHeld}

-- what a line is read as, whatever comes after it
abbrev pub LineGives : Options → Option ℕ → List ℕ → Row → Type 0
LineGives o columns line row = (after : RowsRead TextFault)
    → line_reading o columns line after ≡ after_rows (row ∷ []) after

-- the line is the end mark: no row comes after it
abbrev pub LineEnds : Options → Option ℕ → List ℕ → Type 0
LineEnds o columns line = (after : RowsRead TextFault)
    → line_reading o columns line after ≡ record { rows = []; ending = Done }

-- a fault of the line, which isn't Memory
pub record LineFails (o : Options) (columns : Option ℕ) (line : List ℕ)
    (fault : TextFault) : Type 0 where
  pub is : (after : RowsRead TextFault)
      → line_reading o columns line after ≡ record { rows = []; ending = Bad fault }
  pub not_memory : fault ≡ Memory → ⊥

-- What a line was judged to be is what it is read as.
abbrev pub IsJudged : Options → Option ℕ → List ℕ → JudgedLine → Type 0
IsJudged o columns line judged.EndMark = LineEnds o columns line
IsJudged o columns line (judged.Row n) = (n ≡ length (parts o.delimiter line))
    × LineGives o columns line (map (field_value o) (parts o.delimiter line))
IsJudged o columns line (judged.Faulty fault) = LineFails o columns line fault

-- the reader after a line of so many bytes with what ends it, whose row it gives: lines end so from
-- then on
abbrev pub passed : ℕ → Option LineEnd → TextState → TextState
passed taken end s = record s {
  kept = drop taken s.kept;
  line_end = end;
  given = one_more s.given;
  offset = told (s.offset + taken);
  held = None;
}

-- the reader, which lends no row any more
abbrev pub let_go : TextState → TextState
let_go s = record s { held = None }

-- the reader after a line of so many bytes, which it lends
abbrev pub lending : ℕ → ℕ → Option LineEnd → TextState → TextState
lending len taken end s =
    record (passed taken end s) { held = Some (line_values s.options (take len s.kept)) }

-- A line of so many bytes is taken off, with what ends it, and lines end so from then on; or the
-- reader stops at the end mark or at the line's fault; or memory for its row runs out, and
-- nothing changes.
abbrev pub TakesLine : ℕ → ℕ → Option LineEnd → TextState → Result (Option Row) TextFault
    → TextState → Type 0
TakesLine len taken end old (Ok (Some row)) new =
    LineGives old.options old.columns (take len old.kept) row
    × (new ≡ passed taken end old)
TakesLine len taken end old (Ok None) new = LineEnds old.options old.columns (take len old.kept)
    × (new ≡ record old { kept = []; stage = stages.Marked; held = None })
TakesLine len taken end old (Err fault) new =
    ((fault ≡ Memory) × (new ≡ old) × (row : Row)
    × LineGives old.options old.columns (take len old.kept) row)
    ⊎ (LineFails old.options old.columns (take len old.kept) fault
    × (new ≡ record old { kept = []; stage = stages.Failed fault; held = None }))

-- A line of so many bytes is taken off as TakesLine says, but its row is lent in place of being
-- given.
abbrev pub LendsLine : ℕ → ℕ → Option LineEnd → TextState → Result Bool TextFault → TextState
    → Type 0
LendsLine len taken end old answer new =
    TakesLine len taken end old (as_next answer new.held) (let_go new) × Lends answer new.held

-- the reader after an answer at the end of the input: it has ended, unless memory ran out
abbrev pub EndsInput : {A : Type 0} → Result A TextFault → TextState → TextState → Type 0
EndsInput (Ok x) mid new = new ≡ record mid { ended = true }
EndsInput (Err fault) mid new = ((fault ≡ Memory) × (new ≡ mid))
    ⊎ ((fault ≡ Memory → ⊥) × (new ≡ record mid { ended = true }))

-- The first line of these bytes, which come after lines that ended so, ends so at the end of the
-- input: it has so many bytes, and so many with what ends it.
pub record EndsLine (before : Option LineEnd) (bytes : List ℕ) (len taken : ℕ)
    (e : LineEnd) : Type 0 where
  pub some : 0 < taken
  pub sizes : taken ≡ len + end_len e
  pub is_last : IsLastLine before bytes e len taken

-- These bytes are one line at the end of the input, which has no end.
pub record IsOpenLine (before : Option LineEnd) (bytes : List ℕ) : Type 0 where
  pub some : 0 < length bytes
  pub one : lines (decided_at_end before bytes) bytes ≡ bytes ∷ []

-- The first line of these bytes has so many at the end of the input, so many go off with what ends
-- it, and lines end so from then on.
abbrev pub IsLineLeft : Option LineEnd → List ℕ → ℕ → ℕ → Option LineEnd → Type 0
IsLineLeft before bytes len taken end =
    ((e : LineEnd) × (end ≡ Some e) × EndsLine before bytes len taken e)
    ⊎ ((len ≡ length bytes) × (taken ≡ length bytes) × IsOpenLine before bytes)

-- What is to be taken of the first line of these bytes at the end of the input.
pub record IsLeft (delimiter : ℕ) (before : Option LineEnd) (bytes : List ℕ)
    (left : LineLeft) : Type 0 where
  pub counted : IsCounted delimiter bytes left.scan
  pub in_order : left.scan.at ≤ left.taken
  pub in_range : left.taken ≤ length bytes
  pub line : IsLineLeft before bytes left.scan.at left.taken left.line_end

-- A line of these bytes is left at the end of the input, or there are none.
abbrev pub FindsLeft : ℕ → Option LineEnd → List ℕ → Option LineLeft → Type 0
FindsLeft delimiter before bytes None = bytes ≡ []
FindsLeft delimiter before bytes (Some left) = IsLeft delimiter before bytes left

-- The texts of the first line that was kept, which had so many bytes, stand in its place and end at
-- these cuts, and what is kept behind it is as it was.
pub record PutsFirst (size : ℕ) (o : Options) (kept : List ℕ) (buffer : RowBytes)
    (cuts : List ℕ) : Type 0 where
  pub line : List ℕ
  pub is : buffer ≡ record { front = None; kept = line ++ drop size kept }
  pub len : length line ≡ size
  pub texts : AreTexts (line_values o (take size kept)) cuts line

-- what is kept of a reader: the first line is walked over so far, and these of its cuts are noted; no
-- fault is Memory; and a row is lent only among the lines, whose texts end at the held cuts
pub record IsTextReader (o : Options) (line_end : Option LineEnd) (buffer : RowBytes) (scan : Scan)
    (cuts : List ℕ) (stage : TextStage) (held_cuts : List ℕ) : Type 0 where
  pub scanned : IsScanned o.delimiter line_end buffer.kept scan
  pub noted : AreNoted o.delimiter buffer.kept cuts
  pub not_memory : stage ≡ stages.Failed Memory → ⊥
  pub lends : (stage ≡ stages.Lines) ⊎ (buffer.front ≡ None)
  pub held : AreHeld held_cuts buffer.front

-- The first line that is kept goes off with what ends it, and the reader tells where it ends.
pub record PassesLine (old new : TextState) : Type 0 where
  pub taken : ℕ
  pub offset : new.offset ≡ told (old.offset + taken)
  pub lines : (n : ℕ) → lines_end old.line_end old.kept (suc n)
      ≡ taken + lines_end new.line_end new.kept n

-- What a call answers at the end of the input, and how it leaves the reader: it gives the first row
-- that is left, of which no bytes are kept, or what stands in its place, and memory runs out only
-- where a row is left.
abbrev pub TakesLast : TextState → Result (Option Row) TextFault → TextState → Type 0
TakesLast old (Ok (Some row)) new = (text_last old ≡ after_rows (row ∷ []) (text_last new))
    × (new ≡ record old {
      kept = new.kept;
      line_end = new.line_end;
      given = one_more old.given;
      offset = new.offset;
      held = None;
    })
    × (length new.kept < length old.kept) × PassesLine old new
TakesLast old (Ok None) new =
    (text_last old ≡ record { rows = []; ending = last_text_ending new.stage })
    × IsGood (last_text_ending new.stage)
    × (new ≡ record old { kept = []; stage = new.stage; held = None })
    × (new.stage ≡ stages.Lines → old.kept ≡ [])
TakesLast old (Err fault) new =
    ((fault ≡ Memory) × (new ≡ old) × RowWaits (text_last old))
    ⊎ ((fault ≡ Memory → ⊥) × (text_last old ≡ record { rows = []; ending = Bad fault })
    × (new ≡ record old { kept = []; stage = stages.Failed fault; held = None }))

-- What a call answers at the end of the input as TakesLast says, but a row is lent in place of being
-- given.
abbrev pub LendsLast : TextState → Result Bool TextFault → TextState → Type 0
LendsLast old answer new =
    TakesLast old (as_next answer new.held) (let_go new) × Lends answer new.held
