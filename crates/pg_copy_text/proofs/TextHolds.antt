-- What a reader of text files does with the first line that it keeps, and with its row where it
-- lends it.
use Rattle.std.proofs.Common.{◌≡◌, ℕ, ◌+◌, ◌<◌, Bool, true, false, List, [], ◌++◌, length, take, drop, Option, Some, None, Result, Ok, Err, refl, sym, ap, subst, ◌∙◌, inl, inr, arith}
use Rattle.std.specs.Prelude.{◌⊎◌, IsSome}
use Rattle.pg_copy_rows.specs.declared.fault.TextFault.{TextFault}
use Rattle.pg_copy_rows.specs.declared.fault.TextFault.TheVariants.{Memory}
use Rattle.pg_copy_text.specs.declared.line_end.LineEnd.{LineEnd}
use Rattle.pg_copy_text.specs.declared.text_stage.TextStage.{TextStage}
use Rattle.pg_copy_text.specs.declared.text_stage.TextStage.TheVariants.{Lines, Marked, Failed}
use Rattle.pg_copy_rows.specs.Row.{Row}
use Rattle.pg_copy_rows.specs.Reading.{one_more, told, given_by, given_after, AnswersNext, RowWaits}
use Rattle.pg_copy_text.specs.Text.{end_len, text_reading, text_file_reading}
use Rattle.pg_copy_rows.specs.Lent.{as_next, Lends}
use Rattle.pg_copy_text.specs.TextReader.{TextState, HasReadText, text_left, text_last, text_ending, last_text_ending}
use Rattle.pg_copy_text.specs.Private.Breaks.{IsFirstLine}
use Rattle.pg_copy_text.specs.Private.Units.{IsScanned, StandsAt}
use Rattle.pg_copy_text.specs.declared.scan.Scan.{Scan}
use Rattle.pg_copy_text.specs.Private.TextRow.{held_row, line_values}
use Rattle.pg_copy_text.specs.Private.TextLine.{let_go, lending, TakesLine, TakesLast, LendsLast, EndsInput}
use Rattle.pg_copy_text.proofs.TextPlaces.{end-some}
use Rattle.pg_copy_text.proofs.TextEnds.{HasReadText-finish, AnswersNext-finish, given-finish, fewer-finish}
use Rattle.pg_copy_text.proofs.TextReads.{Answer, HasReadText-same, HasReadText-goes, Goes-line, AnswersNext-line, AnswersNext-none, given-line, fewer-line, waits-line}

HasReadText-held : (s : TextState) (pushed : List ℕ) (given : List Row) → HasReadText (let_go s) pushed given → HasReadText s pushed given
HasReadText-held s pushed given h = record { so_far = h.so_far; to_end = h.to_end; in_all = h.in_all; counted = h.counted; placed = h.placed; goes_on = h.goes_on }

pub HasReadText-free : (s : TextState) (pushed : List ℕ) (given : List Row) → HasReadText s pushed given → HasReadText (let_go s) pushed given
HasReadText-free s pushed given h = record { so_far = h.so_far; to_end = h.to_end; in_all = h.in_all; counted = h.counted; placed = h.placed; goes_on = h.goes_on }

-- a reader that lends the row of a line
pub lent-state : (s : TextState) (size taken : ℕ) (end : Option LineEnd) (kept : List ℕ) (given offset : ℕ) (held : Option Row) → kept ≡ drop taken s.kept → given ≡ one_more s.given → offset ≡ told (s.offset + taken)
    → held ≡ Some (line_values s.options (take size s.kept)) → record s { kept = kept; line_end = end; given = given; offset = offset; held = held } ≡ lending size taken end s
lent-state s size taken end kept given offset held is-kept is-given is-offset is-held = rw (is-kept, is-given, is-offset, is-held) refl

-- a reader that is lent none of
pub free : (s : TextState) → s.held ≡ None → s ≡ let_go s
free s e = ap (λ (o : Option Row). record s { held = o }) e

-- a reader that failed or has read the end mark lends none
rests : (cuts : List ℕ) (stage : TextStage) (front : Option (List ℕ)) → (stage ≡ Lines) ⊎ (front ≡ None) → (stage ≡ Lines → ⊥) → held_row cuts front ≡ None
rests cuts stage front (inl e) n = absurd (n e)
rests cuts stage front (inr e) n = ap (held_row cuts) e

pub rests-failed : (cuts : List ℕ) (stage : TextStage) (front : Option (List ℕ)) (fault : TextFault) → (stage ≡ Lines) ⊎ (front ≡ None) → stage ≡ Failed fault → held_row cuts front ≡ None
rests-failed cuts stage front fault h e = rests cuts stage front h (λ f. clash (sym e ∙ f))
  where
    clash : Failed fault ≡ Lines → ⊥
    clash f = cc

pub rests-marked : (cuts : List ℕ) (stage : TextStage) (front : Option (List ℕ)) → (stage ≡ Lines) ⊎ (front ≡ None) → stage ≡ Marked → held_row cuts front ≡ None
rests-marked cuts stage front h e = rests cuts stage front h (λ f. clash (sym e ∙ f))
  where
    clash : Marked ≡ Lines → ⊥
    clash f = cc

-- nothing stands in front where no row is lent
pub no-front : (cuts : List ℕ) (front : Option (List ℕ)) → held_row cuts front ≡ None → front ≡ None
no-front cuts None e = refl
no-front cuts (Some bytes) e = absurd cc

-- ---- a line that is whole

-- The first line is whole and ends so, and a call took it and answered.
pub record TakesFirst (old new : TextState) (answer : Answer) : Type 0 where
  pub end : LineEnd
  pub len : ℕ
  pub lines : old.stage ≡ Lines
  pub first : IsFirstLine old.line_end old.kept end len (len + end_len end)
  pub takes : TakesLine len (len + end_len end) (Some end) old answer new

pub read-first : (old new : TextState) (answer : Answer) → TakesFirst old new answer → (pushed : List ℕ) (given : List Row) → HasReadText old pushed given → HasReadText new pushed (given ++ given_by answer)
read-first old new answer t pushed given h =
    HasReadText-goes old new (given_by answer) pushed given (Goes-line old new t.end t.len (t.len + end_len t.end) answer t.lines t.first refl t.takes) h

pub gives-first : (old new : TextState) (answer : Answer) → TakesFirst old new answer → old.ended ≡ false → (pushed : List ℕ) (given : List Row) → HasReadText old pushed given → AnswersNext Memory (text_reading new.options new.columns pushed) given (text_ending new.stage new.kept) answer
gives-first old new answer t going pushed given h = AnswersNext-line old new t.end t.len (t.len + end_len t.end) answer pushed given t.lines going t.first t.takes h

pub given-first : (old new : TextState) (answer : Answer) → TakesFirst old new answer → new.given ≡ given_after old.given (given_by answer)
given-first old new answer t = given-line old new t.end t.len (t.len + end_len t.end) answer t.takes

pub fewer-first : (old new : TextState) (answer : Answer) → TakesFirst old new answer → (row : Row) → answer ≡ Ok (Some row) → length new.kept < length old.kept
fewer-first old new answer t = fewer-line old new t.end t.len (t.len + end_len t.end) answer t.takes (omega (arith, end-some t.end)) t.first.in_range

pub waits-first : (old new : TextState) (answer : Answer) → TakesFirst old new answer → answer ≡ Err Memory → (new ≡ old) × RowWaits (text_left old [])
waits-first old new answer t = waits-line old new t.end t.len (t.len + end_len t.end) answer t.lines t.first t.takes

held-line : (old new : TextState) (e : LineEnd) (len taken : ℕ) (answer : Answer) → TakesLine len taken (Some e) old answer new → (answer ≡ Err Memory) ⊎ (new.held ≡ None)
held-line old new e len taken (Ok (Some row)) t = inr (ap (λ (s : TextState). s.held) t.1)
held-line old new e len taken (Ok None) t = inr (ap (λ (s : TextState). s.held) t.1)
held-line old new e len taken (Err fault) (inl t) = inl (ap (λ (f : TextFault). Err f) t.0)
held-line old new e len taken (Err fault) (inr t) = inr (ap (λ (s : TextState). s.held) t.1)

pub held-first : (old new : TextState) (answer : Answer) → TakesFirst old new answer → (answer ≡ Err Memory) ⊎ (new.held ≡ None)
held-first old new answer t = held-line old new t.end t.len (t.len + end_len t.end) answer t.takes

-- what a line leaves as it was
pub record Keeps (old new : TextState) : Type 0 where
  pub options : new.options ≡ old.options
  pub columns : new.columns ≡ old.columns
  pub ended : new.ended ≡ old.ended

keeps-line : (old new : TextState) (e : LineEnd) (len taken : ℕ) (answer : Answer) → TakesLine len taken (Some e) old answer new → Keeps old new
keeps-line old new e len taken (Ok (Some row)) t = rw t.1 (record { options = refl; columns = refl; ended = refl })
keeps-line old new e len taken (Ok None) t = rw t.1 (record { options = refl; columns = refl; ended = refl })
keeps-line old new e len taken (Err fault) (inl t) = rw t.1 (record { options = refl; columns = refl; ended = refl })
keeps-line old new e len taken (Err fault) (inr t) = rw t.1 (record { options = refl; columns = refl; ended = refl })

-- ---- a line that is lent

-- The first line is whole and ends so, and a call took it and lends its row in place of giving it.
pub record LendsFirst (old new : TextState) (answer : Result Bool TextFault) : Type 0 where
  pub taken : TakesFirst (let_go old) (let_go new) (as_next answer new.held)
  pub lends : Lends answer new.held

pub read-lent : (old new : TextState) (answer : Result Bool TextFault) → LendsFirst old new answer → (pushed : List ℕ) (given : List Row) → HasReadText old pushed given → HasReadText new pushed (given ++ given_by (as_next answer new.held))
read-lent old new answer l pushed given h =
    HasReadText-held new pushed _ (read-first (let_go old) (let_go new) (as_next answer new.held) l.taken pushed given (HasReadText-free old pushed given h))

pub gives-lent : (old new : TextState) (answer : Result Bool TextFault) → LendsFirst old new answer → old.ended ≡ false → (pushed : List ℕ) (given : List Row) → HasReadText old pushed given → AnswersNext Memory (text_reading new.options new.columns pushed) given (text_ending new.stage new.kept) (as_next answer new.held)
gives-lent old new answer l going pushed given h =
    gives-first (let_go old) (let_go new) (as_next answer new.held) l.taken going pushed given (HasReadText-free old pushed given h)

pub given-lent : (old new : TextState) (answer : Result Bool TextFault) → LendsFirst old new answer → new.given ≡ given_after old.given (given_by (as_next answer new.held))
given-lent old new answer l = given-first (let_go old) (let_go new) (as_next answer new.held) l.taken

pub keeps-lent : (old new : TextState) (answer : Result Bool TextFault) → LendsFirst old new answer → Keeps old new
keeps-lent old new answer l =
    let t = l.taken in
    let k = keeps-line (let_go old) (let_go new) t.end t.len (t.len + end_len t.end) (as_next answer new.held) t.takes in
    record { options = k.options; columns = k.columns; ended = k.ended }

-- where a row is lent
row-of : (held : Option Row) → IsSome held → (row : Row) × (held ≡ Some row)
row-of None h = absurd cc
row-of (Some row) h = (row, refl)

pub row-lent : (old new : TextState) (answer : Result Bool TextFault) → LendsFirst old new answer → answer ≡ Ok true → new.stage ≡ Lines
row-lent old new (Ok true) l is =
    let t = l.taken in
    let row = row-of new.held l.lends in
    let goes = subst (λ (o : Option Row). TakesLine t.len (t.len + end_len t.end) (Some t.end) (let_go old) (Ok o) (let_go new)) row.1 t.takes in
    ap (λ (s : TextState). s.stage) goes.1 ∙ t.lines
row-lent old new (Ok false) l is = absurd cc
row-lent old new (Err fault) l is = absurd cc

pub fewer-lent : (old new : TextState) (answer : Result Bool TextFault) → LendsFirst old new answer → answer ≡ Ok true → length new.kept < length old.kept
fewer-lent old new (Ok true) l is =
    let row = row-of new.held l.lends in
    fewer-first (let_go old) (let_go new) (Ok new.held) l.taken row.0 (ap (λ (o : Option Row). Ok o) row.1)
fewer-lent old new (Ok false) l is = absurd cc
fewer-lent old new (Err fault) l is = absurd cc

pub waits-lent : (old new : TextState) (answer : Result Bool TextFault) → LendsFirst old new answer → answer ≡ Err Memory → (new ≡ let_go old) × RowWaits (text_left old [])
waits-lent old new (Ok lent) l is = absurd cc
waits-lent old new (Err fault) l is =
    let f : fault ≡ Memory = cc in
    let w = waits-first (let_go old) (let_go new) (Err fault) l.taken (ap (λ (x : TextFault). Err x) f) in
    (free new l.lends ∙ w.0, w.1)

-- ---- no line is whole

pub read-none : (old mid new : TextState) → mid ≡ old → new ≡ let_go mid → (pushed : List ℕ) (given : List Row) → HasReadText old pushed given → HasReadText new pushed (given ++ [])
read-none old mid new walked free pushed given h = rw (free, walked) (HasReadText-same (let_go old) pushed given (HasReadText-free old pushed given h))

pub gives-none : (old mid new : TextState) (s : Scan) → mid ≡ old → new ≡ let_go mid → old.stage ≡ Lines → old.ended ≡ false → IsScanned old.options.delimiter old.line_end old.kept s → StandsAt old.line_end old.kept s
    → (pushed : List ℕ) (given : List Row) → HasReadText old pushed given → AnswersNext Memory (text_reading new.options new.columns pushed) given (text_ending new.stage new.kept) (Ok None)
gives-none old mid new s walked free lines going scanned stands pushed given h = rw (free, walked) (AnswersNext-none old s pushed given lines going scanned stands h)

-- ---- a call of finish

pub held-finish : (old mid new : TextState) (answer : Result (Option Row) TextFault) → TakesLast old answer mid → EndsInput answer mid new → (answer ≡ Err Memory) ⊎ (new.held ≡ None)
held-finish old mid new (Ok (Some row)) t e = inr (ap (λ (s : TextState). s.held) e ∙ ap (λ (s : TextState). s.held) t.1)
held-finish old mid new (Ok None) t e = inr (ap (λ (s : TextState). s.held) e ∙ ap (λ (s : TextState). s.held) t.2)
held-finish old mid new (Err fault) (inl t) e = inl (ap (λ (f : TextFault). Err f) t.0)
held-finish old mid new (Err fault) (inr t) (inl e) = inr (ap (λ (s : TextState). s.held) e.1 ∙ ap (λ (s : TextState). s.held) t.2)
held-finish old mid new (Err fault) (inr t) (inr e) = inr (ap (λ (s : TextState). s.held) e.1 ∙ ap (λ (s : TextState). s.held) t.2)

-- ---- a row that is lent at the end of the input

abbrev pub Lent : Type 0
Lent = Result Bool TextFault

held-ends : (mid new : TextState) (answer : Lent) → EndsInput answer mid new → new.held ≡ mid.held
held-ends mid new (Ok lent) e = ap (λ (s : TextState). s.held) e
held-ends mid new (Err fault) (inl e) = ap (λ (s : TextState). s.held) e.1
held-ends mid new (Err fault) (inr e) = ap (λ (s : TextState). s.held) e.1

ends-next : (mid new : TextState) (answer : Lent) → EndsInput answer mid new → EndsInput (as_next answer new.held) (let_go mid) (let_go new)
ends-next mid new (Ok true) e = ap let_go e
ends-next mid new (Ok false) e = ap let_go e
ends-next mid new (Err fault) (inl e) = inl (e.0, ap let_go e.1)
ends-next mid new (Err fault) (inr e) = inr (e.0, ap let_go e.1)

-- A call took what is left of the lines, lends its row in place of giving it, and ended the input.
pub record LendsEnd (old new : TextState) (answer : Lent) : Type 0 where
  pub mid : TextState
  pub takes : TakesLast (let_go old) (as_next answer new.held) mid
  pub ends : EndsInput (as_next answer new.held) mid (let_go new)
  pub lends : Lends answer new.held

pub lends-end : (old mid new : TextState) (answer : Lent) → LendsLast (let_go old) answer mid → EndsInput answer mid new → LendsEnd old new answer
lends-end old mid new answer l e =
    let held = held-ends mid new answer e in
    record {
      mid = let_go mid;
      takes = rw held l.0;
      ends = ends-next mid new answer e;
      lends = rw held l.1;
    }

pub read-end : (old new : TextState) (answer : Lent) → old.stage ≡ Lines → LendsEnd old new answer → (pushed : List ℕ) (given : List Row) → HasReadText old pushed given → HasReadText new pushed (given ++ given_by (as_next answer new.held))
read-end old new answer lines l pushed given h =
    HasReadText-held new pushed _ (HasReadText-finish (let_go old) l.mid (let_go new) (as_next answer new.held) pushed given lines l.takes l.ends (HasReadText-free old pushed given h))

pub gives-end : (old new : TextState) (answer : Lent) → LendsEnd old new answer → (pushed : List ℕ) (given : List Row) → HasReadText old pushed given
    → AnswersNext Memory (text_file_reading new.options new.columns pushed) given (last_text_ending new.stage) (as_next answer new.held)
gives-end old new answer l pushed given h =
    AnswersNext-finish (let_go old) l.mid (let_go new) (as_next answer new.held) pushed given l.takes l.ends (HasReadText-free old pushed given h)

pub given-end : (old new : TextState) (answer : Lent) → LendsEnd old new answer → new.given ≡ given_after old.given (given_by (as_next answer new.held))
given-end old new answer l = given-finish (let_go old) l.mid (let_go new) (as_next answer new.held) l.takes l.ends

-- what the end of the input leaves as it was
pub record KeepsAtEnd (old new : TextState) : Type 0 where
  pub options : new.options ≡ old.options
  pub columns : new.columns ≡ old.columns

keeps-finish : (old mid new : TextState) (answer : Answer) → TakesLast old answer mid → EndsInput answer mid new → KeepsAtEnd old new
keeps-finish old mid new (Ok (Some row)) t e = record { options = ap (λ (s : TextState). s.options) e ∙ ap (λ (s : TextState). s.options) t.1; columns = ap (λ (s : TextState). s.columns) e ∙ ap (λ (s : TextState). s.columns) t.1 }
keeps-finish old mid new (Ok None) t e = record { options = ap (λ (s : TextState). s.options) e ∙ ap (λ (s : TextState). s.options) t.2; columns = ap (λ (s : TextState). s.columns) e ∙ ap (λ (s : TextState). s.columns) t.2 }
keeps-finish old mid new (Err fault) (inl t) (inl e) = rw (e.1, t.1) (record { options = refl; columns = refl })
keeps-finish old mid new (Err fault) (inl t) (inr e) = absurd (e.0 t.0)
keeps-finish old mid new (Err fault) (inr t) (inl e) = absurd (t.0 e.0)
keeps-finish old mid new (Err fault) (inr t) (inr e) = rw (e.1, t.2) (record { options = refl; columns = refl })

pub keeps-end : (old new : TextState) (answer : Lent) → LendsEnd old new answer → KeepsAtEnd old new
keeps-end old new answer l =
    let k = keeps-finish (let_go old) l.mid (let_go new) (as_next answer new.held) l.takes l.ends in
    record { options = k.options; columns = k.columns }

pub ended-end : (old new : TextState) (answer : Lent) → LendsEnd old new answer → (answer ≡ Err Memory) ⊎ (new.ended ≡ true)
ended-end old new (Ok true) l = inr (ap (λ (s : TextState). s.ended) l.ends)
ended-end old new (Ok false) l = inr (ap (λ (s : TextState). s.ended) l.ends)
ended-end old new (Err fault) l = go l.ends
  where
    go : EndsInput {A = Option Row} (Err fault) l.mid (let_go new) → ◌≡◌ {A = Lent} (Err fault) (Err Memory) ⊎ (new.ended ≡ true)
    go (inl e) = inl (ap (λ (f : TextFault). Err f) e.0)
    go (inr e) = inr (ap (λ (s : TextState). s.ended) e.1)

pub row-end : (old new : TextState) (answer : Lent) → old.stage ≡ Lines → LendsEnd old new answer → answer ≡ Ok true → new.stage ≡ Lines
row-end old new (Ok true) lines l is =
    let row = row-of new.held l.lends in
    let goes = subst (λ (o : Option Row). TakesLast (let_go old) (Ok o) l.mid) row.1 l.takes in
    ap (λ (s : TextState). s.stage) l.ends ∙ ap (λ (s : TextState). s.stage) goes.1 ∙ lines
row-end old new (Ok false) lines l is = absurd cc
row-end old new (Err fault) lines l is = absurd cc

pub fewer-end : (old new : TextState) (answer : Lent) → LendsEnd old new answer → answer ≡ Ok true → length new.kept < length old.kept
fewer-end old new (Ok true) l is =
    let row = row-of new.held l.lends in
    fewer-finish (let_go old) l.mid (let_go new) (Ok new.held) l.takes l.ends row.0 (ap (λ (o : Option Row). Ok o) row.1)
fewer-end old new (Ok false) l is = absurd cc
fewer-end old new (Err fault) l is = absurd cc

pub waits-end : (old new : TextState) (answer : Lent) → LendsEnd old new answer → answer ≡ Err Memory → (new ≡ let_go old) × RowWaits (text_last old)
waits-end old new (Ok lent) l is = absurd cc
waits-end old new (Err fault) l is = go l.takes l.ends
  where
    is_memory : fault ≡ Memory
    is_memory = cc

    go : TakesLast (let_go old) (Err fault) l.mid → EndsInput {A = Option Row} (Err fault) l.mid (let_go new) → (new ≡ let_go old) × RowWaits (text_last old)
    go (inl t) (inl e) = (free new l.lends ∙ e.1 ∙ t.1, t.2)
    go (inl t) (inr e) = absurd (e.0 is_memory)
    go (inr t) e = absurd (t.0 is_memory)
