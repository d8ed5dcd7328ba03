-- What a reader of text files has read.
use Rattle.std.proofs.Common.{◌≡◌, ℕ, suc, ◌+◌, ◌<◌, ◌≤◌, Bool, false, List, [], ◌∷◌, ◌++◌, length, take, drop, Option, Some, None, Result, Ok, Err, refl, sym, ap, subst, ◌∙◌, append_assoc, arith, inl, inr}
use Rattle.std.proofs.lemmas.List.{append-nil, length-append, length-drop}
use Rattle.std.specs.Prelude.{◌⊎◌}
use Rattle.std.specs.Option.{unwrap_or}
use Rattle.pg_copy_rows.specs.declared.fault.TextFault.{TextFault}
use Rattle.pg_copy_rows.specs.declared.fault.TextFault.TheVariants.{Memory}
use Rattle.pg_copy_text.specs.declared.line_end.LineEnd.{LineEnd}
use Rattle.pg_copy_text.specs.declared.line_end.LineEnd.TheVariants.{Return}
use Rattle.pg_copy_text.specs.declared.text_stage.TextStage.{TextStage}
use Rattle.pg_copy_text.specs.declared.text_stage.TextStage.TheVariants.{Lines, Marked, Failed}
use Rattle.pg_copy_rows.specs.Row.{Row}
use Rattle.pg_copy_rows.specs.Reading.{RowsRead, RowsEnding, Open, Done, Ended, Bad, after_rows, RowWaits, given_by, IsGood, AnswersNext, told, given_after}
use Rattle.pg_copy_text.specs.Text.{end_len, Options, lines, decided_at_end, line_reading, lines_reading, reading_by, reading_after, text_reading, last_reading, text_at_end, last_after, text_file_reading}
use Rattle.pg_copy_text.specs.Text as text
use Rattle.pg_copy_text.specs.TextReader.{TextState, lines_end, HasReadText, text_left, text_last, text_stage_reading, text_stage_last, text_ending, last_text_ending}
use Rattle.pg_copy_text.specs.Private.Breaks.{IsFirstLine, IsLastLine}
use Rattle.pg_copy_text.specs.Private.Units.{IsScanned, StandsAt}
use Rattle.pg_copy_text.specs.declared.scan.Scan.{Scan}
use Rattle.pg_copy_rows.specs.Private.RowBuffer.{RowBytes}
use Rattle.pg_copy_text.specs.Private.TextRow.{held_row}
use Rattle.pg_copy_text.specs.Private.TextLine.{passed, TakesLine, IsTextReader}
use Rattle.pg_copy_rows.proofs.Readings.{after-after, after-none}
use Rattle.pg_copy_rows.proofs.Numbers.{told-rows, told-add}
use Rattle.pg_copy_text.proofs.TextPlaces.{lines-some, lines_end-zero, lines_end-first}
use Rattle.pg_copy_text.proofs.TextCuts.{noted-more}
use Rattle.pg_copy_text.proofs.TextBreaks.{scanned-push, lines_from-none, undecided, waiting-undecided, one-line, lone-return}

pub good_ending : (stage stage' : TextStage) → stage ≡ stage' → IsGood (last_text_ending stage') → IsGood (last_text_ending stage)
good_ending stage stage' e h = subst (λ (t : TextStage). IsGood (last_text_ending t)) (sym e) h

pub ending_is : (stage stage' : TextStage) → stage ≡ stage' → ◌≡◌ {A = RowsRead TextFault} (record { rows = []; ending = last_text_ending stage' }) (record { rows = []; ending = last_text_ending stage })
ending_is stage stage' e = ap (λ (t : TextStage). record { rows = []; ending = last_text_ending t }) (sym e)

pub lines_reading-cons : (o : Options) (columns : Option ℕ) (line : List ℕ) (ps : List (List ℕ)) → 0 < length ps → lines_reading o columns (line ∷ ps) ≡ line_reading o columns line (lines_reading o columns ps)
lines_reading-cons o columns line [] lt = absurd (omega arith)
lines_reading-cons o columns line (p ∷ ps) lt = refl

-- the first line, and what comes after it
reading-line : (o : Options) (columns : Option ℕ) (before : Option LineEnd) (kept more : List ℕ) (e : LineEnd) (len taken : ℕ) → IsFirstLine before kept e len taken
    → reading_after o columns before (kept ++ more) ≡ line_reading o columns (take len kept) (reading_after o columns (Some e) (drop taken kept ++ more))
unfolding reading_after
reading-line o columns before kept more e len taken h =
    ap (λ (d : Option LineEnd). reading_by o columns d (kept ++ more)) (h.decided more) ∙ ap (lines_reading o columns) (h.cut more) ∙ lines_reading-cons o columns (take len kept) (lines e (drop taken kept ++ more)) (lines-some e (drop taken kept ++ more))

-- the same, where the bytes come last
pub last-line : (o : Options) (columns : Option ℕ) (before : Option LineEnd) (kept : List ℕ) (e : LineEnd) (len taken : ℕ) → IsLastLine before kept e len taken
    → last_after o columns before kept ≡ text_at_end o columns (line_reading o columns (take len kept) (lines_reading o columns (lines e (drop taken kept))))
unfolding last_after
last-line o columns before kept e len taken h =
    ap (λ (d : LineEnd). text_at_end o columns (lines_reading o columns (lines d kept))) h.decided ∙ ap (λ (ls : List (List ℕ)). text_at_end o columns (lines_reading o columns ls)) h.cut ∙ ap (text_at_end o columns) (lines_reading-cons o columns (take len kept) (lines e (drop taken kept)) (lines-some e (drop taken kept)))

-- more bytes come before the end
first-line-more : (before : Option LineEnd) (kept more : List ℕ) (e : LineEnd) (len taken : ℕ) → IsFirstLine before kept e len taken
    → (decided_at_end before (kept ++ more) ≡ e) × (lines e (kept ++ more) ≡ take len kept ∷ lines e (drop taken kept ++ more))
first-line-more before kept more e len taken h = (ap (λ (d : Option LineEnd). unwrap_or d Return) (h.decided more), h.cut more)

last-more : (o : Options) (columns : Option ℕ) (before : Option LineEnd) (kept more : List ℕ) (e : LineEnd) (len taken : ℕ) → IsFirstLine before kept e len taken
    → last_after o columns before (kept ++ more) ≡ text_at_end o columns (line_reading o columns (take len kept) (lines_reading o columns (lines e (drop taken kept ++ more))))
unfolding last_after
last-more o columns before kept more e len taken h =
    let f = first-line-more before kept more e len taken h in
    ap (λ (d : LineEnd). text_at_end o columns (lines_reading o columns (lines d (kept ++ more)))) f.0 ∙ ap (λ (ls : List (List ℕ)). text_at_end o columns (lines_reading o columns ls)) f.1 ∙ ap (text_at_end o columns) (lines_reading-cons o columns (take len kept) (lines e (drop taken kept ++ more)) (lines-some e (drop taken kept ++ more)))

pub last-of : (o : Options) (columns : Option ℕ) (e : LineEnd) (bytes : List ℕ) → last_after o columns (Some e) bytes ≡ text_at_end o columns (lines_reading o columns (lines e bytes))
unfolding last_after
last-of o columns e bytes = refl

-- no line is whole
pub reading-open : (delimiter : ℕ) (o : Options) (columns : Option ℕ) (before : Option LineEnd) (kept : List ℕ) (s : Scan) → IsScanned delimiter before kept s → StandsAt before kept s
    → reading_after o columns before kept ≡ record { rows = []; ending = Open kept }
unfolding reading_after
reading-open delimiter o columns None kept s h (inl all) = ap (λ (d : Option LineEnd). reading_by o columns d kept) (undecided delimiter kept s all h)
reading-open delimiter o columns None kept s h (inr w) = ap (λ (d : Option LineEnd). reading_by o columns d kept) (waiting-undecided delimiter kept s w.0 w.1 h)
reading-open delimiter o columns (Some e) kept s h (inl all) = ap (lines_reading o columns) (one-line delimiter (Some e) kept s e refl all h)
reading-open delimiter o columns (Some e) kept s h (inr w) = ap (lines_reading o columns) (ap (λ (f : LineEnd). lines f kept) w.2 ∙ lone-return delimiter (Some e) kept s w.0 w.1 w.2 h)

-- no byte is left
pub last-none : (o : Options) (columns : Option ℕ) (before : Option LineEnd) → last_after o columns before [] ≡ record { rows = []; ending = Ended }
unfolding last_after
last-none o columns before = ap (λ (ls : List (List ℕ)). text_at_end o columns (lines_reading o columns ls)) (lines_from-none (decided_at_end before []) false)

-- ---- rows that are given go over from what is left to what was given

pub at_end-after : (o : Options) (columns : Option ℕ) (rows : List Row) (r : RowsRead TextFault) → text_at_end o columns (after_rows rows r) ≡ after_rows rows (text_at_end o columns r)
at_end-after o columns rows r = sym (after-after rows r.rows (last_reading o columns r.ending))

pub clash : ◌≡◌ {A = TextStage} Marked Lines → ⊥
clash f = cc

-- the reader, if these bytes come too
abbrev pub with-more : TextState → List ℕ → TextState
with-more s more = record s { kept = s.kept ++ more }

-- so many lines go off, whatever comes after these bytes, or where the input has ended
pub record Passes (old new : TextState) (count : ℕ) (last : Bool) : Type 0 where
  pub taken : ℕ
  pub offset : (m : ℕ) → old.offset ≡ told m → new.offset ≡ told (m + taken)
  pub stood : (n : ℕ) → (new.stage ≡ Lines) ⊎ (n ≡ 0) → (old.stage ≡ Lines) ⊎ (count + n ≡ 0)
  pub lines : (more : List ℕ) (n : ℕ) → (last ≡ false) ⊎ (more ≡ []) → (new.stage ≡ Lines) ⊎ (n ≡ 0) → lines_end old.line_end (old.kept ++ more) (count + n) ≡ taken + lines_end new.line_end (new.kept ++ more) n

zero-more : (n : ℕ) → 0 + n ≡ n
zero-more n = omega arith

pub one-more : (n : ℕ) → 1 + n ≡ suc n
one-more n = omega arith

-- none goes off
pub Passes-none : (old new : TextState) (last : Bool) → new.offset ≡ old.offset → ((n : ℕ) → (new.stage ≡ Lines) ⊎ (n ≡ 0) → (old.stage ≡ Lines) ⊎ (n ≡ 0)) → ((more : List ℕ) (n : ℕ) → (last ≡ false) ⊎ (more ≡ []) → (new.stage ≡ Lines) ⊎ (n ≡ 0) → lines_end old.line_end (old.kept ++ more) n ≡ lines_end new.line_end (new.kept ++ more) n) → Passes old new 0 last
Passes-none old new last e f g =
    record {
      taken = 0;
      offset = λ m is. let same : m ≡ m + 0 = omega arith in e ∙ is ∙ ap told same;
      stood = λ n h. subst (λ (k : ℕ). (old.stage ≡ Lines) ⊎ (k ≡ 0)) (sym (zero-more n)) (f n h);
      lines = λ more n final stands. ap (lines_end old.line_end (old.kept ++ more)) (zero-more n) ∙ g more n final stands ∙ sym (zero-more (lines_end new.line_end (new.kept ++ more) n));
    }

-- where the reader stops
pub Passes-stop : (old : TextState) (stage : TextStage) (last : Bool) → (stage ≡ Lines → ⊥) → Passes old (record old { kept = []; stage = stage; held = None }) 0 last
Passes-stop old stage last other =
    Passes-none old (record old { kept = []; stage = stage; held = None }) last refl (λ n h. inr (zero_of n h)) (λ more n final h. both more n (zero_of n h))
  where
    zero_of : (n : ℕ) → (stage ≡ Lines) ⊎ (n ≡ 0) → n ≡ 0
    zero_of n (inl e) = absurd (other e)
    zero_of n (inr e) = e

    both : (more : List ℕ) (n : ℕ) → n ≡ 0 → lines_end old.line_end (old.kept ++ more) n ≡ lines_end old.line_end ([] ++ more) n
    both more n e = rw (e, lines_end-zero old.line_end (old.kept ++ more), lines_end-zero old.line_end more) refl

-- a line goes off
Passes-line : (old : TextState) (e : LineEnd) (len taken : ℕ) → old.stage ≡ Lines → IsFirstLine old.line_end old.kept e len taken → taken ≡ len + end_len e → Passes old (passed taken (Some e) old) 1 false
Passes-line old e len taken among at all =
    record {
      taken = taken;
      offset = λ m is. ap (λ (k : ℕ). told (k + taken)) is ∙ told-add m taken;
      stood = λ n h. inl among;
      lines = λ more n final h. ap (lines_end old.line_end (old.kept ++ more)) (one-more n) ∙ lines_end-first old.line_end old.kept more e len taken n at all;
    }

-- a call that gives these rows of what was left
pub record ReadsRows (old new : TextState) (rows : List Row) : Type 0 where
  pub options : new.options ≡ old.options
  pub columns : new.columns ≡ old.columns
  pub ended : new.ended ≡ old.ended
  pub left : (more : List ℕ) → text_left old more ≡ after_rows rows (text_left new more)
  pub last : (more : List ℕ) → text_last (with-more old more) ≡ after_rows rows (text_last (with-more new more))
  pub passes : Passes old new (length rows) false
  pub given : new.given ≡ given_after old.given rows

text_reading-same : (a b : TextState) (bytes : List ℕ) → a.options ≡ b.options → a.columns ≡ b.columns → text_reading a.options a.columns bytes ≡ text_reading b.options b.columns bytes
text_reading-same a b bytes e f = ap (λ (o : Options). text_reading o a.columns bytes) e ∙ ap (λ (c : Option ℕ). text_reading b.options c bytes) f

pub file_reading-same : (a b : TextState) (bytes : List ℕ) → a.options ≡ b.options → a.columns ≡ b.columns → text_file_reading a.options a.columns bytes ≡ text_file_reading b.options b.columns bytes
file_reading-same a b bytes e f = ap (λ (o : Options). text_file_reading o a.columns bytes) e ∙ ap (λ (c : Option ℕ). text_file_reading b.options c bytes) f

last-now : (s : TextState) → text_last (with-more s []) ≡ text_last s
last-now s = ap (λ (k : List ℕ). text_last (record s { kept = k })) (append-nil s.kept)

-- where the lines end that go off
pub lines-so-far : (old new : TextState) (rows : List Row) (last : Bool) (pushed : List ℕ) (given : List Row) → HasReadText old pushed given → (passes : Passes old new (length rows) last) → lines_end None pushed (length (given ++ rows)) ≡ lines_end None pushed (length given) + passes.taken
lines-so-far old new rows last pushed given h passes =
    let stops : (old.stage ≡ Lines) ⊎ (length rows + 0 ≡ 0) = passes.stood 0 (inr refl) in
    let count : length (given ++ rows) ≡ length given + (length rows + 0) = omega (arith, length-append given rows) in
    let one = h.goes_on [] (length rows + 0) (inr refl) stops in
    let two = passes.lines [] 0 (inr refl) (inr refl) in
    let none = lines_end-zero new.line_end (new.kept ++ []) in
    let here : lines_end None (pushed ++ []) (length (given ++ rows)) ≡ lines_end None pushed (length (given ++ rows)) = ap (λ (x : List ℕ). lines_end None x (length (given ++ rows))) (append-nil pushed) in
    sym here ∙ ap (lines_end None (pushed ++ [])) count ∙ one ∙ omega (arith, two, none)

pub goes-further : (old new : TextState) (rows : List Row) (last : Bool) (pushed : List ℕ) (given : List Row) → HasReadText old pushed given → Passes old new (length rows) last → (more : List ℕ) (n : ℕ) → (old.ended ≡ false) ⊎ (more ≡ []) → (last ≡ false) ⊎ (more ≡ []) → (new.stage ≡ Lines) ⊎ (n ≡ 0)
    → lines_end None (pushed ++ more) (length (given ++ rows) + n) ≡ lines_end None pushed (length (given ++ rows)) + lines_end new.line_end (new.kept ++ more) n
goes-further old new rows last pushed given h p more n going final stands =
    let count : length (given ++ rows) + n ≡ length given + (length rows + n) = omega (arith, length-append given rows) in
    let one = h.goes_on more (length rows + n) going (p.stood n stands) in
    let two = p.lines more n final stands in
    let so_far = lines-so-far old new rows last pushed given h p in
    ap (lines_end None (pushed ++ more)) count ∙ one ∙ omega (arith, two, so_far)

pub HasReadText-goes : (old new : TextState) (rows : List Row) (pushed : List ℕ) (given : List Row) → ReadsRows old new rows → HasReadText old pushed given → HasReadText new pushed (given ++ rows)
HasReadText-goes old new rows pushed given g h =
    record {
      so_far = λ e more. text_reading-same new old (pushed ++ more) g.options g.columns ∙ h.so_far (sym g.ended ∙ e) more ∙ ap (after_rows given) (g.left more) ∙ after-after given rows (text_left new more);
      to_end = λ e more. file_reading-same new old (pushed ++ more) g.options g.columns ∙ h.to_end (sym g.ended ∙ e) more ∙ ap (after_rows given) (g.last more) ∙ after-after given rows (text_last (with-more new more));
      in_all = file_reading-same new old pushed g.options g.columns ∙ h.in_all ∙ ap (after_rows given) (sym (last-now old) ∙ g.last [] ∙ ap (after_rows rows) (last-now new)) ∙ after-after given rows (text_last new);
      counted = g.given ∙ ap (λ (n : ℕ). given_after n rows) h.counted ∙ told-rows given rows;
      placed = g.passes.offset (lines_end None pushed (length given)) h.placed ∙ ap told (sym (lines-so-far old new rows false pushed given h g.passes));
      goes_on = λ more n final stands. goes-further old new rows false pushed given h g.passes more n (still final) (inl refl) stands;
    }
  where
    still : {more : List ℕ} → (new.ended ≡ false) ⊎ (more ≡ []) → (old.ended ≡ false) ⊎ (more ≡ [])
    still {more} (inl e) = inl (sym g.ended ∙ e)
    still {more} (inr e) = inr e

pub Goes-same : (old : TextState) → ReadsRows old old []
Goes-same old = record { options = refl; columns = refl; ended = refl; left = λ more. refl; last = λ more. refl; passes = Passes-none old old false refl (λ n h. h) (λ more n final h. refl); given = refl }

pub HasReadText-same : (s : TextState) (pushed : List ℕ) (given : List Row) → HasReadText s pushed given → HasReadText s pushed (given ++ [])
HasReadText-same s pushed given h = rw (append-nil given) h

-- what the whole of the bytes pushed gives
pub reading-now : (s : TextState) (pushed : List ℕ) (given : List Row) → s.ended ≡ false → HasReadText s pushed given → text_reading s.options s.columns pushed ≡ after_rows given (text_left s [])
reading-now s pushed given e h = ap (text_reading s.options s.columns) (sym (append-nil pushed)) ∙ h.so_far e []

-- a reader that was pushed nothing
pub HasReadText-none : (o : Options) (columns : Option ℕ) (cuts : List ℕ) (buffer : RowBytes) → buffer ≡ record { front = None; kept = [] } → HasReadText (record { options = o; columns = columns; line_end = None; kept = buffer.kept; stage = Lines; ended = false; given = 0; offset = 0; held = held_row cuts buffer.front }) [] []
HasReadText-none o columns cuts buffer empty =
    rw empty (record {
      so_far = λ e more. refl;
      to_end = λ e more. refl;
      in_all = refl;
      counted = refl;
      placed = ap told (sym (lines_end-zero None []));
      goes_on = λ more n final stands. ap (lines_end None more) (zero-more n) ∙ sym (zero-more (lines_end None more n)) ∙ ap (λ (k : ℕ). k + lines_end None more n) (sym (lines_end-zero None []));
    })

-- ---- pushing

-- what is kept of a reader, after a piece
pub pushed-reader : (o : Options) (line_end : Option LineEnd) (buffer new : RowBytes) (scan : Scan) (cuts : List ℕ) (stage : TextStage) (held_cuts piece : List ℕ) → new ≡ record { front = None; kept = buffer.kept ++ piece }
    → IsTextReader o line_end buffer scan cuts stage held_cuts → IsTextReader o line_end new scan cuts stage held_cuts
pushed-reader o line_end buffer new scan cuts stage held_cuts piece is h =
    rw is (record {
      scanned = scanned-push o.delimiter line_end buffer.kept piece scan h.scanned;
      noted = noted-more o.delimiter buffer.kept piece cuts h.noted;
      not_memory = h.not_memory;
      lends = inr refl;
      held = tt;
    })

pub left-lines : (s : TextState) (more : List ℕ) → s.stage ≡ Lines → text_left s more ≡ reading_after s.options s.columns s.line_end (s.kept ++ more)
left-lines s more e = ap (λ (t : TextStage). text_stage_reading t s.options s.columns s.line_end (s.kept ++ more)) e

pub last-lines : (s : TextState) (bytes : List ℕ) → s.stage ≡ Lines → text_last (record s { kept = bytes }) ≡ last_after s.options s.columns s.line_end bytes
last-lines s bytes e = ap (λ (t : TextStage). text_stage_last t s.options s.columns s.line_end bytes) e

-- a piece that is taken among the lines
-- a piece more doesn't change where the lines end of the rows that were given
lines-stay : (old : TextState) (pushed piece : List ℕ) (given : List Row) → old.ended ≡ false → HasReadText old pushed given → lines_end None (pushed ++ piece) (length given) ≡ lines_end None pushed (length given)
lines-stay old pushed piece given going h =
    let count : length given ≡ length given + 0 = omega arith in
    let one = h.goes_on piece 0 (inl going) (inr refl) in
    let none = lines_end-zero old.line_end (old.kept ++ piece) in
    ap (lines_end None (pushed ++ piece)) count ∙ omega (arith, one, none)

goes-push : (old : TextState) (pushed piece : List ℕ) (given : List Row) → old.ended ≡ false → HasReadText old pushed given → (more : List ℕ) (n : ℕ) → (old.stage ≡ Lines) ⊎ (n ≡ 0)
    → lines_end None ((pushed ++ piece) ++ more) (length given + n) ≡ lines_end None (pushed ++ piece) (length given) + lines_end old.line_end ((old.kept ++ piece) ++ more) n
goes-push old pushed piece given going h more n stands =
    let one = h.goes_on (piece ++ more) n (inl going) stands in
    let stay = lines-stay old pushed piece given going h in
    let kept : lines_end old.line_end (old.kept ++ (piece ++ more)) n ≡ lines_end old.line_end ((old.kept ++ piece) ++ more) n = ap (λ (x : List ℕ). lines_end old.line_end x n) (sym (append_assoc old.kept piece more)) in
    ap (λ (x : List ℕ). lines_end None x (length given + n)) (append_assoc pushed piece more) ∙ one ∙ omega (arith, stay, kept)

pub HasReadText-push : (old : TextState) (pushed piece : List ℕ) (given : List Row) → old.ended ≡ false → old.stage ≡ Lines → HasReadText old pushed given → HasReadText (record old { kept = old.kept ++ piece; held = None }) (pushed ++ piece) given
HasReadText-push old pushed piece given going lines h =
    let later : (more : List ℕ) → text_last (with-more old (piece ++ more)) ≡ text_last (with-more (with-more old piece) more) = λ more. ap (λ (k : List ℕ). text_last (record old { kept = k })) (sym (append_assoc old.kept piece more)) in
    record {
      so_far = λ e more. ap (text_reading old.options old.columns) (append_assoc pushed piece more) ∙ h.so_far going (piece ++ more) ∙ ap (λ (k : List ℕ). after_rows given (text_stage_reading old.stage old.options old.columns old.line_end k)) (sym (append_assoc old.kept piece more));
      to_end = λ e more. ap (text_file_reading old.options old.columns) (append_assoc pushed piece more) ∙ h.to_end going (piece ++ more) ∙ ap (after_rows given) (later more);
      in_all = h.to_end going piece;
      counted = h.counted;
      placed = h.placed ∙ ap told (sym (lines-stay old pushed piece given going h));
      goes_on = λ more n final stands. goes-push old pushed piece given going h more n stands;
    }

pub push-read : (v old new : TextState) (piece : List ℕ) → v ≡ old → old.ended ≡ false → v.stage ≡ Lines → new ≡ record v { kept = v.kept ++ piece; held = None } → (pushed : List ℕ) (given : List Row) → HasReadText old pushed given → HasReadText new (pushed ++ piece) given
push-read v old new piece same going lines is pushed given h =
    subst (λ (s : TextState). HasReadText s (pushed ++ piece) given) (sym is)
    (HasReadText-push v pushed piece given (ap (λ (s : TextState). s.ended) same ∙ going) lines (subst (λ (s : TextState). HasReadText s pushed given) (sym same) h))

-- a piece that is dropped
pub HasReadText-drop : (old : TextState) (pushed piece : List ℕ) (given : List Row) → old.ended ≡ false → old.stage ≡ Marked → HasReadText old pushed given → HasReadText old (pushed ++ piece) given
HasReadText-drop old pushed piece given going marked h =
    let dropped : (more : List ℕ) → text_last (with-more old more) ≡ text_last old = λ more. ap (λ (t : TextStage). text_stage_last t old.options old.columns old.line_end (old.kept ++ more)) marked ∙ ap (λ (t : TextStage). text_stage_last t old.options old.columns old.line_end old.kept) (sym marked) in
    let left : (more : List ℕ) → text_left old (piece ++ more) ≡ text_left old more = λ more. ap (λ (t : TextStage). text_stage_reading t old.options old.columns old.line_end (old.kept ++ (piece ++ more))) marked ∙ ap (λ (t : TextStage). text_stage_reading t old.options old.columns old.line_end (old.kept ++ more)) (sym marked) in
    record {
      so_far = λ e more. ap (text_reading old.options old.columns) (append_assoc pushed piece more) ∙ h.so_far going (piece ++ more) ∙ ap (after_rows given) (left more);
      to_end = λ e more. ap (text_file_reading old.options old.columns) (append_assoc pushed piece more) ∙ h.to_end going (piece ++ more) ∙ ap (after_rows given) (dropped (piece ++ more) ∙ sym (dropped more));
      in_all = h.to_end going piece ∙ ap (after_rows given) (dropped piece);
      counted = h.counted;
      placed = h.placed ∙ ap told (sym (lines-stay old pushed piece given going h));
      goes_on = λ more n final stands. no-lines more n (none n stands);
    }
  where
    none : (n : ℕ) → (old.stage ≡ Lines) ⊎ (n ≡ 0) → n ≡ 0
    none n (inl e) = absurd (clash (sym marked ∙ e))
    none n (inr e) = e

    no-lines : (more : List ℕ) (n : ℕ) → n ≡ 0 → lines_end None ((pushed ++ piece) ++ more) (length given + n) ≡ lines_end None (pushed ++ piece) (length given) + lines_end old.line_end (old.kept ++ more) n
    no-lines more n e =
        let kept = goes-push old pushed piece given going h more n (inr e) in
        let a : lines_end old.line_end ((old.kept ++ piece) ++ more) n ≡ 0 = ap (lines_end old.line_end ((old.kept ++ piece) ++ more)) e ∙ lines_end-zero old.line_end ((old.kept ++ piece) ++ more) in
        let b : lines_end old.line_end (old.kept ++ more) n ≡ 0 = ap (lines_end old.line_end (old.kept ++ more)) e ∙ lines_end-zero old.line_end (old.kept ++ more) in
        kept ∙ omega (arith, a, b)

-- ---- a line that is taken

abbrev pub Answer : Type 0
Answer = Result (Option Row) TextFault

pub before : (old : TextState) (e : LineEnd) (len taken : ℕ) (more : List ℕ) → old.stage ≡ Lines → IsFirstLine old.line_end old.kept e len taken
    → text_left old more ≡ line_reading old.options old.columns (take len old.kept) (reading_after old.options old.columns (Some e) (drop taken old.kept ++ more))
before old e len taken more lines at = left-lines old more lines ∙ reading-line old.options old.columns old.line_end old.kept more e len taken at

before-end : (old : TextState) (e : LineEnd) (len taken : ℕ) (more : List ℕ) → old.stage ≡ Lines → IsFirstLine old.line_end old.kept e len taken
    → text_last (with-more old more) ≡ text_at_end old.options old.columns (line_reading old.options old.columns (take len old.kept) (lines_reading old.options old.columns (lines e (drop taken old.kept ++ more))))
before-end old e len taken more lines at = last-lines old (old.kept ++ more) lines ∙ last-more old.options old.columns old.line_end old.kept more e len taken at

-- the readers before and after a line at which the rows end
Goes-stop : (old : TextState) (e : LineEnd) (len taken : ℕ) (stage : TextStage) (end : RowsRead TextFault) → old.stage ≡ Lines → IsFirstLine old.line_end old.kept e len taken → (stage ≡ Lines → ⊥)
    → ((bytes : List ℕ) → text_stage_reading stage old.options old.columns old.line_end bytes ≡ end) → ((bytes : List ℕ) → text_stage_last stage old.options old.columns old.line_end bytes ≡ text_at_end old.options old.columns end)
    → ((after : RowsRead TextFault) → line_reading old.options old.columns (take len old.kept) after ≡ end) → ReadsRows old (record old { kept = []; stage = stage; held = None }) []
Goes-stop old e len taken stage end lines at other reads lasts stops = record {
  options = refl;
  columns = refl;
  ended = refl;
  left = λ more. before old e len taken more lines at ∙ stops (reading_after old.options old.columns (Some e) (drop taken old.kept ++ more)) ∙ sym (reads more);
  last = λ more. before-end old e len taken more lines at ∙ ap (text_at_end old.options old.columns) (stops (lines_reading old.options old.columns (text.lines e (drop taken old.kept ++ more)))) ∙ sym (lasts more);
  passes = Passes-stop old stage false other;
  given = refl;
}

-- the readers before and after a line's answer
pub Goes-line : (old new : TextState) (e : LineEnd) (len taken : ℕ) (answer : Answer) → old.stage ≡ Lines → IsFirstLine old.line_end old.kept e len taken → taken ≡ len + end_len e → TakesLine len taken (Some e) old answer new → ReadsRows old new (given_by answer)
Goes-line old new e len taken (Ok (Some row)) lines at all t =
    let o = old.options in
    let c = old.columns in
    let later = passed taken (Some e) old in
    rw t.1 (record {
      options = refl;
      columns = refl;
      ended = refl;
      left = λ more. before old e len taken more lines at ∙ t.0 (reading_after o c (Some e) (drop taken old.kept ++ more)) ∙ ap (after_rows (row ∷ [])) (sym (left-lines later more lines));
      last = λ more.
          let rest = lines_reading o c (text.lines e (drop taken old.kept ++ more)) in
          before-end old e len taken more lines at ∙ ap (text_at_end o c) (t.0 rest) ∙ at_end-after o c (row ∷ []) rest ∙ ap (after_rows (row ∷ [])) (sym (last-lines later (drop taken old.kept ++ more) lines ∙ last-of o c e (drop taken old.kept ++ more)));
      passes = Passes-line old e len taken lines at all;
      given = refl;
    })
Goes-line old new e len taken (Ok None) lines at all t = rw t.1 (Goes-stop old e len taken Marked _ lines at (λ f. cc) (λ bytes. refl) (λ bytes. refl) t.0)
Goes-line old new e len taken (Err fault) lines at all (inl t) = rw t.1 (Goes-same old)
Goes-line old new e len taken (Err fault) lines at all (inr t) = rw t.1 (Goes-stop old e len taken (Failed fault) _ lines at (λ f. cc) (λ bytes. refl) (λ bytes. refl) t.0.is)

-- what is left, where a call gave no row
pub now : (old new : TextState) (pushed : List ℕ) (given : List Row) (ending : RowsEnding TextFault) → old.ended ≡ false → new.options ≡ old.options → new.columns ≡ old.columns → HasReadText old pushed given → text_left old [] ≡ record { rows = []; ending = ending }
    → text_reading new.options new.columns pushed ≡ record { rows = given; ending = ending }
now old new pushed given ending going options columns h e =
    text_reading-same new old pushed options columns ∙ reading-now old pushed given going h ∙ ap (after_rows given) e ∙ after-none given ending

pub AnswersNext-line : (old new : TextState) (e : LineEnd) (len taken : ℕ) (answer : Answer) (pushed : List ℕ) (given : List Row) → old.stage ≡ Lines → old.ended ≡ false → IsFirstLine old.line_end old.kept e len taken → TakesLine len taken (Some e) old answer new → HasReadText old pushed given
    → AnswersNext Memory (text_reading new.options new.columns pushed) given (text_ending new.stage new.kept) answer
AnswersNext-line old new e len taken (Ok (Some row)) pushed given lines going at t h = tt
AnswersNext-line old new e len taken (Ok None) pushed given lines going at t h =
    rw t.1 (tt, now old (record old { kept = []; stage = Marked; held = None }) pushed given Done going refl refl h (before old e len taken [] lines at ∙ t.0 (reading_after old.options old.columns (Some e) (drop taken old.kept ++ []))))
AnswersNext-line old new e len taken (Err fault) pushed given lines going at (inl t) h = inl t.0
AnswersNext-line old new e len taken (Err fault) pushed given lines going at (inr t) h =
    rw t.1 (inr (refl, now old (record old { kept = []; stage = Failed fault; held = None }) pushed given (Bad fault) going refl refl h (before old e len taken [] lines at ∙ t.0.is (reading_after old.options old.columns (Some e) (drop taken old.kept ++ [])))))

-- no line is whole
pub AnswersNext-none : (old : TextState) (s : Scan) (pushed : List ℕ) (given : List Row) → old.stage ≡ Lines → old.ended ≡ false → IsScanned old.options.delimiter old.line_end old.kept s → StandsAt old.line_end old.kept s → HasReadText old pushed given
    → AnswersNext Memory (text_reading old.options old.columns pushed) given (text_ending old.stage old.kept) (Ok None)
AnswersNext-none old s pushed given lines going walked stands h =
    let open_now : text_left old [] ≡ record { rows = []; ending = Open old.kept } = left-lines old [] lines ∙ ap (reading_after old.options old.columns old.line_end) (append-nil old.kept) ∙ reading-open old.options.delimiter old.options old.columns old.line_end old.kept s walked stands in
    let here : Open old.kept ≡ text_ending old.stage old.kept = ap (λ (t : TextStage). text_ending t old.kept) (sym lines) in
    subst (λ (e : RowsEnding TextFault). IsGood e × (text_reading old.options old.columns pushed ≡ record { rows = given; ending = e })) here (tt, now old old pushed given (Open old.kept) going refl refl h open_now)

-- ---- fewer bytes are kept

pub fewer : (n : ℕ) (xs : List ℕ) → 0 < n → n ≤ length xs → length (drop n xs) < length xs
fewer n xs some le = omega (arith, length-drop n xs)

-- a line that is taken
pub fewer-line : (old new : TextState) (e : LineEnd) (len taken : ℕ) (answer : Answer) → TakesLine len taken (Some e) old answer new → 0 < taken → taken ≤ length old.kept → (row : Row) → answer ≡ Ok (Some row) → length new.kept < length old.kept
fewer-line old new e len taken (Ok (Some row)) t some le r is = rw t.1 (fewer taken old.kept some le)
fewer-line old new e len taken (Ok None) t some le r is = absurd cc
fewer-line old new e len taken (Err fault) t some le r is = absurd cc

pub row-waits : (r after : RowsRead TextFault) (row : Row) → r ≡ after_rows (row ∷ []) after → RowWaits r
row-waits r after row e = rw e (omega (arith, length-append (row ∷ []) after.rows))

pub given-line : (old new : TextState) (e : LineEnd) (len taken : ℕ) (answer : Answer) → TakesLine len taken (Some e) old answer new → new.given ≡ given_after old.given (given_by answer)
given-line old new e len taken (Ok (Some row)) t = ap (λ (s : TextState). s.given) t.1
given-line old new e len taken (Ok None) t = ap (λ (s : TextState). s.given) t.1
given-line old new e len taken (Err fault) (inl t) = ap (λ (s : TextState). s.given) t.1
given-line old new e len taken (Err fault) (inr t) = ap (λ (s : TextState). s.given) t.1

pub waits-line : (old new : TextState) (e : LineEnd) (len taken : ℕ) (answer : Answer) → old.stage ≡ Lines → IsFirstLine old.line_end old.kept e len taken → TakesLine len taken (Some e) old answer new → answer ≡ Err Memory → (new ≡ old) × RowWaits (text_left old [])
waits-line old new e len taken (Ok row) lines at t same = absurd cc
waits-line old new e len taken (Err fault) lines at (inl t) same =
    let rest = reading_after old.options old.columns (Some e) (drop taken old.kept ++ []) in
    (t.1, row-waits (text_left old []) rest t.2 (before old e len taken [] lines at ∙ t.3 rest))
waits-line old new e len taken (Err fault) lines at (inr t) same = absurd (t.0.not_memory cc)
