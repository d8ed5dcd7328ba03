-- What a reader of text files gives at the end of the input.
use Rattle.std.proofs.Common.{◌≡◌, ℕ, suc, ◌+◌, ◌<◌, ◌≤◌, true, false, List, [], ◌∷◌, ◌++◌, length, take, drop, Option, Some, None, Ok, Err, refl, sym, ap, subst, ◌∙◌, arith, inl, inr}
use Rattle.std.proofs.lemmas.List.{append-nil, drop_all, take_all, nil_from_length}
use Rattle.std.proofs.lemmas.Bool.{false≢true}
use Rattle.std.specs.Prelude.{◌⊎◌}
use Rattle.pg_copy_rows.specs.declared.fault.TextFault.{TextFault}
use Rattle.pg_copy_rows.specs.declared.fault.TextFault.TheVariants.{Memory}
use Rattle.pg_copy_text.specs.declared.line_end.LineEnd.{LineEnd}
use Rattle.pg_copy_text.specs.declared.text_stage.TextStage.{TextStage}
use Rattle.pg_copy_text.specs.declared.text_stage.TextStage.TheVariants.{Lines, Marked, Failed}
use Rattle.pg_copy_rows.specs.Row.{Row}
use Rattle.pg_copy_rows.specs.Reading.{RowsRead, RowsEnding, Open, Done, Ended, Bad, after_rows, given_by, IsGood, AnswersNext, told, one_more, given_after}
use Rattle.pg_copy_text.specs.Text.{end_len, Options, lines, decided_at_end, line_reading, lines_reading, text_reading, last_reading, text_at_end, last_after, text_file_reading}
use Rattle.pg_copy_text.specs.Text as text
use Rattle.pg_copy_text.specs.TextReader.{TextState, lines_end, HasReadText, text_left, text_last, text_stage_reading, text_stage_last, text_ending, last_text_ending}
use Rattle.pg_copy_text.specs.Private.Breaks.{IsLastLine}
use Rattle.pg_copy_text.specs.declared.text_reader.steps.LineLeft.{LineLeft}
use Rattle.pg_copy_text.specs.Private.TextLine.{passed, let_go, PassesLine, TakesLine, TakesLast, EndsInput, IsLineLeft, IsLeft}
use Rattle.pg_copy_rows.proofs.Numbers.{told-rows, told-add}
use Rattle.pg_copy_text.proofs.TextPlaces.{lines_end-zero, lines_end-none, lines_end-last, lines_end-open}
use Rattle.pg_copy_rows.proofs.Readings.{after-after, after-none}
use Rattle.pg_copy_text.proofs.TextReads.{one-more, good_ending, ending_is, last-line, last-of, last-none, at_end-after, clash, Passes-none, Passes-stop, file_reading-same, lines-so-far, goes-further, HasReadText-same, last-lines, Answer, now, fewer, row-waits, Passes}

abbrev closed : RowsRead TextFault
closed = record { rows = []; ending = Ended }

last_reading-some : (o : Options) (columns : Option ℕ) (line : List ℕ) → 0 < length line → last_reading o columns (Open line) ≡ line_reading o columns line closed
last_reading-some o columns [] lt = absurd (omega arith)
last_reading-some o columns (b ∷ bs) lt = refl

passed-same : (old new : TextState) (taken : ℕ) (end : Option LineEnd) → new ≡ passed taken end old → new ≡ record old { kept = new.kept; line_end = new.line_end; given = one_more old.given; offset = new.offset; held = None }
passed-same old new taken end e = e ∙ ap (λ (s : TextState). record old { kept = s.kept; line_end = s.line_end; given = one_more old.given; offset = s.offset; held = None }) (sym e)

passes-line : (old new : TextState) (taken : ℕ) (end : Option LineEnd) → new ≡ passed taken end old → ((n : ℕ) → lines_end old.line_end old.kept (suc n) ≡ taken + lines_end end (drop taken old.kept) n) → PassesLine old new
passes-line old new taken end e h = subst (λ (s : TextState). PassesLine old s) (sym e) (record { taken = taken; offset = refl; lines = h })

-- a line with its end
pub takes-line : (old new : TextState) (e : LineEnd) (len taken : ℕ) (answer : Answer) → old.stage ≡ Lines → 0 < taken → taken ≤ length old.kept → taken ≡ len + end_len e → IsLastLine old.line_end old.kept e len taken → TakesLine len taken (Some e) old answer new → TakesLast old answer new
takes-line old new e len taken answer lines some le all at t = go answer t
  where
    rest : RowsRead TextFault
    rest = lines_reading old.options old.columns (text.lines e (drop taken old.kept))

    first : text_last old ≡ text_at_end old.options old.columns (line_reading old.options old.columns (take len old.kept) rest)
    first = last-lines old old.kept lines ∙ last-line old.options old.columns old.line_end old.kept e len taken at

    go : (answer : Answer) → TakesLine len taken (Some e) old answer new → TakesLast old answer new
    go (Ok (Some row)) t =
        let later = passed taken (Some e) old in
        let left : text_last new ≡ text_at_end old.options old.columns rest = ap text_last t.1 ∙ last-lines later (drop taken old.kept) lines ∙ last-of old.options old.columns e (drop taken old.kept) in
        let kept : new.kept ≡ drop taken old.kept = ap (λ (s : TextState). s.kept) t.1 in (
          first ∙ ap (text_at_end old.options old.columns) (t.0 rest) ∙ at_end-after old.options old.columns (row ∷ []) rest ∙ ap (after_rows (row ∷ [])) (sym left),
          passed-same old new taken (Some e) t.1,
          rw kept (fewer taken old.kept some le),
          passes-line old new taken (Some e) t.1 (λ n. lines_end-last old.line_end old.kept e len taken n at le all),
        )
    go (Ok None) t = rw t.1 (first ∙ ap (text_at_end old.options old.columns) (t.0 rest), tt, refl, λ f. absurd (clash f))
    go (Err fault) (inl t) = inl (t.0, t.1, row-waits (text_last old) (text_at_end old.options old.columns rest) t.2 (first ∙ ap (text_at_end old.options old.columns) (t.3 rest) ∙ at_end-after old.options old.columns (t.2 ∷ []) rest))
    go (Err fault) (inr t) = inr (t.0.not_memory, first ∙ ap (text_at_end old.options old.columns) (t.0.is rest), t.1)

-- no line
pub takes-none : (old : TextState) → old.stage ≡ Lines → length old.kept ≡ 0 → TakesLast old (Ok None) (let_go old)
takes-none old lines none =
    let empty : old.kept ≡ [] = nil_from_length old.kept none in
    let all : text_last old ≡ closed = last-lines old old.kept lines ∙ ap (last_after old.options old.columns old.line_end) empty ∙ last-none old.options old.columns old.line_end in
    (all ∙ ending_is old.stage Lines lines, good_ending old.stage Lines lines tt, ap (λ (k : List ℕ). record old { kept = k; held = None }) empty, λ e. empty)

-- how an open line at the end is read
last-open : (o : Options) (columns : Option ℕ) (before : Option LineEnd) (kept : List ℕ) → lines (decided_at_end before kept) kept ≡ kept ∷ [] → 0 < length kept → last_after o columns before kept ≡ line_reading o columns kept closed
unfolding last_after
last-open o columns before kept one some = ap (λ (ls : List (List ℕ)). text_at_end o columns (lines_reading o columns ls)) one ∙ last_reading-some o columns kept some

-- an open line
pub takes-open : (old new : TextState) (answer : Answer) (end : Option LineEnd) → old.stage ≡ Lines → lines (decided_at_end old.line_end old.kept) old.kept ≡ old.kept ∷ [] → 0 < length old.kept → TakesLine (length old.kept) (length old.kept) end old answer new → TakesLast old answer new
takes-open old new answer end lines one some t = go answer t
  where
    all : take (length old.kept) old.kept ≡ old.kept
    all = take_all (length old.kept) old.kept (omega arith)

    first-line : text_last old ≡ line_reading old.options old.columns (take (length old.kept) old.kept) closed
    first-line = last-lines old old.kept lines ∙ last-open old.options old.columns old.line_end old.kept one some ∙ ap (λ (x : List ℕ). line_reading old.options old.columns x closed) (sym all)

    go : (answer : Answer) → TakesLine (length old.kept) (length old.kept) end old answer new → TakesLast old answer new
    go (Ok (Some row)) t =
        let empty : drop (length old.kept) old.kept ≡ [] = drop_all (length old.kept) old.kept (omega arith) in
        let kept : new.kept ≡ drop (length old.kept) old.kept = ap (λ (s : TextState). s.kept) t.1 in
        let nothing : text_last new ≡ closed = ap text_last t.1 ∙ last-lines (passed (length old.kept) end old) (drop (length old.kept) old.kept) lines ∙ ap (last_after old.options old.columns end) empty ∙ last-none old.options old.columns end in
        let size : (n : ℕ) → lines_end old.line_end old.kept (suc n) ≡ length old.kept + lines_end end (drop (length old.kept) old.kept) n = λ n.
        let none : lines_end end (drop (length old.kept) old.kept) n ≡ 0 = ap (λ (x : List ℕ). lines_end end x n) empty ∙ lines_end-none end n in
        omega (arith, lines_end-open old.line_end old.kept n one, none) in (
          first-line ∙ t.0 closed ∙ ap (after_rows (row ∷ [])) (sym nothing),
          passed-same old new (length old.kept) end t.1,
          rw kept (fewer (length old.kept) old.kept some (omega arith)),
          passes-line old new (length old.kept) end t.1 size,
        )
    go (Ok None) t = rw t.1 (first-line ∙ t.0 closed, tt, refl, λ f. absurd (clash f))
    go (Err fault) (inl t) = inl (t.0, t.1, row-waits (text_last old) closed t.2 (first-line ∙ t.3 closed))
    go (Err fault) (inr t) = inr (t.0.not_memory, first-line ∙ t.0.is closed, t.1)

-- what is left of the lines
pub takes-left : (old new : TextState) (left : LineLeft) (answer : Answer) → old.stage ≡ Lines → IsLeft old.options.delimiter old.line_end old.kept left → TakesLine left.scan.at left.taken left.line_end old answer new → TakesLast old answer new
takes-left old new left answer lines is t = go is.line
  where
    go : IsLineLeft old.line_end old.kept left.scan.at left.taken left.line_end → TakesLast old answer new
    go (inl l) = takes-line old new l.0 left.scan.at left.taken answer lines l.2.some is.in_range l.2.sizes l.2.is_last (rw l.1 at t)
    go (inr l) = takes-open old new answer left.line_end lines l.2.one l.2.some (rw (l.0, l.1) at t)

-- ---- what finish answers

finish-all : (old new : TextState) (pushed : List ℕ) (given : List Row) (ending : RowsEnding TextFault) → new.options ≡ old.options → new.columns ≡ old.columns → HasReadText old pushed given → text_last old ≡ record { rows = []; ending = ending }
    → text_file_reading new.options new.columns pushed ≡ record { rows = given; ending = ending }
finish-all old new pushed given ending options columns h e = file_reading-same new old pushed options columns ∙ h.in_all ∙ ap (after_rows given) e ∙ after-none given ending

ended-read : (old mid new : TextState) (rows : List Row) (pushed : List ℕ) (given : List Row) → mid.options ≡ old.options → mid.columns ≡ old.columns → new ≡ record mid { ended = true } → text_last old ≡ after_rows rows (text_last mid) → mid.given ≡ given_after old.given rows → Passes old mid (length rows) true → HasReadText old pushed given → HasReadText new pushed (given ++ rows)
ended-read old mid new rows pushed given options columns e goes count p h =
    rw e (record {
      so_far = λ f. absurd (false≢true (sym f));
      to_end = λ f. absurd (false≢true (sym f));
      in_all = file_reading-same mid old pushed options columns ∙ h.in_all ∙ ap (after_rows given) goes ∙ after-after given rows (text_last mid);
      counted = count ∙ ap (λ (n : ℕ). given_after n rows) h.counted ∙ told-rows given rows;
      placed = p.offset (lines_end None pushed (length given)) h.placed ∙ ap told (sym (lines-so-far old mid rows true pushed given h p));
      goes_on = λ more n final stands. goes-further old mid rows true pushed given h p more n (inr (no_more more final)) (inr (no_more more final)) stands;
    })
  where
    no_more : (more : List ℕ) → (true ≡ false) ⊎ (more ≡ []) → more ≡ []
    no_more more (inl f) = absurd (false≢true (sym f))
    no_more more (inr f) = f

-- the line of a row at the end of the input
Passes-last : (old mid : TextState) → old.stage ≡ Lines → PassesLine old mid → Passes old mid 1 true
Passes-last old mid among p =
    record {
      taken = p.taken;
      offset = λ m is. p.offset ∙ ap (λ (k : ℕ). told (k + p.taken)) is ∙ told-add m p.taken;
      stood = λ n h. inl among;
      lines = λ more n final h. size more n final;
    }
  where
    size : (more : List ℕ) (n : ℕ) → (true ≡ false) ⊎ (more ≡ []) → lines_end old.line_end (old.kept ++ more) (1 + n) ≡ p.taken + lines_end mid.line_end (mid.kept ++ more) n
    size more n (inl f) = absurd (false≢true (sym f))
    size more n (inr f) = rw (f, append-nil old.kept, append-nil mid.kept) (ap (lines_end old.line_end old.kept) (one-more n) ∙ p.lines n)

-- no line is left
Passes-end : (old : TextState) (stage : TextStage) → old.stage ≡ Lines → (stage ≡ Lines → old.kept ≡ []) → Passes old (record old { kept = []; stage = stage; held = None }) 0 true
Passes-end old stage lines none =
    Passes-none old (record old { kept = []; stage = stage; held = None }) true refl (λ n h. inl lines) (λ more n final h. nothing more n h)
  where
    nothing : (more : List ℕ) (n : ℕ) → (stage ≡ Lines) ⊎ (n ≡ 0) → lines_end old.line_end (old.kept ++ more) n ≡ lines_end old.line_end ([] ++ more) n
    nothing more n (inl e) = ap (λ (k : List ℕ). lines_end old.line_end (k ++ more) n) (none e)
    nothing more n (inr e) = rw (e, lines_end-zero old.line_end (old.kept ++ more), lines_end-zero old.line_end more) refl

pub HasReadText-finish : (old mid new : TextState) (answer : Answer) (pushed : List ℕ) (given : List Row) → old.stage ≡ Lines → TakesLast old answer mid → EndsInput answer mid new → HasReadText old pushed given → HasReadText new pushed (given ++ given_by answer)
HasReadText-finish old mid new (Ok (Some row)) pushed given lines t e h = ended-read old mid new (row ∷ []) pushed given (ap (λ (s : TextState). s.options) t.1) (ap (λ (s : TextState). s.columns) t.1) e t.0 (ap (λ (s : TextState). s.given) t.1) (Passes-last old mid lines t.3) h
HasReadText-finish old mid new (Ok None) pushed given lines t e h =
    let options : mid.options ≡ old.options = ap (λ (s : TextState). s.options) t.2 in
    let columns : mid.columns ≡ old.columns = ap (λ (s : TextState). s.columns) t.2 in
    let stopped : text_last mid ≡ record { rows = []; ending = last_text_ending mid.stage } = ap text_last t.2 ∙ stops mid.stage in
    let passes : Passes old mid 0 true = subst (λ (s : TextState). Passes old s 0 true) (sym t.2) (Passes-end old mid.stage lines t.3) in
    ended-read old mid new [] pushed given options columns e (t.0 ∙ sym stopped) (ap (λ (s : TextState). s.given) t.2) passes h
  where
    stops : (stage : TextStage) → text_last (record old { kept = []; stage = stage; held = None }) ≡ record { rows = []; ending = last_text_ending stage }
    stops Lines = last-none old.options old.columns old.line_end
    stops Marked = refl
    stops (Failed fault) = refl
HasReadText-finish old mid new (Err fault) pushed given lines (inl t) (inl e) h = rw (e.1 ∙ t.1) (HasReadText-same old pushed given h)
HasReadText-finish old mid new (Err fault) pushed given lines (inl t) (inr e) h = absurd (e.0 t.0)
HasReadText-finish old mid new (Err fault) pushed given lines (inr t) (inl e) h = absurd (t.0 e.0)
HasReadText-finish old mid new (Err fault) pushed given lines (inr t) (inr e) h =
    let passes : Passes old mid 0 true = subst (λ (s : TextState). Passes old s 0 true) (sym t.2) (Passes-stop old (Failed fault) true (λ f. cc)) in
    ended-read old mid new [] pushed given (ap (λ (s : TextState). s.options) t.2) (ap (λ (s : TextState). s.columns) t.2) e.1 (t.1 ∙ sym (ap text_last t.2)) (ap (λ (s : TextState). s.given) t.2) passes h

pub given-finish : (old mid new : TextState) (answer : Answer) → TakesLast old answer mid → EndsInput answer mid new → new.given ≡ given_after old.given (given_by answer)
given-finish old mid new (Ok (Some row)) t e = ap (λ (s : TextState). s.given) e ∙ ap (λ (s : TextState). s.given) t.1
given-finish old mid new (Ok None) t e = ap (λ (s : TextState). s.given) e ∙ ap (λ (s : TextState). s.given) t.2
given-finish old mid new (Err fault) (inl t) (inl e) = ap (λ (s : TextState). s.given) (e.1 ∙ t.1)
given-finish old mid new (Err fault) (inl t) (inr e) = ap (λ (s : TextState). s.given) e.1 ∙ ap (λ (s : TextState). s.given) t.1
given-finish old mid new (Err fault) (inr t) (inl e) = ap (λ (s : TextState). s.given) e.1 ∙ ap (λ (s : TextState). s.given) t.2
given-finish old mid new (Err fault) (inr t) (inr e) = ap (λ (s : TextState). s.given) e.1 ∙ ap (λ (s : TextState). s.given) t.2

pub fewer-finish : (old mid new : TextState) (answer : Answer) → TakesLast old answer mid → EndsInput answer mid new → (row : Row) → answer ≡ Ok (Some row) → length new.kept < length old.kept
fewer-finish old mid new (Ok (Some row)) t e r is = rw e t.2
fewer-finish old mid new (Ok None) t e r is = absurd cc
fewer-finish old mid new (Err fault) t e r is = absurd cc

pub AnswersNext-finish : (old mid new : TextState) (answer : Answer) (pushed : List ℕ) (given : List Row) → TakesLast old answer mid → EndsInput answer mid new → HasReadText old pushed given
    → AnswersNext Memory (text_file_reading new.options new.columns pushed) given (last_text_ending new.stage) answer
AnswersNext-finish old mid new (Ok (Some row)) pushed given t e h = tt
AnswersNext-finish old mid new (Ok None) pushed given t e h =
    rw e (t.1, finish-all old mid pushed given (last_text_ending mid.stage) (ap (λ (s : TextState). s.options) t.2) (ap (λ (s : TextState). s.columns) t.2) h t.0)
AnswersNext-finish old mid new (Err fault) pushed given (inl t) e h = inl t.0
AnswersNext-finish old mid new (Err fault) pushed given (inr t) (inl e) h = inl e.0
AnswersNext-finish old mid new (Err fault) pushed given (inr t) (inr e) h =
    rw (e.1 ∙ ap (λ (s : TextState). record s { ended = true }) t.2) (inr (refl, finish-all old old pushed given (Bad fault) refl refl h t.1))

-- ---- a reader that found the end mark, or a fault

-- the stage of a reader, which a call saw as this value
pub stage-now : (seen s : TextState) (stage : TextStage) → seen ≡ s → seen.stage ≡ stage → s.stage ≡ stage
stage-now seen s stage same is = ap (λ (t : TextState). t.stage) (sym same) ∙ is

left-at : (s : TextState) (stage : TextStage) → s.stage ≡ stage → text_left s [] ≡ text_stage_reading stage s.options s.columns s.line_end (s.kept ++ [])
left-at s stage e = ap (λ (t : TextStage). text_stage_reading t s.options s.columns s.line_end (s.kept ++ [])) e

last-at : (s : TextState) (stage : TextStage) → s.stage ≡ stage → text_last s ≡ text_stage_last stage s.options s.columns s.line_end s.kept
last-at s stage e = ap (λ (t : TextStage). text_stage_last t s.options s.columns s.line_end s.kept) e

pub HasReadText-ended : (old : TextState) (pushed : List ℕ) (given : List Row) → HasReadText old pushed given → HasReadText (record old { ended = true }) pushed (given ++ [])
HasReadText-ended old pushed given h = ended-read old old (record old { ended = true }) [] pushed given refl refl refl refl refl (Passes-none old old true refl (λ n h. h) (λ more n final h. refl)) h

pub AnswersNext-failed : (old : TextState) (pushed : List ℕ) (given : List Row) (fault : TextFault) → old.stage ≡ Failed fault → HasReadText old pushed given → AnswersNext Memory (text_file_reading old.options old.columns pushed) given (last_text_ending old.stage) (Err fault)
AnswersNext-failed old pushed given fault e h =
    inr (ap last_text_ending e, finish-all old old pushed given (Bad fault) refl refl h (last-at old (Failed fault) e))

pub AnswersNext-failed-next : (old : TextState) (pushed : List ℕ) (given : List Row) (fault : TextFault) → old.ended ≡ false → old.stage ≡ Failed fault → HasReadText old pushed given → AnswersNext Memory (text_reading old.options old.columns pushed) given (text_ending old.stage old.kept) (Err fault)
AnswersNext-failed-next old pushed given fault going e h =
    inr (ap (λ (t : TextStage). text_ending t old.kept) e, now old old pushed given (Bad fault) going refl refl h (left-at old (Failed fault) e))

pub AnswersNext-marked-next : (old : TextState) (pushed : List ℕ) (given : List Row) → old.ended ≡ false → old.stage ≡ Marked → HasReadText old pushed given → AnswersNext Memory (text_reading old.options old.columns pushed) given (text_ending old.stage old.kept) (Ok None)
AnswersNext-marked-next old pushed given going e h =
    let here : Done ≡ text_ending old.stage old.kept = ap (λ (t : TextStage). text_ending t old.kept) (sym e) in
    subst (λ (x : RowsEnding TextFault). IsGood x × (text_reading old.options old.columns pushed ≡ record { rows = given; ending = x })) here (tt, now old old pushed given Done going refl refl h (left-at old Marked e))
