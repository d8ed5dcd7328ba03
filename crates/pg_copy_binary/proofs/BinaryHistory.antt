-- What a reader of binary files has read.
use Rattle.std.proofs.Common.{◌+◌, ◌≡◌, ℕ, true, false, List, [], ◌∷◌, ◌++◌, Option, Some, None, Result, Ok, Err, refl, sym, ap, subst, ◌∙◌, arith, inl, inr}
use Rattle.std.specs.Prelude.{◌<◌}
use Rattle.std.proofs.lemmas.List.{append-nil, length-append}
use Rattle.std.proofs.lemmas.Bool.{false≢true, lt-ltb, cond-true}
use Rattle.pg_copy_binary.specs.declared.binary_part.NoPart.TheVariants as stops
use Rattle.pg_copy_rows.specs.declared.fault.BinaryFault.{BinaryFault}
use Rattle.pg_copy_rows.specs.declared.fault.BinaryFault.TheVariants.{Truncated, Memory}
use Rattle.pg_copy_binary.specs.declared.binary_part.NoRow.{NoRow}
use Rattle.pg_copy_binary.specs.declared.binary_part.NoRow.TheVariants as no_row
use Rattle.pg_copy_binary.specs.declared.binary_reader.BinaryStage.{BinaryStage}
use Rattle.pg_copy_binary.specs.declared.binary_reader.BinaryStage.TheVariants.{Head, Extension, Rows, Closed, Failed}
use Rattle.pg_copy_rows.specs.Row.{Row}
use Rattle.pg_copy_rows.specs.Reading.{RowsRead, RowsEnding, Open, Done, Bad, after_rows, RowWaits, given_by, IsGood, AnswersNext, told, given_after}
use Rattle.pg_copy_binary.specs.Binary.{open_head}
use Rattle.pg_copy_binary.specs.BinaryPart.{NoPart, Incomplete, Faulty, ◌>>=◌, bytes_at, fixed_at, head_at, row_at, part_reading, row_reading, body_reading, head_reading, binary_reading, trailer_reading, last_ending, binary_at_end, binary_file_reading}
use Rattle.pg_copy_binary.specs.BinaryReader.{BinaryState, binary_stage_reading, binary_left, HasReadBinary, WaitsWith, rows_begin, rows_size, IsPlaced, binary_ending}
use Rattle.pg_copy_binary.specs.Private.BinaryPart.{closed_at, row_or_trailer, body_at, part_at, extension_left, in_extension, after_head, waiting_at, let_go, row_offset, offset_after, option_rows, TakesPart}
use Rattle.pg_copy_rows.proofs.Numbers.{told-rows}
use Rattle.pg_copy_binary.proofs.BinaryPlaces.{begins, begins-head, ends-none, ends-rows, at-part, placed-taken, fails-at}
use Rattle.pg_copy_rows.proofs.Readings.{after-after, after-none}
use Rattle.pg_copy_binary.proofs.BinaryReads.{Grows, row_grows, head_grows, bytes_grow, body-step, part-rows}
use Rattle.pg_copy_binary.proofs.BinaryHeads.{head-open, open-few, open-many, skip-reads}

-- ---- what a call does by the next part

-- the answer of next, and of finish
abbrev pub next_answer : Result (Option Row) NoRow → Result (Option Row) BinaryFault
next_answer (Ok row) = Ok row
next_answer (Err no_row.Memory) = Err Memory
next_answer (Err (no_row.NoPart stops.Incomplete)) = Ok None
next_answer (Err (no_row.NoPart (stops.Faulty fault))) = Err fault

abbrev pub last_answer : Result (Option Row) NoRow → Result (Option Row) BinaryFault
last_answer (Ok row) = Ok row
last_answer (Err no_row.Memory) = Err Memory
last_answer (Err (no_row.NoPart stops.Incomplete)) = Err Truncated
last_answer (Err (no_row.NoPart (stops.Faulty fault))) = Err fault

-- how finish leaves the reader
abbrev pub finished : Result (Option Row) NoRow → BinaryState → BinaryState
finished (Ok row) mid = record mid { ended = true }
finished (Err no_row.Memory) mid = mid
finished (Err (no_row.NoPart stops.Incomplete)) mid = record mid { kept = []; stage = Failed Truncated; ended = true; held = None }
finished (Err (no_row.NoPart (stops.Faulty fault))) mid = record mid { ended = true }

-- ---- the next part

-- the bytes after a head that is whole, or an extension
abbrev pub bytes_after : Result (List ℕ × List ℕ) NoPart → List ℕ → List ℕ
bytes_after (Ok h) kept = h.1
bytes_after (Err stop) kept = kept

-- the bytes of the part that isn't whole
abbrev pub open_bytes : BinaryStage → List ℕ → List ℕ
open_bytes Head bytes = bytes_after (head_at bytes) (open_head bytes)
open_bytes (Extension n) bytes = bytes_after (bytes_at n bytes) []
open_bytes Rows bytes = bytes
open_bytes Closed bytes = bytes
open_bytes (Failed fault) bytes = bytes

-- a reading that is due, by the next part of it
abbrev pub PartReads : ℕ → ℕ → List ℕ → Result ((Option Row × BinaryStage) × List ℕ) NoPart → (List ℕ → RowsRead BinaryFault) → Type 0
PartReads columns limit waits (Ok x) due = ((x.0.0 ≡ None) → (x.0.1 ≡ Closed) × (x.1 ≡ [])) × ((more : List ℕ) → due more ≡ after_rows (option_rows x.0.0) (binary_stage_reading x.0.1 columns limit (x.1 ++ more)))
PartReads columns limit waits (Err Incomplete) due = due [] ≡ record { rows = []; ending = Open waits }
PartReads columns limit waits (Err (Faulty fault)) due = (more : List ℕ) → due more ≡ record { rows = []; ending = Bad fault }

reads-same : (columns limit : ℕ) (waits : List ℕ) (p : Result ((Option Row × BinaryStage) × List ℕ) NoPart) (due due' : List ℕ → RowsRead BinaryFault) → ((more : List ℕ) → due more ≡ due' more) → PartReads columns limit waits p due' → PartReads columns limit waits p due
reads-same columns limit waits (Ok x) due due' e h = (h.0, λ more. e more ∙ h.1 more)
reads-same columns limit waits (Err Incomplete) due due' e h = e [] ∙ h
reads-same columns limit waits (Err (Faulty fault)) due due' e h = λ more. e more ∙ h more

closed-reads : (columns limit : ℕ) (waits bytes : List ℕ) → PartReads columns limit waits (closed_at bytes) (λ more. trailer_reading (bytes ++ more))
closed-reads columns limit waits [] = (λ e. (refl, refl), λ more. refl)
closed-reads columns limit waits (b ∷ bs) = λ more. refl

row-reads : (columns limit : ℕ) (waits : List ℕ) (o : Option Row) (rest : List ℕ) → PartReads columns limit waits (row_or_trailer o rest) (λ more. row_reading o (rest ++ more) (body_reading columns limit))
row-reads columns limit waits None rest = closed-reads columns limit waits rest
row-reads columns limit waits (Some row) rest = (λ e. absurd cc, λ more. refl)

body-reads : (columns limit : ℕ) (bytes : List ℕ) → PartReads columns limit bytes (body_at columns limit bytes) (λ more. body_reading columns limit (bytes ++ more))
unfolding body_at
body-reads columns limit bytes = go (row_at columns limit bytes) refl
  where
    go : (r : Result (Option Row × List ℕ) NoPart) → row_at columns limit bytes ≡ r → PartReads columns limit bytes (r >>= λ x. row_or_trailer x.0 x.1) (λ more. body_reading columns limit (bytes ++ more))
    go (Ok x) e =
        reads-same columns limit bytes (row_or_trailer x.0 x.1) (λ more. body_reading columns limit (bytes ++ more)) (λ more. row_reading x.0 (x.1 ++ more) (body_reading columns limit))
        (λ more.
        let longer : row_at columns limit (bytes ++ more) ≡ Ok (x.0, x.1 ++ more) = subst (λ t. Grows t (row_at columns limit (bytes ++ more)) more) e (row_grows columns limit bytes more) in
        body-step columns limit (bytes ++ more) ∙ ap (λ t. part_reading (bytes ++ more) t (body_reading columns limit)) longer)
        (row-reads columns limit bytes x.0 x.1)
    go (Err Incomplete) e = body-step columns limit (bytes ++ []) ∙ ap (λ (x : List ℕ). part_reading x (row_at columns limit x) (body_reading columns limit)) (append-nil bytes) ∙ ap (λ t. part_reading bytes t (body_reading columns limit)) e
    go (Err (Faulty fault)) e = λ more.
        let longer : row_at columns limit (bytes ++ more) ≡ Err (Faulty fault) = subst (λ t. Grows t (row_at columns limit (bytes ++ more)) more) e (row_grows columns limit bytes more) in
        body-step columns limit (bytes ++ more) ∙ ap (λ t. part_reading (bytes ++ more) t (body_reading columns limit)) longer

-- a head, or an extension, and what stands after it
front-reads : (front : List ℕ → Result (List ℕ × List ℕ) NoPart) (stays : List ℕ → List ℕ) (columns limit : ℕ) (bytes : List ℕ) → ((more : List ℕ) → Grows (front bytes) (front (bytes ++ more)) more)
    → PartReads columns limit (bytes_after (front bytes) (stays bytes)) (front bytes >>= λ h. body_at columns limit h.1) (λ more. head_reading (stays (bytes ++ more)) (front (bytes ++ more)) (body_reading columns limit))
front-reads front stays columns limit bytes grows = go (front bytes) refl
  where
    go : (r : Result (List ℕ × List ℕ) NoPart) → front bytes ≡ r → PartReads columns limit (bytes_after r (stays bytes)) (r >>= λ h. body_at columns limit h.1) (λ more. head_reading (stays (bytes ++ more)) (front (bytes ++ more)) (body_reading columns limit))
    go (Ok x) e =
        reads-same columns limit x.1 (body_at columns limit x.1) (λ more. head_reading (stays (bytes ++ more)) (front (bytes ++ more)) (body_reading columns limit)) (λ more. body_reading columns limit (x.1 ++ more))
        (λ more.
        let longer : front (bytes ++ more) ≡ Ok (x.0, x.1 ++ more) = subst (λ t. Grows t (front (bytes ++ more)) more) e (grows more) in
        ap (λ t. head_reading (stays (bytes ++ more)) t (body_reading columns limit)) longer)
        (body-reads columns limit x.1)
    go (Err Incomplete) e = ap (λ (x : List ℕ). head_reading (stays x) (front x) (body_reading columns limit)) (append-nil bytes) ∙ ap (λ t. head_reading (stays bytes) t (body_reading columns limit)) e
    go (Err (Faulty fault)) e = λ more.
        let longer : front (bytes ++ more) ≡ Err (Faulty fault) = subst (λ t. Grows t (front (bytes ++ more)) more) e (grows more) in
        ap (λ t. head_reading (stays (bytes ++ more)) t (body_reading columns limit)) longer

pub part-reads : (stage : BinaryStage) (columns limit : ℕ) (bytes : List ℕ) → PartReads columns limit (open_bytes stage bytes) (part_at stage columns limit bytes) (λ more. binary_stage_reading stage columns limit (bytes ++ more))
unfolding part_at binary_reading
part-reads Head columns limit bytes = front-reads head_at open_head columns limit bytes (head_grows bytes)
part-reads (Extension n) columns limit bytes = front-reads (bytes_at n) (λ x. []) columns limit bytes (bytes_grow n bytes)
part-reads Rows columns limit bytes = body-reads columns limit bytes
part-reads Closed columns limit bytes = closed-reads columns limit bytes bytes
part-reads (Failed fault) columns limit bytes = λ more. refl

-- ---- rows that are given go over from what is left to what was given

abbrev Answer : Type 0
Answer = Result (Option Row) NoRow

-- the rows of an answer
abbrev pub answer_rows : Answer → List Row
answer_rows (Ok o) = option_rows o
answer_rows (Err e) = []

-- a call that gives these rows of what was left
pub record ReadsRows (old new : BinaryState) (rows : List Row) : Type 0 where
  pub columns : new.columns ≡ old.columns
  pub limit : new.limit ≡ old.limit
  pub ended : new.ended ≡ old.ended
  pub left : (more : List ℕ) → binary_left old more ≡ after_rows rows (binary_left new more)
  pub given : new.given ≡ given_after old.given rows
  pub placed : (pushed : List ℕ) (given : List Row) → IsPlaced old.stage old.kept old.offset pushed given → IsPlaced new.stage new.kept new.offset pushed (given ++ rows)

pub whole-same : (old new : BinaryState) (bytes : List ℕ) → new.columns ≡ old.columns → new.limit ≡ old.limit → binary_reading new.columns new.limit bytes ≡ binary_reading old.columns old.limit bytes
whole-same old new bytes e f = ap (λ (c : ℕ). binary_reading c new.limit bytes) e ∙ ap (λ (l : ℕ). binary_reading old.columns l bytes) f

pub HasReadBinary-goes : (old new : BinaryState) (rows : List Row) (pushed : List ℕ) (given : List Row) → ReadsRows old new rows → HasReadBinary old pushed given → HasReadBinary new pushed (given ++ rows)
HasReadBinary-goes old new rows pushed given g h =
    record {
      so_far = λ e more. whole-same old new (pushed ++ more) g.columns g.limit ∙ h.so_far (sym g.ended ∙ e) more ∙ ap (after_rows given) (g.left more) ∙ after-after given rows (binary_left new more);
      in_all = ap binary_at_end (whole-same old new pushed g.columns g.limit) ∙ h.in_all ∙ ap (λ (r : RowsRead BinaryFault). after_rows given (binary_at_end r)) (g.left []) ∙ after-after given rows (binary_at_end (binary_left new []));
      counted = g.given ∙ ap (λ (n : ℕ). given_after n rows) h.counted ∙ told-rows given rows;
      placed = g.placed pushed given h.placed;
    }

pub Goes-same : (old : BinaryState) → ReadsRows old old []
Goes-same old = record { columns = refl; limit = refl; ended = refl; left = λ more. refl; given = refl; placed = λ pushed given p. subst (λ (rows : List Row). IsPlaced old.stage old.kept old.offset pushed rows) (sym (append-nil given)) p }

-- a head that lacks bytes of its extension alone goes off
enters : (s : BinaryState) (kept : List ℕ) → head_at kept ≡ Err Incomplete →
    let old : BinaryState = record s { kept = kept; stage = Head } in
    ReadsRows old (in_extension (extension_left (fixed_at kept)) (record old { offset = rows_begin s.offset (fixed_at kept) })) []
enters s kept short = go (fixed_at kept) refl
  where
    go : (r : Result (ℕ × List ℕ) NoPart) → fixed_at kept ≡ r →
        let old : BinaryState = record s { kept = kept; stage = Head } in
        ReadsRows old (in_extension (extension_left r) (record old { offset = rows_begin s.offset r })) []
    go (Ok n) e =
        let are = head-open kept (Ok n) short e in
        record { columns = refl; limit = refl; ended = refl; left = λ more. skip-reads s.columns s.limit kept more n e are.0 are.1; given = refl; placed = λ pushed given p. ends-none (19 + n.0) pushed given (begins kept pushed given n e p.0 p.1) }
    go (Err stop) e = Goes-same (record s { kept = kept; stage = Head })

faulty-head : (columns limit : ℕ) (kept : List ℕ) (fault : BinaryFault) → head_at kept ≡ Err (Faulty fault) → part_at Head columns limit kept ≡ Err Incomplete → ⊥
unfolding part_at
faulty-head columns limit kept fault e h = clash (sym (ap (λ r. r >>= λ x. body_at columns limit x.1) e) ∙ h)
  where
    clash : ◌≡◌ {A = Result ((Option Row × BinaryStage) × List ℕ) NoPart} (Err (Faulty fault)) (Err Incomplete) → ⊥
    clash f = cc

-- a reader that waits has what it had, but for the head
waits : (s : BinaryState) (kept : List ℕ) (stage : BinaryStage) → part_at stage s.columns s.limit kept ≡ Err Incomplete →
    let old : BinaryState = record s { kept = kept; stage = stage } in
    ReadsRows old (waiting_at stage old) []
unfolding binary_reading
waits s kept Head short = go (head_at kept) refl
  where
    go : (r : Result (List ℕ × List ℕ) NoPart) → head_at kept ≡ r →
        let old : BinaryState = record s { kept = kept; stage = Head } in
        ReadsRows old (after_head r (in_extension (extension_left (fixed_at kept)) (record old { offset = rows_begin s.offset (fixed_at kept) })) (record old { offset = rows_begin s.offset (fixed_at kept) })) []
    go (Ok h) e = record {
      columns = refl;
      limit = refl;
      ended = refl;
      left = λ more.
          let longer : head_at (kept ++ more) ≡ Ok (h.0, h.1 ++ more) = subst (λ t. Grows t (head_at (kept ++ more)) more) e (head_grows kept more) in
          ap (λ t. head_reading (open_head (kept ++ more)) t (body_reading s.columns s.limit)) longer;
      given = refl;
      placed = λ pushed given p. ends-none (rows_begin s.offset (fixed_at kept)) pushed given (begins-head s.offset kept pushed given h e p.0 p.1);
    }
    go (Err Incomplete) e = enters s kept e
    go (Err (Faulty fault)) e = absurd (faulty-head s.columns s.limit kept fault e short)
waits s kept (Extension n) short = go (bytes_at n kept) refl
  where
    go : (r : Result (List ℕ × List ℕ) NoPart) → bytes_at n kept ≡ r →
        let old : BinaryState = record s { kept = kept; stage = Extension n } in
        ReadsRows old (after_head r old old) []
    go (Ok h) e = record {
      columns = refl;
      limit = refl;
      ended = refl;
      left = λ more.
          let longer : bytes_at n (kept ++ more) ≡ Ok (h.0, h.1 ++ more) = subst (λ t. Grows t (bytes_at n (kept ++ more)) more) e (bytes_grow n kept more) in
          ap (λ t. head_reading [] t (body_reading s.columns s.limit)) longer;
      given = refl;
      placed = λ pushed given p. ends-none s.offset pushed given p;
    }
    go (Err stop) e = Goes-same (record s { kept = kept; stage = Extension n })
waits s kept Rows short = Goes-same (record s { kept = kept; stage = Rows })
waits s kept Closed short = Goes-same (record s { kept = kept; stage = Closed })
waits s kept (Failed fault) short = Goes-same (record s { kept = kept; stage = Failed fault })

-- what the next part says of what is left
abbrev Due : BinaryState → Result ((Option Row × BinaryStage) × List ℕ) NoPart → Type 0
Due old p = PartReads old.columns old.limit (open_bytes old.stage old.kept) p (λ more. binary_left old more)

due : (old : BinaryState) (p : Result ((Option Row × BinaryStage) × List ℕ) NoPart) → part_at old.stage old.columns old.limit old.kept ≡ p → Due old p
due old p e = subst (λ q. Due old q) e (part-reads old.stage old.columns old.limit old.kept)

-- what is lent is no part of what is left
Goes-held : {new : BinaryState} {rows : List Row} (old : BinaryState) → ReadsRows (let_go old) new rows → ReadsRows old new rows
Goes-held old g = record { columns = g.columns; limit = g.limit; ended = g.ended; left = g.left; given = g.given; placed = g.placed }

pub Goes-part : (answer : Answer) (old new : BinaryState) → TakesPart answer old new → ReadsRows old new (answer_rows answer)
Goes-part (Ok o) old new h =
    let r = due old (Ok ((o, new.stage), new.kept)) h.0 in
    rw h.1 (record { columns = refl; limit = refl; ended = refl; left = λ more. r.1 more; given = refl; placed = λ pushed given p. placed-taken o new.stage new.kept (offset_after (row_offset old.stage old.kept old.offset) (option_rows o)) pushed (given ++ option_rows o) (λ row e. part-rows old.stage old.columns old.limit old.kept row new.stage new.kept (h.0 ∙ ap (λ (q : Option Row). Ok ((q, new.stage), new.kept)) e)) (λ e. (r.0 e).0) (ends-rows (row_offset old.stage old.kept old.offset) (option_rows o) pushed given (at-part old.stage old.columns old.limit old.kept old.offset pushed given ((o, new.stage), new.kept) h.0 p)) })
Goes-part (Err no_row.Memory) old new h = rw h.0 (Goes-same old)
Goes-part (Err (no_row.NoPart stops.Incomplete)) old new h = rw h.1 (Goes-held old (waits (let_go old) old.kept old.stage h.0))
Goes-part (Err (no_row.NoPart (stops.Faulty fault))) old new h =
    let r : (more : List ℕ) → binary_left old more ≡ record { rows = []; ending = Bad fault } = due old (Err (Faulty fault)) h.1 in
    rw h.2 (record { columns = refl; limit = refl; ended = refl; left = r; given = refl; placed = λ pushed given p. fails-at old.stage old.kept old.offset pushed given p ∙ ap (λ (rows : List Row). told (rows_begin 0 (fixed_at pushed) + rows_size rows)) (sym (append-nil given)) })

-- what the bytes pushed give so far
pub reading-now : (s : BinaryState) (pushed : List ℕ) (given : List Row) → s.ended ≡ false → HasReadBinary s pushed given → binary_reading s.columns s.limit pushed ≡ after_rows given (binary_left s [])
reading-now s pushed given e h = ap (binary_reading s.columns s.limit) (sym (append-nil pushed)) ∙ h.so_far e []

whole-from : (old new : BinaryState) (pushed : List ℕ) (given : List Row) (ending : RowsEnding BinaryFault) → old.ended ≡ false → new.columns ≡ old.columns → new.limit ≡ old.limit → HasReadBinary old pushed given
    → binary_left old [] ≡ record { rows = []; ending = ending } → binary_reading new.columns new.limit pushed ≡ record { rows = given; ending = ending }
whole-from old new pushed given ending going e f h l =
    whole-same old new pushed e f ∙ reading-now old pushed given going h ∙ ap (after_rows given) l ∙ after-none given ending

-- what is left where no row is: nothing after the trailer, or a part that isn't whole, or a fault
left-none : (old new : BinaryState) → TakesPart (Ok None) old new → (new.stage ≡ Closed) × (binary_left old [] ≡ record { rows = []; ending = Done })
left-none old new h =
    let r = due old (Ok ((None, new.stage), new.kept)) h.0 in
    let n = r.0 refl in
    (n.0, r.1 [] ∙ ap (λ (t : BinaryStage). binary_stage_reading t old.columns old.limit (new.kept ++ [])) n.0 ∙ ap (λ (x : List ℕ). trailer_reading (x ++ [])) n.1)

left-open : (old new : BinaryState) → TakesPart (Err (no_row.NoPart stops.Incomplete)) old new → binary_left old [] ≡ record { rows = []; ending = Open (open_bytes old.stage old.kept) }
left-open old new h = due old (Err Incomplete) h.0

left-fault : (old new : BinaryState) (fault : BinaryFault) → TakesPart (Err (no_row.NoPart (stops.Faulty fault))) old new → binary_left old [] ≡ record { rows = []; ending = Bad fault }
left-fault old new fault h =
    let r : (more : List ℕ) → binary_left old more ≡ record { rows = []; ending = Bad fault } = due old (Err (Faulty fault)) h.1 in
    r []

-- a part that isn't whole is waited for at the head and among the rows alone
abbrev EndsOpen : BinaryState → List ℕ → Type 0
EndsOpen new bytes = (binary_ending new.stage new.kept ≡ Open bytes) × IsGood (binary_ending new.stage new.kept)

enters-open : (s : BinaryState) (kept : List ℕ) → head_at kept ≡ Err Incomplete → EndsOpen (in_extension (extension_left (fixed_at kept)) (record s { kept = kept; stage = Head })) (open_head kept)
enters-open s kept short = go (fixed_at kept) refl
  where
    go : (r : Result (ℕ × List ℕ) NoPart) → fixed_at kept ≡ r → EndsOpen (in_extension (extension_left r) (record s { kept = kept; stage = Head })) (open_head kept)
    go (Ok n) e =
        let are = head-open kept (Ok n) short e in
        (ap (λ (x : List ℕ). Open x) (sym (open-many kept are.0)), tt)
    go (Err stop) e = (ap (λ (x : List ℕ). Open x) (sym (open-few kept (head-open kept (Err stop) short e))), tt)

open-ending : (s : BinaryState) (kept : List ℕ) (stage : BinaryStage) → part_at stage s.columns s.limit kept ≡ Err Incomplete →
    EndsOpen (waiting_at stage (record s { kept = kept; stage = stage })) (open_bytes stage kept)
unfolding part_at
open-ending s kept Head e = go (head_at kept) refl
  where
    go : (r : Result (List ℕ × List ℕ) NoPart) → head_at kept ≡ r →
        let old : BinaryState = record s { kept = kept; stage = Head; offset = rows_begin s.offset (fixed_at kept) } in
        EndsOpen (after_head r (in_extension (extension_left (fixed_at kept)) old) old) (bytes_after r (open_head kept))
    go (Ok h) f = (refl, tt)
    go (Err Incomplete) f = enters-open (record s { offset = rows_begin s.offset (fixed_at kept) }) kept f
    go (Err (Faulty fault)) f = absurd (faulty-head s.columns s.limit kept fault f e)
open-ending s kept (Extension n) e = go (bytes_at n kept)
  where
    go : (r : Result (List ℕ × List ℕ) NoPart) →
        let old : BinaryState = record s { kept = kept; stage = Extension n } in
        EndsOpen (after_head r old old) (bytes_after r [])
    go (Ok h) = (refl, tt)
    go (Err stop) = (refl, tt)
open-ending s kept Rows e = (refl, tt)
open-ending s [] Closed e = absurd cc
open-ending s (b ∷ bs) Closed e = absurd cc
open-ending s kept (Failed fault) e = absurd cc

pub AnswersNext-next : (answer : Answer) (old new : BinaryState) (pushed : List ℕ) (given : List Row) → old.ended ≡ false → TakesPart answer old new → HasReadBinary old pushed given
    → AnswersNext Memory (binary_reading new.columns new.limit pushed) given (binary_ending new.stage new.kept) (next_answer answer)
AnswersNext-next (Ok (Some row)) old new pushed given going h k = tt
AnswersNext-next (Ok None) old new pushed given going h k =
    let n = left-none old new h in
    let g = Goes-part (Ok None) old new h in
    let file : binary_reading new.columns new.limit pushed ≡ record { rows = given; ending = Done } = whole-from old new pushed given Done going g.columns g.limit k n.1 in
    let here : Done ≡ binary_ending new.stage new.kept = ap (λ (t : BinaryStage). binary_ending t new.kept) (sym n.0) in
    subst (λ (x : RowsEnding BinaryFault). IsGood x × (binary_reading new.columns new.limit pushed ≡ record { rows = given; ending = x })) here (tt, file)
AnswersNext-next (Err no_row.Memory) old new pushed given going h k = inl refl
AnswersNext-next (Err (no_row.NoPart stops.Incomplete)) old new pushed given going h k =
    let o = open-ending (let_go old) old.kept old.stage h.0 in
    let g = Goes-part (Err (no_row.NoPart stops.Incomplete)) old new h in
    let file = whole-from old new pushed given (Open (open_bytes old.stage old.kept)) going g.columns g.limit k (left-open old new h) in
    let o' = subst (λ (s : BinaryState). EndsOpen s (open_bytes old.stage old.kept)) (sym h.1) o in
    (o'.1, file ∙ ap (λ (x : RowsEnding BinaryFault). record { rows = given; ending = x }) (sym o'.0))
AnswersNext-next (Err (no_row.NoPart (stops.Faulty fault))) old new pushed given going h k =
    let g = Goes-part (Err (no_row.NoPart (stops.Faulty fault))) old new h in
    inr (ap (λ (s : BinaryState). binary_ending s.stage s.kept) h.2, whole-from old new pushed given (Bad fault) going g.columns g.limit k (left-fault old new fault h))

-- what is kept where a row is waited for
enters-with : (s : BinaryState) (kept : List ℕ) → head_at kept ≡ Err Incomplete →
    let new : BinaryState = in_extension (extension_left (fixed_at kept)) (record s { kept = kept; stage = Head }) in
    WaitsWith new.stage new.kept
enters-with s kept short = go (fixed_at kept) refl
  where
    go : (r : Result (ℕ × List ℕ) NoPart) → fixed_at kept ≡ r →
        let new : BinaryState = in_extension (extension_left r) (record s { kept = kept; stage = Head }) in
        WaitsWith new.stage new.kept
    go (Ok n) e = refl
    go (Err stop) e = head-open kept (Err stop) short e

waits-with : (s : BinaryState) (kept : List ℕ) (stage : BinaryStage) → ((n : ℕ) → stage ≡ Extension n → kept ≡ []) → part_at stage s.columns s.limit kept ≡ Err Incomplete →
    let new : BinaryState = waiting_at stage (record s { kept = kept; stage = stage }) in
    WaitsWith new.stage new.kept
unfolding part_at
waits-with s kept Head skips e = go (head_at kept) refl
  where
    go : (r : Result (List ℕ × List ℕ) NoPart) → head_at kept ≡ r →
        let old : BinaryState = record s { kept = kept; stage = Head; offset = rows_begin s.offset (fixed_at kept) } in
        let new : BinaryState = after_head r (in_extension (extension_left (fixed_at kept)) old) old in
        WaitsWith new.stage new.kept
    go (Ok h) f = tt
    go (Err Incomplete) f = enters-with (record s { offset = rows_begin s.offset (fixed_at kept) }) kept f
    go (Err (Faulty fault)) f = absurd (faulty-head s.columns s.limit kept fault f e)
waits-with s kept (Extension n) skips e = go (bytes_at n kept)
  where
    go : (r : Result (List ℕ × List ℕ) NoPart) →
        let old : BinaryState = record s { kept = kept; stage = Extension n } in
        let new : BinaryState = after_head r old old in
        WaitsWith new.stage new.kept
    go (Ok h) = tt
    go (Err stop) = skips n refl
waits-with s kept Rows skips e = tt
waits-with s [] Closed skips e = refl
waits-with s (b ∷ bs) Closed skips e = absurd cc
waits-with s kept (Failed fault) skips e = tt

pub next-waits : (answer : Answer) (old new : BinaryState) → ((n : ℕ) → old.stage ≡ Extension n → old.kept ≡ []) → TakesPart answer old new → next_answer answer ≡ Ok None → WaitsWith new.stage new.kept
next-waits (Ok (Some row)) old new skips h e = absurd cc
next-waits (Ok None) old new skips h e =
    let n = (due old (Ok ((None, new.stage), new.kept)) h.0).0 refl in
    subst (λ (t : BinaryStage). WaitsWith t new.kept) (sym n.0) n.1
next-waits (Err no_row.Memory) old new skips h e = absurd cc
next-waits (Err (no_row.NoPart stops.Incomplete)) old new skips h e =
    let with = waits-with (let_go old) old.kept old.stage skips h.0 in
    subst (λ (s : BinaryState). WaitsWith s.stage s.kept) (sym h.1) with
next-waits (Err (no_row.NoPart (stops.Faulty fault))) old new skips h e = absurd cc

-- a reader within an extension takes no part
pub stays-within : (old : BinaryState) (n : ℕ) → old.stage ≡ Extension n → (0 < n) × (old.kept ≡ []) → old.held ≡ None → TakesPart (Err (no_row.NoPart stops.Incomplete)) old old
unfolding part_at
stays-within old n e skips none_held =
    let none : bytes_at n old.kept ≡ Err Incomplete = ap (bytes_at n) skips.1 ∙ cond-true _ _ _ (lt-ltb 0 n skips.0) in (
      ap (λ (t : BinaryStage). part_at t old.columns old.limit old.kept) e ∙ ap (λ r. r >>= λ h. body_at old.columns old.limit h.1) none,
      ap (λ r. after_head r old old) (sym none) ∙ ap (λ (t : BinaryStage). waiting_at t old) (sym e) ∙ ap (λ (o : Option Row). waiting_at old.stage (record old { held = o })) none_held,
    )

pub given-next : (answer : Answer) → given_by (next_answer answer) ≡ answer_rows answer
given-next (Ok (Some row)) = refl
given-next (Ok None) = refl
given-next (Err no_row.Memory) = refl
given-next (Err (no_row.NoPart stops.Incomplete)) = refl
given-next (Err (no_row.NoPart (stops.Faulty fault))) = refl

pub HasReadBinary-next : (answer : Answer) (old new : BinaryState) (pushed : List ℕ) (given : List Row) → TakesPart answer old new → HasReadBinary old pushed given → HasReadBinary new pushed (given ++ given_by (next_answer answer))
HasReadBinary-next answer old new pushed given h k = rw (given-next answer) (HasReadBinary-goes old new (answer_rows answer) pushed given (Goes-part answer old new h) k)

-- ---- the end of the input

pub HasReadBinary-ended : (mid new : BinaryState) (pushed : List ℕ) (given : List Row) → new ≡ record mid { ended = true } → HasReadBinary mid pushed given → HasReadBinary new pushed given
HasReadBinary-ended mid new pushed given e h = subst (λ (s : BinaryState). HasReadBinary s pushed given) (sym e) (record { so_far = λ f. absurd (false≢true (sym f)); in_all = h.in_all; counted = h.counted; placed = h.placed })

all-from : (old new : BinaryState) (pushed : List ℕ) (given : List Row) (ending : RowsEnding BinaryFault) → new.columns ≡ old.columns → new.limit ≡ old.limit → HasReadBinary old pushed given
    → binary_left old [] ≡ record { rows = []; ending = ending } → binary_file_reading new.columns new.limit pushed ≡ record { rows = given; ending = last_ending ending }
all-from old new pushed given ending e f h l =
    ap binary_at_end (whole-same old new pushed e f) ∙ h.in_all ∙ ap (λ (r : RowsRead BinaryFault). after_rows given (binary_at_end r)) l ∙ after-none given (last_ending ending)

pub AnswersNext-finish : (answer : Answer) (old mid new : BinaryState) (pushed : List ℕ) (given : List Row) → TakesPart answer old mid → new ≡ finished answer mid → HasReadBinary old pushed given
    → AnswersNext Memory (binary_file_reading new.columns new.limit pushed) given (binary_ending new.stage new.kept) (last_answer answer)
AnswersNext-finish (Ok (Some row)) old mid new pushed given h e k = tt
AnswersNext-finish (Ok None) old mid new pushed given h e k =
    let n = left-none old mid h in
    let g = Goes-part (Ok None) old mid h in
    let file : binary_file_reading mid.columns mid.limit pushed ≡ record { rows = given; ending = Done } = all-from old mid pushed given Done g.columns g.limit k n.1 in
    let here : Done ≡ binary_ending mid.stage mid.kept = ap (λ (t : BinaryStage). binary_ending t mid.kept) (sym n.0) in
    rw e (subst (λ (x : RowsEnding BinaryFault). IsGood x × (binary_file_reading mid.columns mid.limit pushed ≡ record { rows = given; ending = x })) here (tt, file))
AnswersNext-finish (Err no_row.Memory) old mid new pushed given h e k = inl refl
AnswersNext-finish (Err (no_row.NoPart stops.Incomplete)) old mid new pushed given h e k =
    let g = Goes-part (Err (no_row.NoPart stops.Incomplete)) old mid h in
    rw e (inr (refl, all-from old mid pushed given (Open (open_bytes old.stage old.kept)) g.columns g.limit k (left-open old mid h)))
AnswersNext-finish (Err (no_row.NoPart (stops.Faulty fault))) old mid new pushed given h e k =
    let g = Goes-part (Err (no_row.NoPart (stops.Faulty fault))) old mid h in
    rw e (inr (ap (λ (s : BinaryState). binary_ending s.stage s.kept) h.2, all-from old mid pushed given (Bad fault) g.columns g.limit k (left-fault old mid fault h)))

-- a reader that waits tells where the part begins that it waits for
rests : (s : BinaryState) (kept : List ℕ) (stage : BinaryStage) → let new : BinaryState = waiting_at stage (record s { kept = kept; stage = stage }) in row_offset new.stage new.kept new.offset ≡ new.offset
rests s kept Head = go (head_at kept)
  where
    by_fixed : (r : Result (ℕ × List ℕ) NoPart) → fixed_at kept ≡ r → let new : BinaryState = in_extension (extension_left r) (record s { kept = kept; stage = Head; offset = rows_begin s.offset r }) in row_offset new.stage new.kept new.offset ≡ new.offset
    by_fixed (Ok n) e = refl
    by_fixed (Err stop) e = ap (rows_begin s.offset) e

    go : (r : Result (List ℕ × List ℕ) NoPart) →
        let old : BinaryState = record s { kept = kept; stage = Head; offset = rows_begin s.offset (fixed_at kept) } in
        let new : BinaryState = after_head r (in_extension (extension_left (fixed_at kept)) old) old in
        row_offset new.stage new.kept new.offset ≡ new.offset
    go (Ok h) = refl
    go (Err stop) = by_fixed (fixed_at kept) refl
rests s kept (Extension n) = go (bytes_at n kept)
  where
    go : (r : Result (List ℕ × List ℕ) NoPart) →
        let old : BinaryState = record s { kept = kept; stage = Extension n } in
        let new : BinaryState = after_head r old old in
        row_offset new.stage new.kept new.offset ≡ new.offset
    go (Ok h) = refl
    go (Err stop) = refl
rests s kept Rows = refl
rests s kept Closed = refl
rests s kept (Failed fault) = refl

rests-at : (old mid : BinaryState) → TakesPart (Err (no_row.NoPart stops.Incomplete)) old mid → row_offset mid.stage mid.kept mid.offset ≡ mid.offset
rests-at old mid h = rw h.1 (rests (let_go old) old.kept old.stage)

pub HasReadBinary-finish : (answer : Answer) (old mid new : BinaryState) (pushed : List ℕ) (given : List Row) → TakesPart answer old mid → new ≡ finished answer mid → HasReadBinary old pushed given → HasReadBinary new pushed (given ++ given_by (last_answer answer))
HasReadBinary-finish (Ok (Some row)) old mid new pushed given h e k = HasReadBinary-ended mid new pushed (given ++ row ∷ []) e (HasReadBinary-goes old mid (row ∷ []) pushed given (Goes-part (Ok (Some row)) old mid h) k)
HasReadBinary-finish (Ok None) old mid new pushed given h e k = HasReadBinary-ended mid new pushed (given ++ []) e (HasReadBinary-goes old mid [] pushed given (Goes-part (Ok None) old mid h) k)
HasReadBinary-finish (Err no_row.Memory) old mid new pushed given h e k = rw e (HasReadBinary-goes old mid [] pushed given (Goes-part (Err no_row.Memory) old mid h) k)
HasReadBinary-finish (Err (no_row.NoPart stops.Incomplete)) old mid new pushed given h e k =
    let g = Goes-part (Err (no_row.NoPart stops.Incomplete)) old mid h in
    let all = all-from old mid pushed given (Open (open_bytes old.stage old.kept)) g.columns g.limit k (left-open old mid h) in
    rw e (record { so_far = λ f. absurd (false≢true (sym f)); in_all = all ∙ ap (λ (rows : List Row). record { rows = rows; ending = Bad Truncated }) (sym (append-nil given) ∙ sym (append-nil (given ++ []))); counted = (HasReadBinary-goes old mid [] pushed given g k).counted; placed = sym (rests-at old mid h) ∙ fails-at mid.stage mid.kept mid.offset pushed (given ++ []) (HasReadBinary-goes old mid [] pushed given g k).placed })
HasReadBinary-finish (Err (no_row.NoPart (stops.Faulty fault))) old mid new pushed given h e k = HasReadBinary-ended mid new pushed (given ++ []) e (HasReadBinary-goes old mid [] pushed given (Goes-part (Err (no_row.NoPart (stops.Faulty fault))) old mid h) k)

pub finish-closed : (answer : Answer) (old mid new : BinaryState) → TakesPart answer old mid → new ≡ finished answer mid → last_answer answer ≡ Ok None → new.stage ≡ Closed
finish-closed (Ok (Some row)) old mid new h e f = absurd cc
finish-closed (Ok None) old mid new h e f = ap (λ (s : BinaryState). s.stage) e ∙ (left-none old mid h).0
finish-closed (Err no_row.Memory) old mid new h e f = absurd cc
finish-closed (Err (no_row.NoPart stops.Incomplete)) old mid new h e f = absurd cc
finish-closed (Err (no_row.NoPart (stops.Faulty fault))) old mid new h e f = absurd cc

-- ---- a reader that failed

pub left-failed : (old : BinaryState) (fault : BinaryFault) → old.stage ≡ Failed fault → binary_left old [] ≡ record { rows = []; ending = Bad fault }
left-failed old fault e = ap (λ (t : BinaryStage). binary_stage_reading t old.columns old.limit (old.kept ++ [])) e

pub AnswersNext-failed-next : (old : BinaryState) (pushed : List ℕ) (given : List Row) (fault : BinaryFault) → old.ended ≡ false → old.stage ≡ Failed fault → HasReadBinary old pushed given → AnswersNext Memory (binary_reading old.columns old.limit pushed) given (binary_ending old.stage old.kept) (Err fault)
AnswersNext-failed-next old pushed given fault going e h =
    inr (ap (λ (t : BinaryStage). binary_ending t old.kept) e, whole-from old old pushed given (Bad fault) going refl refl h (left-failed old fault e))

pub AnswersNext-failed : (old : BinaryState) (pushed : List ℕ) (given : List Row) (fault : BinaryFault) → old.stage ≡ Failed fault → HasReadBinary old pushed given → AnswersNext Memory (binary_file_reading old.columns old.limit pushed) given (binary_ending old.stage old.kept) (Err fault)
AnswersNext-failed old pushed given fault e h =
    inr (ap (λ (t : BinaryStage). binary_ending t old.kept) e, all-from old old pushed given (Bad fault) refl refl h (left-failed old fault e))

-- a row that is found waits
pub waits-part : (old : BinaryState) (row : Row) (rest : List ℕ) → part_at old.stage old.columns old.limit old.kept ≡ Ok ((Some row, Rows), rest) → RowWaits (binary_left old [])
waits-part old row rest e =
    let r = due old (Ok ((Some row, Rows), rest)) e in
    let after = binary_stage_reading Rows old.columns old.limit (rest ++ []) in
    let is : binary_left old [] ≡ after_rows (row ∷ []) after = r.1 [] in
    rw is (omega (arith, length-append (row ∷ []) after.rows))

-- ---- a row is given among the rows

pub next-row : (answer : Answer) (old new : BinaryState) → TakesPart answer old new → (row : Row) → next_answer answer ≡ Ok (Some row) → new.stage ≡ Rows
next-row (Ok (Some row)) old new h r e = part-rows old.stage old.columns old.limit old.kept row new.stage new.kept h.0
next-row (Ok None) old new h r e = absurd cc
next-row (Err no_row.Memory) old new h r e = absurd cc
next-row (Err (no_row.NoPart stops.Incomplete)) old new h r e = absurd cc
next-row (Err (no_row.NoPart (stops.Faulty fault))) old new h r e = absurd cc

pub finish-row : (answer : Answer) (old mid new : BinaryState) → TakesPart answer old mid → new ≡ finished answer mid → (row : Row) → last_answer answer ≡ Ok (Some row) → new.stage ≡ Rows
finish-row (Ok (Some row)) old mid new h f r e = ap (λ (s : BinaryState). s.stage) f ∙ part-rows old.stage old.columns old.limit old.kept row mid.stage mid.kept h.0
finish-row (Ok None) old mid new h f r e = absurd cc
finish-row (Err no_row.Memory) old mid new h f r e = absurd cc
finish-row (Err (no_row.NoPart stops.Incomplete)) old mid new h f r e = absurd cc
finish-row (Err (no_row.NoPart (stops.Faulty fault))) old mid new h f r e = absurd cc
