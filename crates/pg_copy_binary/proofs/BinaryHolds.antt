-- What a reader does with a row that it has found.
use Rattle.std.proofs.Common.{◌≡◌, ℕ, zero, suc, ◌+◌, ◌-◌, ◌<◌, ◌≤◌, Bool, true, false, List, [], ◌∷◌, ◌++◌, length, drop, Option, Some, None, Result, Ok, Err, refl, sym, ap, subst, ◌∙◌, arith, inl, inr}
use Rattle.std.specs.Prelude.{◌⊎◌, IsSome}
use Rattle.pg_copy_rows.specs.declared.fault.BinaryFault.{BinaryFault}
use Rattle.pg_copy_rows.specs.declared.fault.BinaryFault.TheVariants.{Memory}
use Rattle.pg_copy_binary.specs.declared.binary_part.NoPart.TheVariants as stops
use Rattle.pg_copy_binary.specs.declared.binary_part.NoRow.{NoRow}
use Rattle.pg_copy_binary.specs.declared.binary_part.NoRow.TheVariants as no_row
use Rattle.pg_copy_binary.specs.declared.binary_part.Place.{Place}
use Rattle.pg_copy_binary.specs.declared.binary_reader.BinaryStage.{BinaryStage}
use Rattle.pg_copy_binary.specs.declared.binary_reader.BinaryStage.TheVariants.{Head, Extension, Rows, Closed, Failed}
use Rattle.pg_copy_rows.specs.Row.{Row}
use Rattle.pg_copy_rows.specs.Reading.{RowsRead, RowsEnding, given_by, AnswersNext, one_more, told, given_after}
use Rattle.pg_copy_binary.specs.BinaryPart.{NoPart, Incomplete, Faulty, bytes_at, fixed_at, head_at}
use Rattle.pg_copy_binary.specs.BinaryReader.{BinaryState, rows_begin, HasReadBinary}
use Rattle.pg_copy_rows.specs.Lent.{as_next}
use Rattle.pg_copy_rows.specs.Private.RowBuffer.{RowBytes}
use Rattle.pg_copy_binary.specs.Private.BinaryRow.{held_row}
use Rattle.pg_copy_binary.specs.Private.BinaryPart.{IsRowAt, lending, let_go, extension_left, in_extension, after_head, waiting_at, waiting, stage_of, IsAfterHead, IsLooked, row_offset, start_offset, offset_after, FindsNext, TakesPart}
use Rattle.std.specs.Int.{w16, to_be_bytes}
use Rattle.std.specs.List.{flat_map}
use Rattle.std.proofs.lemmas.List.{length-append, length-drop}
use Rattle.std.proofs.lemmas.Bool.{cases_lt, lt-ltb, le-ltb, false≢true}
use Rattle.pg_copy_binary.specs.Binary.{value, binary_row}
use Rattle.pg_copy_binary.proofs.BinarySizes.{row-size, head-place}
use Rattle.pg_copy_binary.proofs.BinaryHeads.{Needs, fixed_needs, head-of-fixed, OpenAt, head-open}
use Rattle.pg_copy_binary.proofs.BinaryWalk.{rest-is}
use Rattle.pg_copy_binary.specs.declared.binary_part.Look.{Look}
use Rattle.pg_copy_binary.proofs.BinaryHistory.{HasReadBinary-goes, Goes-part}
use Rattle.pg_copy_binary.proofs.BinaryFewer.{part-shorter}
use Rattle.pg_copy_binary.proofs.BinaryLent.{values_are}

-- the trailer is taken
pub none-takes : (old new : BinaryState) → FindsNext (Ok None) old new → TakesPart (Ok None) old new
none-takes old new h = rw h.1 (h.0, refl)

-- a row that is lent is taken
pub row-takes : (old : BinaryState) (place : Place) (row : Row) → IsRowAt old place row → TakesPart (Ok (Some row)) old (let_go (lending row place old))
row-takes old place row at = (at.part, refl)

-- a row that is lent, and then let go
pub some-takes : (old mid held new : BinaryState) (place : Place) (row : Row) → mid ≡ old → IsRowAt mid place row → held ≡ lending row place mid → new ≡ let_go held → TakesPart (Ok (Some row)) old new
some-takes old mid held new place row same at e f = rw (f, e, same) (row-takes old place row (rw same at at))

-- ---- a row that is lent

HasReadBinary-held : (s : BinaryState) (pushed : List ℕ) (given : List Row) → HasReadBinary (let_go s) pushed given → HasReadBinary s pushed given
HasReadBinary-held s pushed given h = record { so_far = h.so_far; in_all = h.in_all; counted = h.counted; placed = h.placed }

-- the row that stands at a place, and the reader that lends it
abbrev pub LendsAt : BinaryState → Place → BinaryState → Type 0
LendsAt old place new = (row : Row) × IsRowAt old place row × (new ≡ lending row place old)

pub lends-at : (old mid new : BinaryState) (place : Place) → FindsNext (Ok (Some place)) old mid → ((row : Row) → IsRowAt mid place row → new ≡ lending row place mid) → LendsAt old place new
lends-at old mid new place h k =
    let there : IsRowAt mid place h.0.0 = rw h.1 h.0.1 in
    (h.0.0, h.0.1, k h.0.0 there ∙ ap (lending h.0.0 place) h.1)

pub held-lent : (old new : BinaryState) (place : Place) → (l : LendsAt old place new) → new.held ≡ Some l.0
held-lent old new place l = ap (λ (s : BinaryState). s.held) l.2

pub HasReadBinary-lent : (old new : BinaryState) (place : Place) (pushed : List ℕ) (given : List Row) → LendsAt old place new → HasReadBinary old pushed given → HasReadBinary new pushed (given ++ given_by {F = BinaryFault} (as_next {F = BinaryFault} (Ok true) new.held))
HasReadBinary-lent old new place pushed given l k =
    let taken = lending l.0 place old in
    rw l.2 (HasReadBinary-held taken pushed (given ++ l.0 ∷ []) (HasReadBinary-goes old (let_go taken) (l.0 ∷ []) pushed given (Goes-part (Ok (Some l.0)) old (let_go taken) (row-takes old place l.0 l.1)) k))

pub AnswersNext-lent : (old new : BinaryState) (place : Place) (file : RowsRead BinaryFault) (given : List Row) (ending : RowsEnding BinaryFault) → LendsAt old place new → AnswersNext Memory file given ending (as_next {F = BinaryFault} (Ok true) new.held)
AnswersNext-lent old new place file given ending l = subst (λ (o : Option Row). AnswersNext Memory file given ending (Ok o)) (sym (held-lent old new place l)) tt

pub some-lent : (old new : BinaryState) (place : Place) → LendsAt old place new → IsSome new.held
some-lent old new place l = subst (λ (o : Option Row). IsSome o) (sym (held-lent old new place l)) refl

pub given-lent : (old new : BinaryState) (place : Place) → LendsAt old place new → new.given ≡ given_after old.given (given_by {F = BinaryFault} (as_next {F = BinaryFault} (Ok true) new.held))
given-lent old new place l = rw l.2 refl

pub fewer-lent : (old new : BinaryState) (place : Place) → LendsAt old place new → length new.kept < length old.kept
fewer-lent old new place l = rw l.2 (part-shorter old.stage old.columns old.limit old.kept l.0 Rows _ l.1.part)

-- where the row ends that was found
ends-row : (s : BinaryState) (place : Place) (row : Row) → IsRowAt s place row → told (start_offset s.offset place.start + (place.end - place.start)) ≡ offset_after (row_offset s.stage s.kept s.offset) (row ∷ [])
ends-row s place row at =
    let size : place.end - place.start ≡ length (binary_row row) = row-size s.limit s.columns place.start place.end s.kept row at.in_order at.in_range at.values ∙ sym (length-append (to_be_bytes w16 (length row)) (flat_map value row)) in
    ap (λ (n : ℕ). told (n + (place.end - place.start))) (sym at.begins) ∙ ap (λ (n : ℕ). told (row_offset s.stage s.kept s.offset + n)) size

-- the values that are lent are those of the row that was found
pub lends-row : (v old : BinaryState) (buffer : RowBytes) (given offset : ℕ) (place : Place) (row : Row) → v ≡ old → buffer ≡ record { front = Some (drop (place.start + 2) v.kept); kept = drop place.end v.kept } → given ≡ one_more v.given → offset ≡ told (start_offset v.offset place.start + (place.end - place.start)) → IsRowAt old place row
    → record v { kept = buffer.kept; stage = Rows; given = given; held = held_row v.columns v.limit buffer.front; offset = offset } ≡ lending row place old
lends-row v old buffer given offset place row same b g o at =
    let there : IsRowAt v place row = subst (λ (s : BinaryState). IsRowAt s place row) (sym same) at in
    let values = values_are v.limit v.columns (drop (place.start + 2) v.kept) row (drop place.end v.kept) there.values in
    let end : offset ≡ offset_after (row_offset v.stage v.kept v.offset) (row ∷ []) = o ∙ ends-row v place row there in
    rw (b, g, end) (ap (λ (r : Row). record v { kept = drop place.end v.kept; stage = Rows; given = one_more v.given; held = Some r; offset = offset_after (row_offset v.stage v.kept v.offset) (row ∷ []) }) values ∙ ap (lending row place) same)

-- ---- no row is lent

after-held : (r : Result (List ℕ × List ℕ) NoPart) (stays s : BinaryState) → stays.held ≡ None → s.held ≡ None → (after_head r stays s).held ≡ None
after-held (Ok h) stays s e f = f
after-held (Err stop) stays s e f = e

extension-held : (o : Option ℕ) (s : BinaryState) → s.held ≡ None → (in_extension o s).held ≡ None
extension-held None s e = e
extension-held (Some n) s e = e

waiting-held : (stage : BinaryStage) (s : BinaryState) → s.held ≡ None → (waiting_at stage s).held ≡ None
waiting-held Head s e =
    let at : BinaryState = record s { offset = rows_begin s.offset (fixed_at s.kept) } in
    after-held (head_at s.kept) (in_extension (extension_left (fixed_at s.kept)) at) at (extension-held (extension_left (fixed_at s.kept)) at e) e
waiting-held (Extension n) s e = after-held (bytes_at n s.kept) s s e e
waiting-held Rows s e = e
waiting-held Closed s e = e
waiting-held (Failed fault) s e = e

pub takes-held : (answer : Result (Option Row) NoRow) (old new : BinaryState) → TakesPart answer old new → (answer ≡ Err no_row.Memory) ⊎ (new.held ≡ None)
takes-held (Ok row) old new h = inr (ap (λ (s : BinaryState). s.held) h.1)
takes-held (Err no_row.Memory) old new h = inl refl
takes-held (Err (no_row.NoPart stops.Incomplete)) old new h = inr (ap (λ (s : BinaryState). s.held) h.1 ∙ waiting-held old.stage (let_go old) refl)
takes-held (Err (no_row.NoPart (stops.Faulty fault))) old new h = inr (ap (λ (s : BinaryState). s.held) h.2)

-- a reader that failed or has read the trailer lends none
pub rests-held : (columns limit : ℕ) (stage : BinaryStage) (front : Option (List ℕ)) → (stage ≡ Rows) ⊎ (front ≡ None) → (stage ≡ Rows → ⊥) → held_row columns limit front ≡ None
rests-held columns limit stage front (inl e) n = absurd (n e)
rests-held columns limit stage front (inr e) n = ap (held_row columns limit) e

-- ---- where a part begins

start-some : (offset start : ℕ) → 0 < start → start ≡ start_offset offset start
start-some offset zero lt = absurd (omega arith)
start-some offset (suc n) lt = refl

-- the row begins where the head ends that stands before it
pub begins-at : (in_head : Bool) (kept : List ℕ) (offset start : ℕ) → start ≤ length kept → (in_head ≡ false → start ≡ 0) → IsAfterHead in_head kept (drop start kept) → row_offset (stage_of in_head) kept offset ≡ start_offset offset start
begins-at true kept offset start le none after =
    let n = head-place kept start le after in
    ap (rows_begin offset) n.1 ∙ sym n.2 ∙ start-some offset start (omega (arith, n.2))
begins-at false kept offset start le none after = rw (none refl) refl

no-extension-fault : (kept : List ℕ) (n : ℕ) (fault : BinaryFault) → bytes_at n kept ≡ Err (Faulty fault) → ⊥
no-extension-fault kept n fault e = subst (λ r. NotFaulty r) e (not-faulty n kept)
  where
    NotFaulty : Result (List ℕ × List ℕ) NoPart → Type 0
    NotFaulty (Ok x) = Unit {0}
    NotFaulty (Err Incomplete) = Unit {0}
    NotFaulty (Err (Faulty f)) = ⊥

    not-faulty : (m : ℕ) (bytes : List ℕ) → NotFaulty (bytes_at m bytes)
    not-faulty m bytes = elim (cases_lt (length bytes) m) [
      | inl lt ↦ rw (lt-ltb (length bytes) m lt) tt
      | inr le ↦ rw (le-ltb (length bytes) m le) tt
    ]

-- a faulty head leaves the offset
head-fault : (kept : List ℕ) (offset : ℕ) (fault : BinaryFault) → head_at kept ≡ Err (Faulty fault) → rows_begin offset (fixed_at kept) ≡ offset
head-fault kept offset fault e = go (fixed_at kept) refl
  where
    go : (r : Result (ℕ × List ℕ) NoPart) → fixed_at kept ≡ r → rows_begin offset r ≡ offset
    go (Ok n) f = absurd (no-extension-fault n.1 n.0 fault (sym (head-of-fixed kept (Ok n) f) ∙ e))
    go (Err stop) f = refl

-- where a fault stands
pub fault-at : (in_head : Bool) (columns limit : ℕ) (kept : List ℕ) (l : Look) (offset : ℕ) (fault : BinaryFault) → IsLooked in_head columns limit kept l → (in_head ≡ true → l.start ≡ 0 → head_at kept ≡ Err (Faulty fault)) → row_offset (stage_of in_head) kept offset ≡ start_offset offset l.start
fault-at false columns limit kept l offset fault h faulty = rw (h.none refl) refl
fault-at true columns limit kept l offset fault h faulty = elim (cases_lt 0 l.start) [
  | inl lt ↦ begins-at true kept offset l.start h.in_range (λ e. absurd (false≢true (sym e))) (h.head (inr lt))
  | inr le ↦
      let zero_start : l.start ≡ 0 = omega (arith, le) in
      head-fault kept offset fault (faulty refl zero_start) ∙ ap (start_offset offset) (sym zero_start)
]

-- a head that was read goes off
pub head-goes : (v old : BinaryState) (columns limit : ℕ) (l : Look) (b : RowBytes) (in_head : Bool) → v ≡ old → v.stage ≡ stage_of in_head → IsLooked in_head columns limit v.kept l → 0 < l.start → b ≡ record { front = None; kept = drop l.start v.kept } → record v { kept = b.kept; stage = Rows; held = held_row v.columns v.limit b.front; offset = l.start } ≡ waiting old
head-goes v old columns limit l b false same stage h lt is = absurd (omega (arith, lt, h.none refl))
head-goes v old columns limit l b true same stage h lt is =
    let after = h.head (inr lt) in
    let n = head-place v.kept l.start h.in_range after in
    let head = rest-is (head_at v.kept) (drop l.start v.kept) after in
    let at : BinaryState = record (let_go v) { offset = rows_begin v.offset (fixed_at v.kept) } in
    let waits : waiting_at Head (let_go v) ≡ record at { kept = drop l.start v.kept; stage = Rows } = ap (λ r. after_head r (in_extension (extension_left (fixed_at v.kept)) at) at) head.1 in
    let place : rows_begin v.offset (fixed_at v.kept) ≡ l.start = ap (rows_begin v.offset) n.1 ∙ sym n.2 in
    rw is (
    ap (λ (k : ℕ). record v { kept = drop l.start v.kept; stage = Rows; held = None; offset = k }) (sym place)
    ∙ sym waits
    ∙ ap (λ (t : BinaryStage). waiting_at t (let_go v)) (sym stage)
    ∙ ap waiting same
    )

-- a head goes off that lacks bytes of its extension alone
pub enters-at : (v old : BinaryState) (missing offset : ℕ) (b : RowBytes) → v ≡ old → Some missing ≡ extension_left (fixed_at v.kept) → head_at v.kept ≡ Err Incomplete → b ≡ record { front = None; kept = [] } → offset ≡ length v.kept + missing
    → record v { kept = b.kept; stage = Extension missing; held = held_row v.columns v.limit b.front; offset = offset } ≡ in_extension (extension_left (fixed_at old.kept)) (record old { held = None; offset = rows_begin old.offset (fixed_at old.kept) })
enters-at v old missing offset b same left short is o = rw is (go (fixed_at v.kept) refl left ∙ ap (λ (s : BinaryState). in_extension (extension_left (fixed_at s.kept)) (record s { held = None; offset = rows_begin s.offset (fixed_at s.kept) })) same)
  where
    go : (r : Result (ℕ × List ℕ) NoPart) → fixed_at v.kept ≡ r → Some missing ≡ extension_left r → record v { kept = []; stage = Extension missing; held = None; offset = offset } ≡ in_extension (extension_left (fixed_at v.kept)) (record v { held = None; offset = rows_begin v.offset (fixed_at v.kept) })
    go (Ok n) e f =
        let m : missing ≡ n.0 - length n.1 = cc in
        let need : Needs 19 (Ok n) v.kept = subst (λ x. Needs 19 x v.kept) e (fixed_needs v.kept) in
        let stands : OpenAt v.kept (Ok n) = head-open v.kept (Ok n) short e in
        let place : offset ≡ 19 + n.0 = omega (arith, o, m, need.0, ap length need.1, length-drop 19 v.kept, stands.1) in
        rw (e, m, place) refl
    go (Err stop) e f = absurd cc
