-- What a push does to what a reader of binary files has read.
use Rattle.std.proofs.Common.{◌≡◌, ℕ, false, List, [], ◌∷◌, ◌++◌, None, Result, Ok, Err, refl, sym, ap, subst, ◌∙◌, append_assoc, arith, inl, inr}
use Rattle.std.specs.Prelude.{◌⊎◌, ◌<◌, ◌≤◌, ◌-◌, length, drop, OnOk}
use Rattle.std.proofs.lemmas.List.{append-nil, drop_all}
use Rattle.std.proofs.lemmas.Bool.{cases_lt, lt-ltb, le-ltb, cond-true, cond-false}
use Rattle.pg_copy_rows.specs.declared.fault.BinaryFault.{BinaryFault}
use Rattle.pg_copy_binary.specs.declared.binary_reader.BinaryStage.{BinaryStage}
use Rattle.pg_copy_binary.specs.declared.binary_reader.BinaryStage.TheVariants.{Head, Extension, Rows, Closed, Failed}
use Rattle.pg_copy_rows.specs.Row.{Row}
use Rattle.pg_copy_rows.specs.Reading.{after_rows}
use Rattle.pg_copy_binary.specs.BinaryPart.{binary_reading, binary_at_end}
use Rattle.pg_copy_binary.specs.BinaryReader.{BinaryState, binary_stage_reading, binary_left, HasReadBinary, IsPlaced, kept_of, stage_after, pushed_after, PushesBinary}
use Rattle.pg_copy_binary.proofs.BinaryHeads.{skip-some, skip-all}
use Rattle.pg_copy_rows.specs.Private.RowBuffer.{RowBytes}
use Rattle.pg_copy_binary.specs.Private.BinaryRow.{held_row}
use Rattle.pg_copy_binary.proofs.BinaryHistory.{whole-same}
use Rattle.pg_copy_binary.proofs.BinaryPlaces.{ends-more, placed-more}

-- what is left of a longer file
pub HasReadBinary-pushed : (old new : BinaryState) (piece pushed : List ℕ) (given : List Row) → old.ended ≡ false → new.columns ≡ old.columns → new.limit ≡ old.limit → new.given ≡ old.given → IsPlaced new.stage new.kept new.offset (pushed ++ piece) given
    → ((more : List ℕ) → binary_left old (piece ++ more) ≡ binary_left new more) → HasReadBinary old pushed given → HasReadBinary new (pushed ++ piece) given
HasReadBinary-pushed old new piece pushed given going e f same place l h =
    let so_far : (more : List ℕ) → binary_reading new.columns new.limit ((pushed ++ piece) ++ more) ≡ after_rows given (binary_left new more) =
    λ more. whole-same old new ((pushed ++ piece) ++ more) e f ∙ ap (binary_reading old.columns old.limit) (append_assoc pushed piece more) ∙ h.so_far going (piece ++ more) ∙ ap (after_rows given) (l more) in
    record {
      so_far = λ g more. so_far more;
      in_all = ap (λ (x : List ℕ). binary_at_end (binary_reading new.columns new.limit x)) (sym (append-nil (pushed ++ piece))) ∙ ap binary_at_end (so_far []);
      counted = same ∙ h.counted;
      placed = place;
    }

-- how a push leaves a reader at this stage
abbrev pushed_at : BinaryStage → BinaryState → List ℕ → BinaryState
pushed_at stage old piece = record old { kept = old.kept ++ kept_of stage piece; stage = stage_after stage piece; held = None }

at_stage : (stage : BinaryStage) (old : BinaryState) (piece : List ℕ) → old.stage ≡ stage → pushed_at stage old piece ≡ pushed_after old piece
at_stage stage old piece e = ap (λ (t : BinaryStage). pushed_at t old piece) (sym e)

same-kept : (old : BinaryState) (stage : BinaryStage) (rest : List ℕ) → rest ≡ [] → record old { stage = stage; held = None } ≡ record old { kept = old.kept ++ rest; stage = stage; held = None }
same-kept old stage rest e = ap (λ (x : List ℕ). record old { kept = x; stage = stage; held = None }) (sym (append-nil old.kept) ∙ ap (λ (x : List ℕ). old.kept ++ x) (sym e))

pub pushed-within : (old : BinaryState) (piece : List ℕ) (n : ℕ) → old.stage ≡ Extension n → length piece < n → record old { stage = Extension (n - length piece); held = None } ≡ pushed_after old piece
pushed-within old piece n e lt =
    same-kept old (Extension (n - length piece)) (drop n piece) (drop_all n piece (omega arith))
    ∙ ap (λ (t : BinaryStage). record old { kept = old.kept ++ drop n piece; stage = t; held = None }) (sym (cond-true _ _ _ (lt-ltb (length piece) n lt)))
    ∙ at_stage (Extension n) old piece e

pub pushed-past : (old : BinaryState) (piece : List ℕ) (n : ℕ) → old.stage ≡ Extension n → n ≤ length piece → record old { kept = old.kept ++ drop n piece; stage = Rows; held = None } ≡ pushed_after old piece
pushed-past old piece n e le =
    ap (λ (t : BinaryStage). record old { kept = old.kept ++ drop n piece; stage = t; held = None }) (sym (cond-false _ _ _ (le-ltb (length piece) n le)))
    ∙ at_stage (Extension n) old piece e

-- a piece that is pushed within an extension
HasReadBinary-within : (old new : BinaryState) (piece pushed : List ℕ) (given : List Row) (n : ℕ) → old.ended ≡ false → old.stage ≡ Extension n → old.kept ≡ [] → new ≡ pushed_after old piece → HasReadBinary old pushed given → HasReadBinary new (pushed ++ piece) given
HasReadBinary-within old new piece pushed given n going e empty is h = elim (cases_lt (length piece) n) [
  | inl lt ↦
      let fewer : BinaryState = record old { stage = Extension (n - length piece); held = None } in
      let here : fewer ≡ new = pushed-within old piece n e lt ∙ sym is in
      let some : HasReadBinary fewer (pushed ++ piece) given =
      HasReadBinary-pushed old fewer piece pushed given going refl refl refl (ends-more old.offset pushed piece given (subst (λ (t : BinaryStage). IsPlaced t old.kept old.offset pushed given) e h.placed)) (λ more. left_is (piece ++ more) ∙ skip-some old.columns old.limit n piece more lt ∙ ap (λ (x : List ℕ). binary_stage_reading (Extension (n - length piece)) old.columns old.limit (x ++ more)) (sym empty)) h in
      subst (λ (s : BinaryState). HasReadBinary s (pushed ++ piece) given) here some
  | inr le ↦
      let after : BinaryState = record old { kept = old.kept ++ drop n piece; stage = Rows; held = None } in
      let here : after ≡ new = pushed-past old piece n e le ∙ sym is in
      let all : HasReadBinary after (pushed ++ piece) given =
      HasReadBinary-pushed old after piece pushed given going refl refl refl (ends-more old.offset pushed piece given (subst (λ (t : BinaryStage). IsPlaced t old.kept old.offset pushed given) e h.placed)) (λ more. left_is (piece ++ more) ∙ skip-all old.columns old.limit n piece more le ∙ ap (λ (x : List ℕ). binary_stage_reading Rows old.columns old.limit ((x ++ drop n piece) ++ more)) (sym empty)) h in
      subst (λ (s : BinaryState). HasReadBinary s (pushed ++ piece) given) here all
]
  where
    left_is : (more : List ℕ) → binary_left old more ≡ binary_stage_reading (Extension n) old.columns old.limit more
    left_is more = ap (λ (t : BinaryStage). binary_stage_reading t old.columns old.limit (old.kept ++ more)) e ∙ ap (λ (x : List ℕ). binary_stage_reading (Extension n) old.columns old.limit (x ++ more)) empty

pub HasReadBinary-skip : (old new : BinaryState) (piece : List ℕ) (result : Result Unit BinaryFault) (n : ℕ) → old.ended ≡ false → old.stage ≡ Extension n → old.kept ≡ [] → PushesBinary old piece result new
    → OnOk result ((pushed : List ℕ) (given : List Row) → HasReadBinary old pushed given → HasReadBinary new (pushed ++ piece) given)
HasReadBinary-skip old new piece (Ok x) n going e empty h = λ pushed given k. HasReadBinary-within old new piece pushed given n going e empty h.1 k
HasReadBinary-skip old new piece (Err f) n going e empty h = tt

-- what is left after a push that is not within an extension
left-more : (stage : BinaryStage) (columns limit : ℕ) (kept piece more : List ℕ) → ((fault : BinaryFault) → stage ≡ Failed fault → ⊥) → ((n : ℕ) → stage ≡ Extension n → ⊥) → (stage ≡ Closed → kept ≡ []) → binary_stage_reading stage columns limit (kept ++ (piece ++ more)) ≡ binary_stage_reading (stage_after stage piece) columns limit ((kept ++ kept_of stage piece) ++ more)
left-more Head columns limit kept piece more alive out closed = ap (binary_stage_reading Head columns limit) (sym (append_assoc kept piece more))
left-more (Extension n) columns limit kept piece more alive out closed = absurd (out n refl)
left-more Rows columns limit kept piece more alive out closed = ap (binary_stage_reading Rows columns limit) (sym (append_assoc kept piece more))
left-more Closed columns limit kept [] more alive out closed = rw (closed refl) refl
left-more Closed columns limit kept (b ∷ bs) more alive out closed = rw (closed refl) refl
left-more (Failed fault) columns limit kept piece more alive out closed = absurd (alive fault refl)

pub HasReadBinary-push : (old new : BinaryState) (piece pushed : List ℕ) (given : List Row) → old.ended ≡ false → ((fault : BinaryFault) → old.stage ≡ Failed fault → ⊥) → ((n : ℕ) → old.stage ≡ Extension n → ⊥) → (old.stage ≡ Closed → old.kept ≡ []) → new ≡ pushed_after old piece → HasReadBinary old pushed given → HasReadBinary new (pushed ++ piece) given
HasReadBinary-push old new piece pushed given going alive out closed is h =
    rw is (HasReadBinary-pushed old (pushed_after old piece) piece pushed given going refl refl refl (placed-more old.stage old.kept old.offset pushed piece given alive h.placed) (λ more. left-more old.stage old.columns old.limit old.kept piece more alive out closed) h)

-- a stage that keeps what is pushed, or nothing
pub apart : (stage : BinaryStage) → (stage ≡ Head) ⊎ (stage ≡ Rows) ⊎ (stage ≡ Closed) → ((fault : BinaryFault) → stage ≡ Failed fault → ⊥) × ((n : ℕ) → stage ≡ Extension n → ⊥)
apart stage (inl e) = (λ fault f. absurd cc, λ n f. absurd cc)
apart stage (inr (inl e)) = (λ fault f. absurd cc, λ n f. absurd cc)
apart stage (inr (inr e)) = (λ fault f. absurd cc, λ n f. absurd cc)

-- the same, by what is known of the reader inside
pub push-read : (v old new : BinaryState) (piece : List ℕ) → v ≡ old → old.ended ≡ false → (v.stage ≡ Head) ⊎ (v.stage ≡ Rows) ⊎ (v.stage ≡ Closed) → (v.stage ≡ Closed → v.kept ≡ []) → new ≡ pushed_after v piece → (pushed : List ℕ) (given : List Row) → HasReadBinary old pushed given → HasReadBinary new (pushed ++ piece) given
push-read v old new piece same going at closed is pushed given h =
    let a = apart v.stage at in
    HasReadBinary-push v new piece pushed given (ap (λ (s : BinaryState). s.ended) same ∙ going) a.0 a.1 closed is (subst (λ (s : BinaryState). HasReadBinary s pushed given) (sym same) h)

pub keeps : (v : BinaryState) (piece : List ℕ) (b : RowBytes) → (v.stage ≡ Head) ⊎ (v.stage ≡ Rows) → b ≡ record { front = None; kept = v.kept ++ piece } → record v { kept = b.kept; held = held_row v.columns v.limit b.front } ≡ pushed_after v piece
keeps v piece b (inl e) is = rw is (ap (λ (t : BinaryStage). record v { kept = v.kept ++ piece; stage = t; held = None }) e ∙ at_stage Head v piece e)
keeps v piece b (inr e) is = rw is (ap (λ (t : BinaryStage). record v { kept = v.kept ++ piece; stage = t; held = None }) e ∙ at_stage Rows v piece e)

pub open-stage : (stage : BinaryStage) → (stage ≡ Head) ⊎ (stage ≡ Rows) → ((stage ≡ Head) ⊎ (stage ≡ Rows) ⊎ (stage ≡ Closed)) × (stage ≡ Closed → ⊥)
open-stage stage (inl e) = (inl e, λ f. absurd cc)
open-stage stage (inr e) = (inr (inl e), λ f. absurd cc)
