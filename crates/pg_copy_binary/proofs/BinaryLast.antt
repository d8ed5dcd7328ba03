-- What a reader lends at the end of the input.
use Rattle.std.proofs.Common.{◌≡◌, Bool, true, false, List, [], ◌∷◌, ◌++◌, length, Option, Some, None, Result, Ok, Err, refl, sym, ap, subst, ◌∙◌, inl, inr}
use Rattle.std.specs.Prelude.{ℕ, ◌<◌, IsSome}
use Rattle.pg_copy_rows.specs.declared.fault.BinaryFault.{BinaryFault}
use Rattle.pg_copy_rows.specs.declared.fault.BinaryFault.TheVariants.{Memory, Truncated}
use Rattle.pg_copy_binary.specs.declared.binary_part.NoPart.TheVariants.{Incomplete, Faulty}
use Rattle.pg_copy_binary.specs.declared.binary_part.NoRow.TheVariants.{NoPart}
use Rattle.pg_copy_binary.specs.declared.binary_reader.BinaryStage.TheVariants.{Rows, Closed}
use Rattle.pg_copy_rows.specs.Row.{Row}
use Rattle.pg_copy_rows.specs.Reading.{given_by, given_after, AnswersNext}
use Rattle.pg_copy_rows.specs.Lent.{as_next, Lends}
use Rattle.pg_copy_binary.specs.BinaryPart.{binary_file_reading}
use Rattle.pg_copy_binary.specs.BinaryReader.{BinaryState, HasReadBinary, binary_ending}
use Rattle.pg_copy_binary.specs.Private.BinaryPart.{lending, LendsLast}
use Rattle.pg_copy_binary.proofs.BinaryHistory.{Goes-part, HasReadBinary-ended, HasReadBinary-finish, AnswersNext-finish, finish-closed}
use Rattle.pg_copy_binary.proofs.BinaryFewer.{part-shorter, finish-given}
use Rattle.pg_copy_binary.proofs.BinaryHolds.{none-takes, HasReadBinary-lent}

abbrev pub Lent : Type 0
Lent = Result Bool BinaryFault

abbrev pub ended : BinaryState → BinaryState
ended s = record s { ended = true }

-- the row that is lent
lent-is : (old mid new : BinaryState) (l : LendsLast (Ok true) old mid) → new ≡ ended mid → new ≡ ended (lending l.0 l.1 old)
lent-is old mid new l e = e ∙ ap ended l.3

held-is : (old mid new : BinaryState) (l : LendsLast (Ok true) old mid) → new ≡ ended mid → new.held ≡ Some l.0
held-is old mid new l e = ap (λ (s : BinaryState). s.held) (lent-is old mid new l e)

pub read-last : (answer : Lent) (old mid new : BinaryState) → LendsLast answer old mid → new ≡ ended mid → (pushed : List ℕ) (given : List Row) → HasReadBinary old pushed given → HasReadBinary new pushed (given ++ given_by (as_next answer new.held))
read-last (Ok true) old mid new l e pushed given k =
    let held = lending l.0 l.1 old in
    rw (lent-is old mid new l e) (HasReadBinary-ended held (ended held) pushed (given ++ l.0 ∷ []) refl (HasReadBinary-lent old held l.1 pushed given (l.0, l.2, refl) k))
read-last (Ok false) old mid new l e pushed given k = HasReadBinary-finish (Ok None) old mid new pushed given (none-takes old mid l) e k
read-last (Err fault) old mid new (inl l) e pushed given k = HasReadBinary-finish (Err (NoPart Incomplete)) old l.1 new pushed given l.2 (e ∙ ap ended l.3) k
read-last (Err fault) old mid new (inr l) e pushed given k = HasReadBinary-finish (Err (NoPart (Faulty fault))) old mid new pushed given l e k

pub gives-last : (answer : Lent) (old mid new : BinaryState) → LendsLast answer old mid → new ≡ ended mid → (pushed : List ℕ) (given : List Row) → HasReadBinary old pushed given
    → AnswersNext Memory (binary_file_reading new.columns new.limit pushed) given (binary_ending new.stage new.kept) (as_next answer new.held)
gives-last (Ok true) old mid new l e pushed given k =
    subst (λ (o : Option Row). AnswersNext Memory (binary_file_reading new.columns new.limit pushed) given (binary_ending new.stage new.kept) (Ok o)) (sym (held-is old mid new l e)) tt
gives-last (Ok false) old mid new l e pushed given k = AnswersNext-finish (Ok None) old mid new pushed given (none-takes old mid l) e k
gives-last (Err fault) old mid new (inl l) e pushed given k = rw l.0 (AnswersNext-finish (Err (NoPart Incomplete)) old l.1 new pushed given l.2 (e ∙ ap ended l.3) k)
gives-last (Err fault) old mid new (inr l) e pushed given k = AnswersNext-finish (Err (NoPart (Faulty fault))) old mid new pushed given l e k

pub same-last : (answer : Lent) (old mid new : BinaryState) → LendsLast answer old mid → new ≡ ended mid → (new.columns ≡ old.columns) × (new.limit ≡ old.limit)
same-last (Ok true) old mid new l e = rw (lent-is old mid new l e) (refl, refl)
same-last (Ok false) old mid new l e =
    let g = Goes-part (Ok None) old mid (none-takes old mid l) in
    (ap (λ (s : BinaryState). s.columns) e ∙ g.columns, ap (λ (s : BinaryState). s.limit) e ∙ g.limit)
same-last (Err fault) old mid new (inl l) e =
    let g = Goes-part (Err (NoPart Incomplete)) old l.1 l.2 in
    rw (e ∙ ap ended l.3) (g.columns, g.limit)
same-last (Err fault) old mid new (inr l) e =
    let g = Goes-part (Err (NoPart (Faulty fault))) old mid l in
    (ap (λ (s : BinaryState). s.columns) e ∙ g.columns, ap (λ (s : BinaryState). s.limit) e ∙ g.limit)

pub lends-last : (answer : Lent) (old mid new : BinaryState) → LendsLast answer old mid → new ≡ ended mid → Lends answer new.held
lends-last (Ok true) old mid new l e = subst (λ (o : Option Row). IsSome o) (sym (held-is old mid new l e)) refl
lends-last (Ok false) old mid new l e = ap (λ (s : BinaryState). s.held) e ∙ ap (λ (s : BinaryState). s.held) l.1
lends-last (Err fault) old mid new (inl l) e = ap (λ (s : BinaryState). s.held) (e ∙ ap ended l.3)
lends-last (Err fault) old mid new (inr l) e = ap (λ (s : BinaryState). s.held) e ∙ ap (λ (s : BinaryState). s.held) l.2

pub row-last : (answer : Lent) (old mid new : BinaryState) → LendsLast answer old mid → new ≡ ended mid → answer ≡ Ok true → new.stage ≡ Rows
row-last (Ok true) old mid new l e is = ap (λ (s : BinaryState). s.stage) (lent-is old mid new l e)
row-last (Ok false) old mid new l e is = absurd cc
row-last (Err fault) old mid new l e is = absurd cc

pub given-last : (answer : Lent) (old mid new : BinaryState) → LendsLast answer old mid → new ≡ ended mid → new.given ≡ given_after old.given (given_by (as_next answer new.held))
given-last (Ok true) old mid new l e = rw (lent-is old mid new l e) refl
given-last (Ok false) old mid new l e = finish-given (Ok None) old mid new (none-takes old mid l) e
given-last (Err fault) old mid new (inl l) e = finish-given (Err (NoPart Incomplete)) old l.1 new l.2 (e ∙ ap ended l.3)
given-last (Err fault) old mid new (inr l) e = finish-given (Err (NoPart (Faulty fault))) old mid new l e

pub fewer-last : (answer : Lent) (old mid new : BinaryState) → LendsLast answer old mid → new ≡ ended mid → answer ≡ Ok true → length new.kept < length old.kept
fewer-last (Ok true) old mid new l e is = rw (lent-is old mid new l e) (part-shorter old.stage old.columns old.limit old.kept l.0 Rows _ l.2.part)
fewer-last (Ok false) old mid new l e is = absurd cc
fewer-last (Err fault) old mid new l e is = absurd cc

pub trailer-last : (answer : Lent) (old mid new : BinaryState) → LendsLast answer old mid → new ≡ ended mid → answer ≡ Ok false → new.stage ≡ Closed
trailer-last (Ok true) old mid new l e is = absurd cc
trailer-last (Ok false) old mid new l e is = finish-closed (Ok None) old mid new (none-takes old mid l) e refl
trailer-last (Err fault) old mid new l e is = absurd cc

pub memory-last : (answer : Lent) (old mid : BinaryState) → LendsLast answer old mid → answer ≡ Err Memory → ⊥
memory-last (Ok lent) old mid l is = absurd cc
memory-last (Err fault) old mid (inl l) is =
    let f : fault ≡ Memory = cc in
    clash (sym l.0 ∙ f)
  where
    clash : Truncated ≡ Memory → ⊥
    clash e = cc
memory-last (Err fault) old mid (inr l) is =
    let f : fault ≡ Memory = cc in
    absurd (l.0 f)
