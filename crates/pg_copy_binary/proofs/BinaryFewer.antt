-- A row that is given takes bytes off what is kept, and is counted.
use Rattle.std.proofs.Common.{◌≡◌, ℕ, ◌+◌, ◌-◌, ◌<◌, List, [], ◌∷◌, length, drop, Option, Some, None, Result, Ok, Err, sym, ap, ◌∙◌, arith}
use Rattle.std.proofs.lemmas.List.{length-drop, drop-drop}
use Rattle.pg_copy_binary.specs.declared.binary_part.NoPart.TheVariants as stops
use Rattle.pg_copy_binary.specs.declared.binary_part.NoRow.{NoRow}
use Rattle.pg_copy_binary.specs.declared.binary_part.NoRow.TheVariants as no_row
use Rattle.pg_copy_binary.specs.declared.binary_reader.BinaryStage.{BinaryStage}
use Rattle.pg_copy_binary.specs.declared.binary_reader.BinaryStage.TheVariants.{Head, Extension, Rows, Closed, Failed}
use Rattle.pg_copy_rows.specs.Row.{Row}
use Rattle.pg_copy_rows.specs.Reading.{given_by, given_after}
use Rattle.pg_copy_binary.specs.BinaryPart.{NoPart, ◌>>=◌, bytes_at, head_at, row_at}
use Rattle.pg_copy_binary.specs.BinaryReader.{BinaryState}
use Rattle.pg_copy_binary.specs.Private.BinaryPart.{row_or_trailer, body_at, part_at, TakesPart}
use Rattle.pg_copy_binary.proofs.BinaryReads.{TakesAtLeast, takes_bind, takes_none, bytes_take, less, row_takes, head_takes, shorter}
use Rattle.pg_copy_binary.proofs.BinaryHistory.{next_answer, last_answer, finished, Goes-part, given-next}

-- two parts one after the other, of which the second takes so many bytes
takes_last : {A B : Type 0} (least : ℕ) (r : Result (A × List ℕ) NoPart) (bytes : List ℕ) (f : A × List ℕ → Result (B × List ℕ) NoPart) → TakesAtLeast 0 r bytes → ((x : A × List ℕ) → TakesAtLeast least (f x) x.1) → TakesAtLeast least (r >>= f) bytes
takes_last {A} {B} least (Ok x) bytes f h k = go (f x) (k x)
  where
    go : (s : Result (B × List ℕ) NoPart) → TakesAtLeast least s x.1 → TakesAtLeast least s bytes
    go (Ok y) t =
        let len : length x.1 ≡ length bytes - h.0 = ap length h.3 ∙ length-drop h.0 bytes in
        (h.0 + t.0, omega (arith, t.1), omega (arith, t.2, len, h.2), t.3 ∙ ap (drop t.0) h.3 ∙ drop-drop t.0 h.0 bytes)
    go (Err stop) t = tt
takes_last least (Err stop) bytes f h k = tt

body_takes : (columns limit : ℕ) (bytes : List ℕ) → TakesAtLeast 2 (body_at columns limit bytes) bytes
unfolding body_at
body_takes columns limit bytes = takes_bind 2 (row_at columns limit bytes) bytes _ (row_takes columns limit bytes) (λ r. go r.0 r.1)
  where
    go : (o : Option Row) (rest : List ℕ) → TakesAtLeast 0 (row_or_trailer o rest) rest
    go None [] = takes_none {A = Option Row × BinaryStage} (None, Closed) []
    go None (b ∷ bs) = tt
    go (Some row) rest = takes_none {A = Option Row × BinaryStage} (Some row, Rows) rest

pub part-shorter : (stage : BinaryStage) (columns limit : ℕ) (bytes : List ℕ) (row : Row) (new : BinaryStage) (rest : List ℕ) → part_at stage columns limit bytes ≡ Ok ((Some row, new), rest) → length rest < length bytes
unfolding part_at
part-shorter Head columns limit bytes row new rest e =
    shorter (head_at bytes >>= λ h. body_at columns limit h.1) bytes ((Some row, new), rest) (takes_last 2 (head_at bytes) bytes (λ h. body_at columns limit h.1) (less 0 11 (head_at bytes) bytes (omega arith) (head_takes bytes)) (λ h. body_takes columns limit h.1)) e
part-shorter (Extension n) columns limit bytes row new rest e =
    shorter (bytes_at n bytes >>= λ h. body_at columns limit h.1) bytes ((Some row, new), rest) (takes_last 2 (bytes_at n bytes) bytes (λ h. body_at columns limit h.1) (bytes_take n bytes) (λ h. body_takes columns limit h.1)) e
part-shorter Rows columns limit bytes row new rest e = shorter (body_at columns limit bytes) bytes ((Some row, new), rest) (body_takes columns limit bytes) e
part-shorter Closed columns limit [] row new rest e = absurd (not-row e)
  where
    not-row : ◌≡◌ {A = Result ((Option Row × BinaryStage) × List ℕ) NoPart} (Ok ((None, Closed), [])) (Ok ((Some row, new), rest)) → ⊥
    not-row f =
        let made : (Option Row × BinaryStage) × List ℕ = ((None, Closed), []) in
        let pair : made ≡ ((Some row, new), rest) = cc in
        let none : ◌≡◌ {A = Option Row} None (Some row) = ap (λ (p : (Option Row × BinaryStage) × List ℕ). p.0.0) pair in
        cc
part-shorter Closed columns limit (b ∷ bs) row new rest e = absurd cc
part-shorter (Failed fault) columns limit bytes row new rest e = absurd cc

pub next-fewer : (answer : Result (Option Row) NoRow) (old new : BinaryState) → TakesPart answer old new → (row : Row) → next_answer answer ≡ Ok (Some row) → length new.kept < length old.kept
next-fewer (Ok (Some row)) old new h r e = part-shorter old.stage old.columns old.limit old.kept row new.stage new.kept h.0
next-fewer (Ok None) old new h r e = absurd cc
next-fewer (Err no_row.Memory) old new h r e = absurd cc
next-fewer (Err (no_row.NoPart stops.Incomplete)) old new h r e = absurd cc
next-fewer (Err (no_row.NoPart (stops.Faulty fault))) old new h r e = absurd cc

pub finish-fewer : (answer : Result (Option Row) NoRow) (old mid new : BinaryState) → TakesPart answer old mid → new ≡ finished answer mid → (row : Row) → last_answer answer ≡ Ok (Some row) → length new.kept < length old.kept
finish-fewer (Ok (Some row)) old mid new h f r e = rw f (part-shorter old.stage old.columns old.limit old.kept row mid.stage mid.kept h.0)
finish-fewer (Ok None) old mid new h f r e = absurd cc
finish-fewer (Err no_row.Memory) old mid new h f r e = absurd cc
finish-fewer (Err (no_row.NoPart stops.Incomplete)) old mid new h f r e = absurd cc
finish-fewer (Err (no_row.NoPart (stops.Faulty fault))) old mid new h f r e = absurd cc

pub next-given : (answer : Result (Option Row) NoRow) (old new : BinaryState) → TakesPart answer old new → new.given ≡ given_after old.given (given_by (next_answer answer))
next-given answer old new h = (Goes-part answer old new h).given ∙ ap (given_after old.given) (sym (given-next answer))

pub finish-given : (answer : Result (Option Row) NoRow) (old mid new : BinaryState) → TakesPart answer old mid → new ≡ finished answer mid → new.given ≡ given_after old.given (given_by (last_answer answer))
finish-given (Ok (Some row)) old mid new h f = ap (λ (s : BinaryState). s.given) f ∙ (Goes-part (Ok (Some row)) old mid h).given
finish-given (Ok None) old mid new h f = ap (λ (s : BinaryState). s.given) f ∙ (Goes-part (Ok None) old mid h).given
finish-given (Err no_row.Memory) old mid new h f = ap (λ (s : BinaryState). s.given) f ∙ (Goes-part (Err no_row.Memory) old mid h).given
finish-given (Err (no_row.NoPart stops.Incomplete)) old mid new h f = ap (λ (s : BinaryState). s.given) f ∙ (Goes-part (Err (no_row.NoPart stops.Incomplete)) old mid h).given
finish-given (Err (no_row.NoPart (stops.Faulty fault))) old mid new h f = ap (λ (s : BinaryState). s.given) f ∙ (Goes-part (Err (no_row.NoPart (stops.Faulty fault))) old mid h).given
