-- Walks over the rows of a binary file.
use Rattle.std.proofs.Common.{◌≡◌, ℕ, zero, suc, ◌+◌, ◌-◌, ◌<◌, ◌≤◌, Bool, true, false, eqb, List, [], ◌∷◌, ◌++◌, length, take, drop, Option, Some, None, Result, Ok, Err, refl, sym, ap, subst, ◌∙◌, arith, inl, inr}
use Rattle.std.specs.Prelude.{◌⊎◌}
use Rattle.std.specs.Int.{w16, cast_signed, from_be_bytes}
use Rattle.pg_copy_rows.specs.declared.fault.BinaryFault.{BinaryFault}
use Rattle.pg_copy_rows.specs.declared.fault.BinaryFault.TheVariants.{FieldCount, AfterTrailer}
use Rattle.std.proofs.lemmas.List.{drop-append-le, length-append, length-drop, drop-drop, drop_all}
use Rattle.std.proofs.lemmas.Bool.{ne_eqb, eq-eqb, false≢true, cases_lt, lt-ltb, le-ltb, cond-true, cond-false}
use Rattle.pg_copy_binary.specs.declared.binary_part.Walk.{Walk}
use Rattle.pg_copy_binary.specs.declared.binary_part.Look.{Look}
use Rattle.pg_copy_binary.specs.declared.binary_reader.BinaryStage.{BinaryStage}
use Rattle.pg_copy_binary.specs.declared.binary_reader.BinaryStage.TheVariants.{Head, Extension, Rows, Closed, Failed}
use Rattle.pg_copy_rows.specs.Row.{Row}
use Rattle.pg_copy_binary.specs.BinaryPart.{NoPart, Incomplete, Faulty, ◌>>=◌, number_at, head_at, value_at, values_at, row_at}
use Rattle.pg_copy_binary.specs.Private.BinaryPart.{rest_of, IsWalkBegun, IsRowWalked, row_or_trailer, closed_at, body_at, part_at, IsAfterHead, StartsRow, IsLooked, stage_of, is_head, IsBinaryReader}
use Rattle.pg_copy_rows.specs.Private.RowBuffer.{RowBytes}
use Rattle.pg_copy_binary.specs.BinaryReader.{IsReading}
use Rattle.pg_copy_binary.proofs.BinaryReads.{Grows, number_grows, values_grow, head_grows, TakesAtLeast, value_takes, head_takes}

-- ---- the bytes after what was read

rest-cons : (v : Option (List ℕ)) (r : Result (Row × List ℕ) NoPart) → rest_of (r >>= λ vs. Ok (v ∷ vs.0, vs.1)) ≡ rest_of r
rest-cons v (Ok x) = refl
rest-cons v (Err e) = refl

pub rest-is : {A : Type 0} (r : Result (A × List ℕ) NoPart) (rest : List ℕ) → rest_of r ≡ Ok rest → (a : A) × (r ≡ Ok (a, rest))
rest-is {A} (Ok x) rest e =
    let is : x.1 ≡ rest = cc in
    (x.0, ap (λ (y : List ℕ). Ok (x.0, y)) is)
rest-is {A} (Err s) rest e = absurd cc

-- one value more
snoc : (limit k : ℕ) (bytes : List ℕ) → rest_of (values_at limit (suc k) bytes) ≡ (rest_of (values_at limit k bytes) >>= λ r. rest_of (value_at limit r))
unfolding values_at
snoc limit zero bytes = first (value_at limit bytes)
  where
    first : (r : Result (Option (List ℕ) × List ℕ) NoPart) → rest_of (r >>= λ v. (values_at limit 0 v.1 >>= λ vs. Ok (v.0 ∷ vs.0, vs.1))) ≡ rest_of r
    first (Ok v) = refl
    first (Err s) = refl
snoc limit (suc k) bytes = go (value_at limit bytes) (λ y. snoc limit k y)
  where
    go : (r : Result (Option (List ℕ) × List ℕ) NoPart) → ((y : List ℕ) → rest_of (values_at limit (suc k) y) ≡ (rest_of (values_at limit k y) >>= λ x. rest_of (value_at limit x))) → rest_of (r >>= λ v. (values_at limit (suc k) v.1 >>= λ vs. Ok (v.0 ∷ vs.0, vs.1))) ≡ (rest_of (r >>= λ v. (values_at limit k v.1 >>= λ vs. Ok (v.0 ∷ vs.0, vs.1))) >>= λ x. rest_of (value_at limit x))
    go (Ok v) h = rest-cons v.0 (values_at limit (suc k) v.1) ∙ h v.1 ∙ ap (λ (x : Result (List ℕ) NoPart). x >>= λ y. rest_of (value_at limit y)) (sym (rest-cons v.0 (values_at limit k v.1)))
    go (Err s) h = refl

rest-err : {A : Type 0} (r : Result (A × List ℕ) NoPart) (s : NoPart) → rest_of r ≡ Err s → r ≡ Err s
rest-err {A} (Ok x) s e = absurd cc
rest-err {A} (Err t) s e = let is : t ≡ s = cc in ap Err is

-- where a value among the next isn't read, the values aren't
stuck : (limit k m : ℕ) (bytes : List ℕ) (s : NoPart) → rest_of (values_at limit k bytes) ≡ Err s → rest_of (values_at limit (k + m) bytes) ≡ Err s
stuck limit k zero bytes s e = let n : k + 0 ≡ k = omega arith in ap (λ (x : ℕ). rest_of (values_at limit x bytes)) n ∙ e
stuck limit k (suc m) bytes s e =
    let n : k + suc m ≡ suc (k + m) = omega arith in
    ap (λ (x : ℕ). rest_of (values_at limit x bytes)) n ∙ snoc limit (k + m) bytes ∙ ap (λ (x : Result (List ℕ) NoPart). x >>= λ y. rest_of (value_at limit y)) (stuck limit k m bytes s e)

-- ---- a walk

rest-same : (x : ℕ × List ℕ) (n : ℕ) (rest : List ℕ) → ◌≡◌ {A = Result (ℕ × List ℕ) NoPart} (Ok x) (Ok (n, rest)) → x.1 ≡ rest
rest-same x n rest e =
    let pair : x ≡ (n, rest) = cc in
    ap (λ (y : ℕ × List ℕ). y.1) pair

number-there : (bytes : List ℕ) → 2 ≤ length bytes → number_at w16 bytes ≡ Ok (from_be_bytes w16 (take 2 bytes), drop 2 bytes)
number-there bytes le = cond-false _ _ _ (le-ltb (length bytes) 2 le)

number-short : (bytes : List ℕ) → length bytes < 2 → number_at w16 bytes ≡ Err Incomplete
number-short bytes lt = cond-true _ _ _ (lt-ltb (length bytes) 2 lt)

number-after : (bytes : List ℕ) (count : ℕ) (rest : List ℕ) → number_at w16 bytes ≡ Ok (count, rest) → (2 ≤ length bytes) × (rest ≡ drop 2 bytes)
number-after bytes count rest e = elim (cases_lt (length bytes) 2) [
  | inl lt ↦ absurd (clash (sym (number-short bytes lt) ∙ e))
  | inr le ↦ (le, sym (rest-same (from_be_bytes w16 (take 2 bytes), drop 2 bytes) count rest (sym (number-there bytes le) ∙ e)))
]
  where
    clash : ◌≡◌ {A = Result (ℕ × List ℕ) NoPart} (Err Incomplete) (Ok (count, rest)) → ⊥
    clash f = cc

pub begun-start : (columns limit : ℕ) (bytes : List ℕ) (count : ℕ) (rest : List ℕ) → number_at w16 bytes ≡ Ok (count, rest) → count ≡ columns → IsWalkBegun columns limit bytes (record { at = 2; left = columns })
unfolding values_at
begun-start columns limit bytes count rest e same =
    let b = number-after bytes count rest e in
    let none : columns - columns ≡ 0 = omega arith in
    record {
      count = e ∙ ap (λ (n : ℕ). Ok (n, rest)) same ∙ ap (λ (x : List ℕ). Ok (columns, x)) b.1;
      in_range = b.0;
      after_count = omega arith;
      few = omega arith;
      values = ap (λ (n : ℕ). rest_of (values_at limit n (drop 2 bytes))) none;
    }

pub row-incomplete : (columns limit : ℕ) (bytes : List ℕ) (s : NoPart) → number_at w16 bytes ≡ Err s → row_at columns limit bytes ≡ Err s
unfolding row_at
row-incomplete columns limit bytes s e = rw e refl

pub row-trailer : (columns limit : ℕ) (bytes : List ℕ) (count : ℕ) (rest : List ℕ) → number_at w16 bytes ≡ Ok (count, rest) → count ≡ 65535 → row_at columns limit bytes ≡ Ok (None, drop 2 bytes)
unfolding row_at
row-trailer columns limit bytes count rest e is = rw (e, eq-eqb count 65535 is) (ap (λ (x : List ℕ). Ok (None, x)) (number-after bytes count rest e).1)

pub row-other : (columns limit : ℕ) (bytes : List ℕ) (count : ℕ) (rest : List ℕ) → number_at w16 bytes ≡ Ok (count, rest) → (count ≡ 65535 → ⊥) → (count ≡ columns → ⊥) → row_at columns limit bytes ≡ Err (Faulty (FieldCount (cast_signed w16 count)))
unfolding row_at
row-other columns limit bytes count rest e not_trailer other = rw (e, ne_eqb count 65535 not_trailer, ne_eqb count columns other) refl

pub begun-more : (columns limit : ℕ) (bytes : List ℕ) (at l : ℕ) (v : Option (List ℕ)) (after : List ℕ) → 0 < l → IsWalkBegun columns limit bytes (record { at = at; left = l }) → value_at limit (drop at bytes) ≡ Ok (v, after)
    → IsWalkBegun columns limit bytes (record { at = length bytes - length after; left = l - 1 }) × (at ≤ length bytes - length after) × (length after ≤ length bytes) × (after ≡ drop (length bytes - length after) bytes)
begun-more columns limit bytes at l v after some h e =
    let t = subst (λ x. TakesAtLeast 0 x (drop at bytes)) e (value_takes limit (drop at bytes)) in
    let long = length-drop at bytes in
    let len : length after ≡ length (drop at bytes) - t.0 = ap length t.3 ∙ length-drop t.0 (drop at bytes) in
    let place : length bytes - length after ≡ at + t.0 = omega (arith, h.in_range, t.2) in
    let is : after ≡ drop (length bytes - length after) bytes = t.3 ∙ drop-drop t.0 at bytes ∙ ap (λ (n : ℕ). drop n bytes) (sym place) in
    let k : columns - (l - 1) ≡ suc (columns - l) = omega (arith, h.few) in
    let values : rest_of (values_at limit (columns - (l - 1)) (drop 2 bytes)) ≡ Ok (drop (length bytes - length after) bytes) =
    ap (λ (n : ℕ). rest_of (values_at limit n (drop 2 bytes))) k ∙ snoc limit (columns - l) (drop 2 bytes) ∙ ap (λ (x : Result (List ℕ) NoPart). x >>= λ y. rest_of (value_at limit y)) h.values ∙ ap rest_of e ∙ ap (λ (x : List ℕ). Ok x) is in
    (record { count = h.count; in_range = omega arith; after_count = omega (arith, place, h.after_count); few = omega (arith, h.few); values = values }, omega (arith, place), omega (arith, len, long, t.2, h.in_range), is)

-- the row, by its values
row-of : (columns limit : ℕ) (bytes : List ℕ) (r : Result (Row × List ℕ) NoPart) → columns ≤ 32767 → number_at w16 bytes ≡ Ok (columns, drop 2 bytes) → values_at limit columns (drop 2 bytes) ≡ r → row_at columns limit bytes ≡ (r >>= λ x. Ok (Some x.0, x.1))
unfolding row_at
row-of columns limit bytes r few count values =
    let n : eqb columns 65535 ≡ false = ne_eqb columns 65535 (λ e. absurd (omega arith)) in
    rw (count, n, eq-eqb columns columns refl, values) refl

pub row-stuck : (columns limit : ℕ) (bytes : List ℕ) (at l : ℕ) (s : NoPart) → columns ≤ 32767 → 0 < l → IsWalkBegun columns limit bytes (record { at = at; left = l }) → value_at limit (drop at bytes) ≡ Err s → row_at columns limit bytes ≡ Err s
row-stuck columns limit bytes at l s few some h e =
    let one : rest_of (values_at limit (suc (columns - l)) (drop 2 bytes)) ≡ Err s = snoc limit (columns - l) (drop 2 bytes) ∙ ap (λ (x : Result (List ℕ) NoPart). x >>= λ y. rest_of (value_at limit y)) h.values ∙ ap rest_of e in
    let all : suc (columns - l) + (l - 1) ≡ columns = omega (arith, h.few) in
    let values : values_at limit columns (drop 2 bytes) ≡ Err s = rest-err (values_at limit columns (drop 2 bytes)) s (ap (λ (n : ℕ). rest_of (values_at limit n (drop 2 bytes))) (sym all) ∙ stuck limit (suc (columns - l)) (l - 1) (drop 2 bytes) s one) in
    row-of columns limit bytes (Err s) few h.count values

-- a row that was walked over
pub row-whole : (columns limit : ℕ) (bytes : List ℕ) (w : Walk) → columns ≤ 32767 → w.left ≡ 0 → IsWalkBegun columns limit bytes w
    → (row : Row) × (values_at limit columns (drop 2 bytes) ≡ Ok (row, drop w.at bytes)) × (row_at columns limit bytes ≡ Ok (Some row, drop w.at bytes))
row-whole columns limit bytes w few none h =
    let all : columns - w.left ≡ columns = omega arith in
    let r = rest-is (values_at limit columns (drop 2 bytes)) (drop w.at bytes) (ap (λ (n : ℕ). rest_of (values_at limit n (drop 2 bytes))) (sym all) ∙ h.values) in
    (r.0, r.1, row-of columns limit bytes (Ok (r.0, drop w.at bytes)) few h.count r.1)

-- ---- bytes that are added

drop-more : (n : ℕ) (bytes more : List ℕ) → n ≤ length bytes → drop n (bytes ++ more) ≡ drop n bytes ++ more
drop-more n bytes more le = drop-append-le n bytes more le

grown-rest : {A : Type 0} (r longer : Result (A × List ℕ) NoPart) (rest more : List ℕ) → Grows r longer more → rest_of r ≡ Ok rest → rest_of longer ≡ Ok (rest ++ more)
grown-rest {A} (Ok x) longer rest more g e = let is : x.1 ≡ rest = cc in ap rest_of g ∙ ap (λ (y : List ℕ). Ok (y ++ more)) is
grown-rest {A} (Err s) longer rest more g e = absurd cc

pub walked-append : (columns limit : ℕ) (bytes more : List ℕ) (w : Walk) → IsRowWalked columns limit bytes w → IsRowWalked columns limit (bytes ++ more) w
walked-append columns limit bytes more w walked lt =
    let h = walked lt in
    let two = (number-after bytes columns (drop 2 bytes) h.count).0 in
    let after = drop-more 2 bytes more two in
    let count : number_at w16 (bytes ++ more) ≡ Ok (columns, drop 2 bytes ++ more) = subst (λ x. Grows x (number_at w16 (bytes ++ more)) more) h.count (number_grows w16 bytes more) in
    record {
      count = count ∙ ap (λ (x : List ℕ). Ok (columns, x)) (sym after);
      in_range = omega (arith, h.in_range, length-append bytes more);
      after_count = h.after_count;
      few = h.few;
      values = ap (λ (x : List ℕ). rest_of (values_at limit (columns - w.left) x)) after
          ∙ grown-rest (values_at limit (columns - w.left) (drop 2 bytes)) (values_at limit (columns - w.left) (drop 2 bytes ++ more)) (drop w.at bytes) more (values_grow limit (columns - w.left) (drop 2 bytes) more) h.values
          ∙ ap (λ (x : List ℕ). Ok x) (sym (drop-more w.at bytes more h.in_range));
    }

after-append : (in_head : Bool) (bytes rest more : List ℕ) → IsAfterHead in_head bytes rest → IsAfterHead in_head (bytes ++ more) (rest ++ more)
after-append true bytes rest more h = grown-rest (head_at bytes) (head_at (bytes ++ more)) rest more (head_grows bytes more) h
after-append false bytes rest more h = ap (λ (x : List ℕ). x ++ more) h

pub looked-append : (in_head : Bool) (columns limit : ℕ) (bytes more : List ℕ) (l : Look) → IsLooked in_head columns limit bytes l → IsLooked in_head columns limit (bytes ++ more) l
looked-append in_head columns limit bytes more l h =
    let after = drop-more l.start bytes more h.in_range in
    record {
      in_range = omega (arith, h.in_range, length-append bytes more);
      head = λ e. subst (λ (x : List ℕ). IsAfterHead in_head (bytes ++ more) x) (sym after) (after-append in_head bytes (drop l.start bytes) more (h.head e));
      fresh = h.fresh;
      none = h.none;
      walk = subst (λ (x : List ℕ). IsRowWalked columns limit x l.walk) (sym after) (walked-append columns limit (drop l.start bytes) more l.walk h.walk);
    }

-- ---- the part, by what stands after the head

pub part-of : (in_head : Bool) (columns limit : ℕ) (bytes rest : List ℕ) → IsAfterHead in_head bytes rest → part_at (stage_of in_head) columns limit bytes ≡ body_at columns limit rest
unfolding part_at
part-of true columns limit bytes rest h =
    let x = rest-is (head_at bytes) rest h in
    ap (λ r. r >>= λ y. body_at columns limit y.1) x.1
part-of false columns limit bytes rest h = ap (body_at columns limit) h

pub body-of : (columns limit : ℕ) (rest : List ℕ) (r : Result (Option Row × List ℕ) NoPart) → row_at columns limit rest ≡ r → body_at columns limit rest ≡ (r >>= λ x. row_or_trailer x.0 x.1)
unfolding body_at
body-of columns limit rest r e = ap (λ x. x >>= λ y. row_or_trailer y.0 y.1) e

pub head-stuck : (columns limit : ℕ) (bytes : List ℕ) (s : NoPart) → head_at bytes ≡ Err s → part_at Head columns limit bytes ≡ Err s
unfolding part_at
head-stuck columns limit bytes s e = ap (λ r. r >>= λ y. body_at columns limit y.1) e

-- where the head ends
pub head-end : (bytes h rest : List ℕ) → head_at bytes ≡ Ok (h, rest) → (length rest ≤ length bytes) × (0 < length bytes - length rest) × (rest ≡ drop (length bytes - length rest) bytes)
head-end bytes h rest e =
    let t = subst (λ x. TakesAtLeast 11 x bytes) e (head_takes bytes) in
    let len : length rest ≡ length bytes - t.0 = ap length t.3 ∙ length-drop t.0 bytes in
    let place : length bytes - length rest ≡ t.0 = omega (arith, t.2) in
    (omega arith, omega (arith, t.1), t.3 ∙ ap (λ (n : ℕ). drop n bytes) (sym place))

-- a reader that keeps what is pushed isn't after the trailer, nor in an extension
pub not-closed : (stage : BinaryStage) → (stage ≡ Head) ⊎ (stage ≡ Rows) → stage ≡ Closed → ⊥
not-closed stage (inl h) e = absurd cc
not-closed stage (inr h) e = absurd cc

not-within : (stage : BinaryStage) (n : ℕ) → (stage ≡ Head) ⊎ (stage ≡ Rows) → stage ≡ Extension n → ⊥
not-within stage n (inl h) e = absurd cc
not-within stage n (inr h) e = absurd cc

pub reader-append : (columns limit : ℕ) (buffer : RowBytes) (more : List ℕ) (l : Look) (stage : BinaryStage) → IsBinaryReader columns limit buffer l stage → (stage ≡ Head) ⊎ (stage ≡ Rows) → IsBinaryReader columns limit (record { front = None; kept = buffer.kept ++ more }) l stage
reader-append columns limit buffer more l stage h keeps = record {
  columns_few = h.columns_few;
  looked = looked-append (is_head stage) columns limit buffer.kept more l h.looked;
  not_memory = h.not_memory;
  closed = λ e. absurd (not-closed stage keeps e);
  skips = λ n e. absurd (not-within stage n keeps e);
  lends = inr refl;
}

-- ---- looks

pub part-stuck : (in_head : Bool) (columns limit : ℕ) (bytes rest : List ℕ) (s : NoPart) → IsAfterHead in_head bytes rest → row_at columns limit rest ≡ Err s → part_at (stage_of in_head) columns limit bytes ≡ Err s
part-stuck in_head columns limit bytes rest s after e = part-of in_head columns limit bytes rest after ∙ body-of columns limit rest (Err s) e

pub part-closed : (in_head : Bool) (columns limit : ℕ) (bytes rest : List ℕ) → IsAfterHead in_head bytes rest → row_at columns limit rest ≡ Ok (None, drop 2 rest) → length rest ≡ 2 → part_at (stage_of in_head) columns limit bytes ≡ Ok ((None, Closed), [])
part-closed in_head columns limit bytes rest after e two =
    let none : drop 2 rest ≡ [] = drop_all 2 rest (omega arith) in
    part-of in_head columns limit bytes rest after ∙ body-of columns limit rest (Ok (None, drop 2 rest)) e ∙ ap closed_at none

row-two : (columns limit : ℕ) (rest : List ℕ) (o : Option Row) (after : List ℕ) → row_at columns limit rest ≡ Ok (o, after) → 2 ≤ length rest
row-two columns limit rest o after f = elim (cases_lt (length rest) 2) [
  | inl lt ↦ absurd (clash (sym (row-incomplete columns limit rest Incomplete (number-short rest lt)) ∙ f))
  | inr le ↦ le
]
  where
    clash : ◌≡◌ {A = Result (Option Row × List ℕ) NoPart} (Err Incomplete) (Ok (o, after)) → ⊥
    clash e = cc

pub part-after : (in_head : Bool) (columns limit : ℕ) (bytes rest : List ℕ) → IsAfterHead in_head bytes rest → row_at columns limit rest ≡ Ok (None, drop 2 rest) → (length rest ≡ 2 → ⊥) → part_at (stage_of in_head) columns limit bytes ≡ Err (Faulty AfterTrailer)
part-after in_head columns limit bytes rest after e more =
    let two = row-two columns limit rest None (drop 2 rest) e in
    let long : 0 < length (drop 2 rest) = omega (arith, length-drop 2 rest, two, more_than (length rest) two more) in
    part-of in_head columns limit bytes rest after ∙ body-of columns limit rest (Ok (None, drop 2 rest)) e ∙ something (drop 2 rest) long
  where
    something : (x : List ℕ) → 0 < length x → closed_at x ≡ Err (Faulty AfterTrailer)
    something [] lt = absurd (omega arith)
    something (b ∷ bs) lt = refl

    more_than : (n : ℕ) → 2 ≤ n → (n ≡ 2 → ⊥) → 2 < n
    more_than n le ne = omega arith

-- a row that was found
pub part-row : (in_head : Bool) (columns limit : ℕ) (bytes : List ℕ) (l : Look) → columns ≤ 32767 → IsLooked in_head columns limit bytes l → IsAfterHead in_head bytes (drop l.start bytes) → 0 < l.walk.at → l.walk.left ≡ 0
    → (row : Row) × (values_at limit columns (drop (l.start + 2) bytes) ≡ Ok (row, drop (l.start + l.walk.at) bytes)) × (part_at (stage_of in_head) columns limit bytes ≡ Ok ((Some row, Rows), drop (l.start + l.walk.at) bytes)) × (l.start + 2 ≤ l.start + l.walk.at) × (l.start + l.walk.at ≤ length bytes)
part-row in_head columns limit bytes l few h after some none =
    let rest = drop l.start bytes in
    let b = h.walk some in
    let r = row-whole columns limit rest l.walk few none b in
    let place : drop l.walk.at rest ≡ drop (l.start + l.walk.at) bytes = drop-drop l.walk.at l.start bytes in
    let values : drop 2 rest ≡ drop (l.start + 2) bytes = drop-drop 2 l.start bytes in
    let two = (number-after rest columns (drop 2 rest) b.count).0 in (
      r.0,
      ap (values_at limit columns) (sym values) ∙ r.1 ∙ ap (λ (x : List ℕ). Ok (r.0, x)) place,
      part-of in_head columns limit bytes rest after ∙ body-of columns limit rest (Ok (Some r.0, drop l.walk.at rest)) r.2 ∙ ap (λ (x : List ℕ). Ok ((Some r.0, Rows), x)) place,
      omega (arith, b.after_count),
      omega (arith, b.in_range, length-drop l.start bytes, h.in_range),
    )

pub part-head : (in_head : Bool) (columns limit : ℕ) (bytes : List ℕ) (s : NoPart) → in_head ≡ true → head_at bytes ≡ Err s → part_at (stage_of in_head) columns limit bytes ≡ Err s
part-head true columns limit bytes s e h = head-stuck columns limit bytes s h
part-head false columns limit bytes s e h = absurd (false≢true e)

pub start-after : (in_head : Bool) (bytes : List ℕ) (start : ℕ) (h rest : List ℕ) → in_head ≡ true → start ≤ 0 → head_at bytes ≡ Ok (h, rest) → StartsRow in_head bytes start (Ok (length bytes - length rest))
start-after true bytes start h rest e le read =
    let n = head-end bytes h rest read in
    (omega arith, ap rest_of read ∙ ap (λ (x : List ℕ). Ok x) n.2, inr (refl, omega arith, n.1))
start-after false bytes start h rest e le read = absurd (false≢true e)

-- ---- a reader

-- a reader that still reads has not failed
pub not-failed : (stage : BinaryStage) (fault : BinaryFault) → IsReading stage → stage ≡ Failed fault → ⊥
not-failed stage fault h e = subst IsReading e h

-- where the row begins after the head, the head was read
pub started : (in_head : Bool) (bytes : List ℕ) (start n : ℕ) → StartsRow in_head bytes start (Ok n) → in_head ≡ true → n ≡ 0 → ⊥
started in_head bytes start n (le, after, inl (inl f, same)) e z = false≢true (sym f ∙ e)
started in_head bytes start n (le, after, inl (inr lt, same)) e z = absurd (omega (arith, lt, same, z))
started in_head bytes start n (le, after, inr s) e z = absurd (omega (arith, s.2, z))

-- a reader at the head or among the rows has not failed
pub not-stopped : (in_head : Bool) (fault : BinaryFault) → stage_of in_head ≡ Failed fault → ⊥
not-stopped true fault e = absurd cc
not-stopped false fault e = absurd cc

-- a reader within an extension lends no row
pub no-front : (stage : BinaryStage) (n : ℕ) (front : Option (List ℕ)) → stage ≡ Extension n → (stage ≡ Rows) ⊎ (front ≡ None) → front ≡ None
no-front stage n front e (inl f) = absurd (apart (sym e ∙ f))
  where
    apart : Extension n ≡ Rows → ⊥
    apart g = cc
no-front stage n front e (inr f) = f
