-- How many bytes a row has that was read, and a head.
use Rattle.std.proofs.Common.{◌≡◌, ℕ, zero, suc, ◌+◌, ◌-◌, ◌≤◌, Bool, true, false, cond, eqb, leb, List, ◌∷◌, ◌++◌, length, drop, Option, Some, None, Result, Ok, Err, refl, sym, ap, subst, ◌∙◌, arith, inl, inr}
use Rattle.std.specs.List.{flat_map}
use Rattle.std.specs.Int.{w32, to_be_bytes, cast_signed}
use Rattle.std.proofs.lemmas.List.{length-append, length-drop, length-take-le}
use Rattle.std.proofs.lemmas.Bool.{cases_lt, lt-ltb, le-ltb}
use Rattle.pg_copy_rows.specs.declared.fault.BinaryFault.TheVariants.{FieldLength}
use Rattle.pg_copy_rows.specs.Row.{Row}
use Rattle.pg_copy_binary.specs.Binary.{value}
use Rattle.pg_copy_binary.specs.BinaryPart.{NoPart, Faulty, ◌>>=◌, number_at, bytes_at, fixed_at, head_at, value_at, values_at}
use Rattle.pg_copy_binary.specs.Private.BinaryPart.{rest_of}
use Rattle.pg_copy_binary.proofs.BinaryHeads.{Needs, bytes_need, number_needs, fixed_needs, head-of-fixed}

-- what was read has so many bytes, and the others stand after it
abbrev pub Sized : {A : Type 0} → (A → ℕ) → Result (A × List ℕ) NoPart → List ℕ → Type 0
Sized size (Ok x) bytes = length bytes ≡ size x.0 + length x.1
Sized size (Err stop) bytes = Unit {0}

sized_cond : {A : Type 0} (size : A → ℕ) (t : Bool) (x y : Result (A × List ℕ) NoPart) (bytes : List ℕ) → Sized size x bytes → Sized size y bytes → Sized size (cond t x y) bytes
sized_cond size true x y bytes h k = h
sized_cond size false x y bytes h k = k

-- so many bytes
abbrev BytesSized : ℕ → Result (List ℕ × List ℕ) NoPart → List ℕ → Type 0
BytesSized n (Ok x) bytes = (length x.0 ≡ n) × (length bytes ≡ n + length x.1)
BytesSized n (Err stop) bytes = Unit {0}

bytes-size : (n : ℕ) (bytes : List ℕ) → BytesSized n (bytes_at n bytes) bytes
bytes-size n bytes = elim (cases_lt (length bytes) n) [
  | inl lt ↦ rw (lt-ltb (length bytes) n lt) tt
  | inr le ↦ rw (le-ltb (length bytes) n le) (length-take-le n bytes le, omega (arith, length-drop n bytes))
]

value-size : (limit : ℕ) (bytes : List ℕ) → Sized (λ v. length (value v)) (value_at limit bytes) bytes
unfolding value_at
value-size limit bytes = by_number (number_at w32 bytes) (number_needs w32 bytes)
  where
    some : List ℕ × List ℕ → Result (Option (List ℕ) × List ℕ) NoPart
    some v = Ok (Some v.0, v.1)

    by_bytes : (n : ℕ × List ℕ) (r : Result (List ℕ × List ℕ) NoPart) → length bytes ≡ 4 + length n.1 → BytesSized n.0 r n.1 → Sized (λ v. length (value v)) (r >>= λ v. Ok (Some v.0, v.1)) bytes
    by_bytes n (Ok x) e h =
        let size : length (to_be_bytes w32 (length x.0) ++ x.0) ≡ 4 + length x.0 = length-append (to_be_bytes w32 (length x.0)) x.0 in
        omega (arith, e, h.0, h.1, size)
    by_bytes n (Err stop) e h = tt

    by_number : (r : Result (ℕ × List ℕ) NoPart) → Needs 4 r bytes → Sized (λ v. length (value v)) (r >>= λ n. cond (eqb n.0 4294967295) (Ok (None, n.1)) (cond (leb n.0 limit) (bytes_at n.0 n.1 >>= λ v. Ok (Some v.0, v.1)) (Err (Faulty (FieldLength (cast_signed w32 n.0)))))) bytes
    by_number (Ok n) h =
        let e : length bytes ≡ 4 + length n.1 = omega (arith, h.0, ap length h.1, length-drop 4 bytes) in
        let long : Result (Option (List ℕ) × List ℕ) NoPart = bytes_at n.0 n.1 >>= λ v. Ok (Some v.0, v.1) in
        let bad : Result (Option (List ℕ) × List ℕ) NoPart = Err (Faulty (FieldLength (cast_signed w32 n.0))) in
        sized_cond (λ v. length (value v)) (eqb n.0 4294967295) (Ok (None, n.1)) (cond (leb n.0 limit) long bad) bytes e
        (sized_cond (λ v. length (value v)) (leb n.0 limit) long bad bytes (by_bytes n (bytes_at n.0 n.1) e (bytes-size n.0 n.1)) tt)
    by_number (Err stop) h = tt

pub values-size : (limit n : ℕ) (bytes : List ℕ) → Sized (λ vs. length (flat_map value vs)) (values_at limit n bytes) bytes
unfolding values_at
values-size limit zero bytes = omega arith
values-size limit (suc n) bytes = by_value (λ after. values-size limit n after) (value_at limit bytes) (value-size limit bytes)
  where
    by_others : (v : Option (List ℕ)) (after : List ℕ) (r : Result (Row × List ℕ) NoPart) → length bytes ≡ length (value v) + length after → Sized (λ vs. length (flat_map value vs)) r after → Sized (λ vs. length (flat_map value vs)) (r >>= λ vs. Ok (v ∷ vs.0, vs.1)) bytes
    by_others v after (Ok x) e h = omega (arith, e, h, length-append (value v) (flat_map value x.0))
    by_others v after (Err stop) e h = tt

    by_value : ((after : List ℕ) → Sized (λ vs. length (flat_map value vs)) (values_at limit n after) after) → (r : Result (Option (List ℕ) × List ℕ) NoPart) → Sized (λ v. length (value v)) r bytes → Sized (λ vs. length (flat_map value vs)) (r >>= λ v. (values_at limit n v.1 >>= λ vs. Ok (v.0 ∷ vs.0, vs.1))) bytes
    by_value others (Ok v) h = by_others v.0 v.1 (values_at limit n v.1) h (others v.1)
    by_value others (Err stop) h = tt

-- the size of a row that stands at a place
pub row-size : (limit columns start end : ℕ) (kept : List ℕ) (row : Row) → start + 2 ≤ end → end ≤ length kept → values_at limit columns (drop (start + 2) kept) ≡ Ok (row, drop end kept) → end - start ≡ 2 + length (flat_map value row)
row-size limit columns start end kept row order range e =
    let size = subst (λ r. Sized (λ vs. length (flat_map value vs)) r (drop (start + 2) kept)) e (values-size limit columns (drop (start + 2) kept)) in
    omega (arith, order, range, size, length-drop (start + 2) kept, length-drop end kept)

-- where a head ends
pub head-place : (kept : List ℕ) (start : ℕ) → start ≤ length kept → rest_of (head_at kept) ≡ Ok (drop start kept) → (n : ℕ × List ℕ) × (fixed_at kept ≡ Ok n) × (start ≡ 19 + n.0)
head-place kept start le e = by_fixed (fixed_at kept) refl (fixed_needs kept)
  where
    by_bytes : (n : ℕ × List ℕ) (r : Result (List ℕ × List ℕ) NoPart) → Needs 19 (Ok n) kept → Needs n.0 r n.1 → rest_of r ≡ Ok (drop start kept) → start ≡ 19 + n.0
    by_bytes n (Ok x) h k f =
        let rest : x.1 ≡ drop start kept = cc in
        omega (arith, le, h.0, ap length h.1, length-drop 19 kept, k.0, ap length k.1, length-drop n.0 n.1, ap length rest, length-drop start kept)
    by_bytes n (Err stop) h k f = absurd cc

    by_fixed : (r : Result (ℕ × List ℕ) NoPart) → fixed_at kept ≡ r → Needs 19 r kept → (n : ℕ × List ℕ) × (fixed_at kept ≡ Ok n) × (start ≡ 19 + n.0)
    by_fixed (Ok n) f h = (n, f, by_bytes n (bytes_at n.0 n.1) h (bytes_need n.0 n.1) (sym (ap rest_of (head-of-fixed kept (Ok n) f)) ∙ e))
    by_fixed (Err stop) f h =
        let none : ◌≡◌ {A = Result (List ℕ) NoPart} (Err stop) (Ok (drop start kept)) = sym (ap rest_of (head-of-fixed kept (Err stop) f)) ∙ e in
        absurd (clash none)
      where
        clash : {t : NoPart} → ◌≡◌ {A = Result (List ℕ) NoPart} (Err t) (Ok (drop start kept)) → ⊥
        clash g = cc
