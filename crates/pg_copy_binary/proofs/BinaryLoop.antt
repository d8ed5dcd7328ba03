-- Reading values one after the other, as a loop does.
use Rattle.std.proofs.Common.{◌≡◌, ℕ, suc, ◌-◌, ◌+◌, ◌≤◌, ◌<◌, List, [], ◌∷◌, ◌++◌, Option, Result, Ok, Err, refl, sym, ap, ◌∙◌, append_assoc, arith}
use Rattle.std.proofs.lemmas.List.{append-nil}
use Rattle.pg_copy_rows.specs.Row.{Row}
use Rattle.pg_copy_binary.specs.BinaryPart.{NoPart, ◌>>=◌, value_at, values_at}

-- what was read before, and what is still read
abbrev pub with_front : Row → Result (Row × List ℕ) NoPart → Result (Row × List ℕ) NoPart
with_front front read = read >>= λ x. Ok (front ++ x.0, x.1)

pub nothing_before : (read : Result (Row × List ℕ) NoPart) → with_front [] read ≡ read
nothing_before (Ok x) = refl
nothing_before (Err s) = refl

regroup : (front : Row) (v : Option (List ℕ)) (read : Result (Row × List ℕ) NoPart) → with_front front (read >>= λ x. Ok (v ∷ x.0, x.1)) ≡ with_front (front ++ v ∷ []) read
regroup front v (Ok x) = ap (λ (vs : Row). Ok (vs, x.1)) (simp append_assoc)
regroup front v (Err f) = refl

pub goes_on : (limit : ℕ) (front : Row) (count i : ℕ) (bytes : List ℕ) (v : Option (List ℕ)) (after : List ℕ) (total : Result (Row × List ℕ) NoPart) → i < count → value_at limit bytes ≡ Ok (v, after)
    → with_front front (values_at limit (count - i) bytes) ≡ total → with_front (front ++ v ∷ []) (values_at limit (count - (i + 1)) after) ≡ total
unfolding values_at
goes_on limit front count i bytes v after total lt h so_far =
    let k : count - i ≡ suc (count - (i + 1)) = omega arith in
    let one : with_front front (values_at limit (count - i) bytes) ≡ with_front (front ++ v ∷ []) (values_at limit (count - (i + 1)) after) = rw (k, h) (regroup front v (values_at limit (count - (i + 1)) after)) in
    sym one ∙ so_far

pub ends : (limit : ℕ) (s : NoPart) (front : Row) (count i : ℕ) (bytes : List ℕ) (total : Result (Row × List ℕ) NoPart) → i < count → value_at limit bytes ≡ Err s
    → with_front front (values_at limit (count - i) bytes) ≡ total → total ≡ Err s
unfolding values_at
ends limit s front count i bytes total lt h so_far =
    let k : count - i ≡ suc (count - (i + 1)) = omega arith in
    let one : with_front front (values_at limit (count - i) bytes) ≡ Err s = rw (k, h) refl in
    sym so_far ∙ one

pub is_done : (limit : ℕ) (front : Row) (count i : ℕ) (bytes : List ℕ) (total : Result (Row × List ℕ) NoPart) → count ≤ i → with_front front (values_at limit (count - i) bytes) ≡ total → total ≡ Ok (front, bytes)
unfolding values_at
is_done limit front count i bytes total le so_far =
    let k : count - i ≡ 0 = omega arith in
    let one : with_front front (values_at limit (count - i) bytes) ≡ Ok (front, bytes) = rw k (ap (λ (vs : Row). Ok (vs, bytes)) (append-nil front)) in
    sym so_far ∙ one
