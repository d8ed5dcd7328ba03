-- Steps of the loops that read and write lists.
use Rattle.std.proofs.Common.{◌≡◌, ℕ, suc, ◌+◌, ◌-◌, ◌<◌, ◌≤◌, List, [], ◌∷◌, ◌++◌, length, get_or, take, Option, Some, None, refl, sym, ap, ◌∙◌, append_assoc, arith}
use Rattle.std.specs.List.{flat_map}
use Rattle.std.proofs.lemmas.List.{append-nil}
use Rattle.std.proofs.lemmas.List.Folds.{length-flat_map-take}
use Rattle.pg_codec.specs.declared.fault.BodyFault.{BodyFault}
use Rattle.pg_codec.specs.declared.fault.BodyFault.TheVariants as faults
use Rattle.pg_codec.specs.Private.Reader.{◌>>=◌, Fails, times_at, after_zero, up_to_zero_at}

-- what is read after these items, with them
abbrev pub with_first : {A : Type 0} → List A → Option (List A × List ℕ) → Option (List A × List ℕ)
with_first before o = o >>= λ x. Some (before ++ x.0, x.1)

pub no_first : {A : Type 0} (o : Option (List A × List ℕ)) → with_first [] o ≡ o
no_first (Some x) = refl
no_first None = refl

regroup : {A : Type 0} (before : List A) (a : A) (o : Option (List A × List ℕ)) → with_first before (o >>= λ x. Some (a ∷ x.0, x.1)) ≡ with_first (before ++ a ∷ []) o
regroup before a (Some x) = ap (λ xs. Some (xs, x.1)) (sym (append_assoc before (a ∷ []) x.0))
regroup before a None = refl

pub goes_on : {A : Type 0} (read : List ℕ → Option (A × List ℕ)) (before : List A) (count i : ℕ) (bytes : List ℕ) (a : A) (after : List ℕ) (total : Option (List A × List ℕ)) → i < count → read bytes ≡ Some (a, after)
    → with_first before (times_at read (count - i) bytes) ≡ total → with_first (before ++ a ∷ []) (times_at read (count - (i + 1)) after) ≡ total
unfolding times_at
goes_on read before count i bytes a after total lt h so_far =
    let k : count - i ≡ suc (count - (i + 1)) = omega arith in
    let one : with_first before (times_at read (count - i) bytes) ≡ with_first (before ++ a ∷ []) (times_at read (count - (i + 1)) after) = rw (k, h) (regroup before a (times_at read (count - (i + 1)) after)) in
    sym one ∙ so_far

pub ends : {A : Type 0} (read : List ℕ → Option (A × List ℕ)) (e : BodyFault) (before : List A) (count i : ℕ) (bytes : List ℕ) (total : Option (List A × List ℕ)) → i < count → Fails e (read bytes)
    → with_first before (times_at read (count - i) bytes) ≡ total → Fails e total
unfolding times_at
ends read faults.Memory before count i bytes total lt h so_far = tt
ends read faults.Bad before count i bytes total lt h so_far =
    let k : count - i ≡ suc (count - (i + 1)) = omega arith in
    let one : with_first before (times_at read (count - i) bytes) ≡ None = rw (k, h) refl in
    sym so_far ∙ one

pub is_done : {A : Type 0} (read : List ℕ → Option (A × List ℕ)) (before : List A) (count i : ℕ) (bytes : List ℕ) (total : Option (List A × List ℕ)) → count ≤ i → with_first before (times_at read (count - i) bytes) ≡ total → total ≡ Some (before, bytes)
unfolding times_at
is_done read before count i bytes total le so_far =
    let k : count - i ≡ 0 = omega arith in
    let one : with_first before (times_at read (count - i) bytes) ≡ Some (before, bytes) = rw k (ap (λ xs. Some (xs, bytes)) (append-nil before)) in
    sym so_far ∙ one

-- the same up to a zero byte
pub zero_goes_on : {A : Type 0} (read : List ℕ → Option (A × List ℕ)) (before : List A) (count i : ℕ) (bytes : List ℕ) (a : A) (after : List ℕ) (total : Option (List A × List ℕ)) → i < count → after_zero bytes ≡ None → read bytes ≡ Some (a, after)
    → with_first before (up_to_zero_at read (count - i) bytes) ≡ total → with_first (before ++ a ∷ []) (up_to_zero_at read (count - (i + 1)) after) ≡ total
unfolding up_to_zero_at
zero_goes_on read before count i bytes a after total lt n h so_far =
    let k : count - i ≡ suc (count - (i + 1)) = omega arith in
    let one : with_first before (up_to_zero_at read (count - i) bytes) ≡ with_first (before ++ a ∷ []) (up_to_zero_at read (count - (i + 1)) after) = rw (k, n, h) (regroup before a (up_to_zero_at read (count - (i + 1)) after)) in
    sym one ∙ so_far

pub zero_ends : {A : Type 0} (read : List ℕ → Option (A × List ℕ)) (e : BodyFault) (before : List A) (count i : ℕ) (bytes : List ℕ) (total : Option (List A × List ℕ)) → i < count → after_zero bytes ≡ None → Fails e (read bytes)
    → with_first before (up_to_zero_at read (count - i) bytes) ≡ total → Fails e total
unfolding up_to_zero_at
zero_ends read faults.Memory before count i bytes total lt n h so_far = tt
zero_ends read faults.Bad before count i bytes total lt n h so_far =
    let k : count - i ≡ suc (count - (i + 1)) = omega arith in
    let one : with_first before (up_to_zero_at read (count - i) bytes) ≡ None = rw (k, n, h) refl in
    sym so_far ∙ one

pub zero_is_done : {A : Type 0} (read : List ℕ → Option (A × List ℕ)) (before : List A) (count i : ℕ) (bytes rest : List ℕ) (total : Option (List A × List ℕ)) → i < count → after_zero bytes ≡ Some rest → with_first before (up_to_zero_at read (count - i) bytes) ≡ total → total ≡ Some (before, rest)
unfolding up_to_zero_at
zero_is_done read before count i bytes rest total lt n so_far =
    let k : count - i ≡ suc (count - (i + 1)) = omega arith in
    let one : with_first before (up_to_zero_at read (count - i) bytes) ≡ Some (before, rest) = rw (k, n) (ap (λ xs. Some (xs, rest)) (append-nil before)) in
    sym so_far ∙ one

pub zero_is_past : {A : Type 0} (read : List ℕ → Option (A × List ℕ)) (before : List A) (count i : ℕ) (rest : List ℕ) (total : Option (List A × List ℕ)) → count ≤ i → with_first before (up_to_zero_at read (count - i) rest) ≡ total → total ≡ None
unfolding up_to_zero_at
zero_is_past read before count i rest total le so_far =
    let k : count - i ≡ 0 = omega arith in
    let one : with_first before (up_to_zero_at read (count - i) rest) ≡ None = rw k refl in
    sym so_far ∙ one

-- one element's part of the bytes of all
pub part_of : {A : Type 0} (f : A → List ℕ) (xs : List A) (i : ℕ) (x : A) → i < length xs → x ≡ get_or xs i x → length (flat_map f (take i xs)) + length (f x) ≤ length (flat_map f xs)
part_of f xs i x lt is =
    let e : length (f x) ≡ length (f (get_or xs i x)) = ap (λ y. length (f y)) is in
    omega (arith, length-flat_map-take f xs i x lt)
