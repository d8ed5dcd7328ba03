-- Reading a row in place gives what reading gives.
use Rattle.std.proofs.Common.{◌≡◌, ℕ, zero, suc, List, [], ◌∷◌, Option, Result, Ok, Err, refl, ap, ◌∙◌, arith}
use Rattle.pg_copy_rows.specs.Row.{Row}
use Rattle.pg_copy_binary.specs.BinaryPart.{NoPart, ◌>>=◌, value_at, values_at}
use Rattle.pg_copy_binary.specs.Private.BinaryRow.{value_then, values_left}

-- what was read as values is what is still to come
pub values_are : (limit n : ℕ) (bytes : List ℕ) (row : Row) (rest : List ℕ) → values_at limit n bytes ≡ Ok (row, rest) → values_left limit n bytes ≡ row
unfolding values_at values_left
values_are limit zero bytes row rest e =
    let made : Row × List ℕ = ([], bytes) in
    let pair : made ≡ (row, rest) = cc in
    ap (λ (p : Row × List ℕ). p.0) pair
values_are limit (suc n) bytes row rest e = by_value (λ after vs end. values_are limit n after vs end) (value_at limit bytes) e
  where
    by_others : ((after : List ℕ) (vs : Row) (end : List ℕ) → values_at limit n after ≡ Ok (vs, end) → values_left limit n after ≡ vs) → (v : Option (List ℕ)) (after : List ℕ) (r : Result (Row × List ℕ) NoPart) → values_at limit n after ≡ r → ◌≡◌ {A = Result (Row × List ℕ) NoPart} (r >>= λ vs. Ok (v ∷ vs.0, vs.1)) (Ok (row, rest)) → v ∷ values_left limit n after ≡ row
    by_others are v after (Ok x) f g =
        let made : Row × List ℕ = (v ∷ x.0, x.1) in
        let pair : made ≡ (row, rest) = cc in
        ap (λ (others : Row). v ∷ others) (are after x.0 x.1 f) ∙ ap (λ (p : Row × List ℕ). p.0) pair
    by_others are v after (Err stop) f g = absurd cc

    by_value : ((after : List ℕ) (vs : Row) (end : List ℕ) → values_at limit n after ≡ Ok (vs, end) → values_left limit n after ≡ vs) → (r : Result (Option (List ℕ) × List ℕ) NoPart) → ◌≡◌ {A = Result (Row × List ℕ) NoPart} (r >>= λ v. (values_at limit n v.1 >>= λ vs. Ok (v.0 ∷ vs.0, vs.1))) (Ok (row, rest)) → value_then (λ after. values_left limit n after) r ≡ row
    by_value are (Ok v) g = by_others are v.0 v.1 (values_at limit n v.1) refl g
    by_value are (Err stop) g = absurd cc

-- ---- one step

pub value_comes : (limit count others : ℕ) (bytes : List ℕ) (v : Option (List ℕ)) (rest : List ℕ) → count ≡ suc others → value_at limit bytes ≡ Ok (v, rest) → values_left limit count bytes ≡ v ∷ values_left limit others rest
unfolding values_left
value_comes limit count others bytes v rest is e = rw (is, e) refl

pub no_value_comes : (limit count : ℕ) (bytes : List ℕ) (stop : NoPart) → value_at limit bytes ≡ Err stop → values_left limit count bytes ≡ []
unfolding values_left
no_value_comes limit zero bytes stop e = refl
no_value_comes limit (suc n) bytes stop e = rw e refl

pub no_count : (limit count : ℕ) (bytes : List ℕ) → count ≡ 0 → values_left limit count bytes ≡ []
unfolding values_left
no_count limit zero bytes e = refl
no_count limit (suc n) bytes e = absurd (omega arith)
