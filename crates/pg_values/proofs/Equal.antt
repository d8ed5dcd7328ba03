-- Lists that are as long and are spelled alike have the same values, and no others do.
use Rattle.std.proofs.Common.{◌≡◌, ℕ, Bool, true, false, ◌&&◌, List, [], ◌∷◌, length, ◌≤◌, Option, Some, None, refl, sym, ap, ◌∙◌}
use Rattle.std.specs.Prelude.{nat_eq}
use Rattle.std.specs.Option.{option_eq}
use Rattle.std.specs.Cmp.Lexicographic.{pointwise, same_text, lists_equiv, options_equiv, nat_list_eq_equiv}
use Rattle.pg_values.specs.Private.View.{values_left}
use Rattle.pg_values.specs.Private.Block.{spelled, longest_block}
use Rattle.pg_values.proofs.Blocks.{read_back}

abbrev pub equal_values : List (Option (List ℕ)) → List (Option (List ℕ)) → Bool
equal_values = pointwise (option_eq (pointwise nat_eq))

pub both : (p q : Bool) → (p && q) ≡ true → (p ≡ true) × (q ≡ true)
both true q e = (refl, e)
both false q e = absurd cc

same_value : (x y : Option (List ℕ)) → option_eq (pointwise nat_eq) x y ≡ true → x ≡ y
same_value None None e = refl
same_value (Some x) (Some y) e = ap (λ (v : List ℕ). Some v) (same_text x y (sym e))
same_value None (Some y) e = absurd cc
same_value (Some x) None e = absurd cc

pub same_values : (xs ys : List (Option (List ℕ))) → equal_values xs ys ≡ true → xs ≡ ys
same_values [] [] e = refl
same_values (x ∷ xs) (y ∷ ys) e =
    let parts = both (option_eq (pointwise nat_eq) x y) (equal_values xs ys) e in
    ap (λ (v : Option (List ℕ)). v ∷ xs) (same_value x y parts.0) ∙ ap (λ (vs : List (Option (List ℕ))). y ∷ vs) (same_values xs ys parts.1)
same_values [] (y ∷ ys) e = absurd cc
same_values (x ∷ xs) [] e = absurd cc

pub one_truth : (p q : Bool) → (p ≡ true → q ≡ true) → (q ≡ true → p ≡ true) → p ≡ q
one_truth true q to from = sym (to refl)
one_truth false true to from = from refl
one_truth false false to from = refl

refl_values : (xs : List (Option (List ℕ))) → equal_values xs xs ≡ true
refl_values xs = (lists_equiv (options_equiv nat_list_eq_equiv)).refl xs

pub refl_numbers : (xs : List ℕ) → pointwise nat_eq xs xs ≡ true
refl_numbers xs = nat_list_eq_equiv.refl xs

pub and_true : (p q : Bool) → p ≡ true → q ≡ true → (p && q) ≡ true
and_true true q e f = f
and_true false q e f = e

-- values that a block has, as many of each
pub compared : (vs ws : List (Option (List ℕ))) → length vs ≡ length ws → length (spelled vs) ≤ longest_block → length (spelled ws) ≤ longest_block → pointwise nat_eq (spelled vs) (spelled ws) ≡ equal_values vs ws
compared vs ws len few few' = one_truth (pointwise nat_eq (spelled vs) (spelled ws)) (equal_values vs ws) to from
  where
    to : pointwise nat_eq (spelled vs) (spelled ws) ≡ true → equal_values vs ws ≡ true
    to e =
        let same : vs ≡ ws = sym (read_back vs few) ∙ ap (λ (n : ℕ). values_left n (spelled vs)) len ∙ ap (values_left (length ws)) (same_text (spelled vs) (spelled ws) (sym e)) ∙ read_back ws few' in
        ap (equal_values vs) (sym same) ∙ refl_values vs

    from : equal_values vs ws ≡ true → pointwise nat_eq (spelled vs) (spelled ws) ≡ true
    from e = ap (pointwise nat_eq (spelled vs)) (ap spelled (sym (same_values vs ws e))) ∙ refl_numbers (spelled vs)

-- more or fewer aren't equal
pub apart : (vs ws : List (Option (List ℕ))) → (length vs ≡ length ws → ⊥) → false ≡ equal_values vs ws
apart vs ws other = one_truth false (equal_values vs ws) (λ e. absurd (differ e)) (λ e. absurd (other (ap length (same_values vs ws e))))
  where
    differ : false ≡ true → ⊥
    differ e = cc
