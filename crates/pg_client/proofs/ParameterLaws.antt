-- The value of a parameter, by its name.
use Rattle.std.proofs.Common.{◌≡◌, ℕ, List, [], ◌∷◌, map, Bool, true, false, cond, bytes_eq, Option, Some, refl, sym, ap, subst, ◌∙◌}
use Rattle.std.specs.Ordering.{is_eq, nat_cmp, eq_by_cmp}
use Rattle.std.specs.Cmp.Lexicographic.{slice_cmp, nat_list_cmp_total, bytes_decides}
use Rattle.std.specs.Map.{lookup, KeepsOthers}
use Rattle.std.proofs.lemmas.Bool.{false_from_ne_true}
use Rattle.std.proofs.lemmas.Cmp.{eq_by_cmp_equiv}
use Rattle.std.proofs.lemmas.Map.Text.{is_eq-slice_cmp}
use Rattle.pg_client.specs.View.{value_of}

apart : (bs cs ks : List ℕ) → bytes_eq bs cs ≡ false → is_eq (slice_cmp nat_cmp bs ks) ≡ true → is_eq (slice_cmp nat_cmp cs ks) ≡ false
apart bs cs ks other this = false_from_ne_true (is_eq (slice_cmp nat_cmp cs ks)) (λ e.
    let k : bs ≡ ks = (bytes_decides bs ks).0 (sym (is_eq-slice_cmp bs ks) ∙ this) in
    let l : cs ≡ ks = (bytes_decides cs ks).0 (sym (is_eq-slice_cmp cs ks) ∙ e) in
    let same : bytes_eq bs cs ≡ true = (bytes_decides bs cs).1 (k ∙ sym l) in cc)

module _ {K : Type 0} (items : K → List ℕ) where
  -- whether a key is this name
  abbrev is_name : List ℕ → K → Bool
  is_name name k = is_eq (slice_cmp nat_cmp name (items k))

  -- a map's entries as names and values
  abbrev named : List (K × List ℕ) → List (List ℕ × List ℕ)
  named es = map (λ e. (items e.0, e.1)) es

  pub looked_up : (name : List ℕ) (es : List (K × List ℕ)) → lookup (is_name name) es ≡ value_of name (named es)
  looked_up name [] = refl
  looked_up name (e ∷ es) =
      ap (λ (b : Bool). cond b (Some e.1) (lookup (is_name name) es)) (is_eq-slice_cmp name (items e.0))
      ∙ ap (cond (bytes_eq name (items e.0)) (Some e.1)) (looked_up name es)

  others : (old new : List (K × List ℕ)) (bs cs : List ℕ) → KeepsOthers (eq_by_cmp (λ x y. slice_cmp nat_cmp (items x) (items y))) (is_name bs) old new → bytes_eq bs cs ≡ false → lookup (is_name cs) new ≡ lookup (is_name cs) old
  unfolding KeepsOthers
  others old new bs cs h other = h (is_name cs) (λ x y. (eq_by_cmp_equiv nat_list_cmp_total).congr cs (items x) (items y)) (λ k. apart bs cs (items k) other)

  pub updated : (old new : List (K × List ℕ)) (bs : List ℕ) (w : Option (List ℕ)) → lookup (is_name bs) new ≡ w → KeepsOthers (eq_by_cmp (λ x y. slice_cmp nat_cmp (items x) (items y))) (is_name bs) old new
      → (cs : List ℕ) → value_of cs (named new) ≡ cond (bytes_eq bs cs) w (value_of cs (named old))
  updated old new bs w here keeps cs = by (bytes_eq bs cs) refl
    where
      by : (b : Bool) → bytes_eq bs cs ≡ b → value_of cs (named new) ≡ cond b w (value_of cs (named old))
      by true e = sym (looked_up cs new) ∙ subst (λ (l : List ℕ). lookup (is_name l) new ≡ w) ((bytes_decides bs cs).0 e) here
      by false e = sym (looked_up cs new) ∙ others old new bs cs keeps e ∙ looked_up cs old
