-- Lemmas on lists that an iterator gives.
use Rattle.std.proofs.Common.{◌≡◌, List, [], ◌∷◌, ◌++◌, append-nil, length, refl, sym, ap, ◌∙◌, arith}
use Rattle.std.specs.Iterator.{Yields}
use Rattle.std.specs.Vec.Iter.{into_iter_items, into_iter_len, into_iter_steps}
use Rattle.std.specs.declared.vec.IntoIter.{IntoIter}

nil_is : {A : Type 0} (xs : List A) → length xs ≡ 0 → xs ≡ []
nil_is [] e = refl
nil_is (x ∷ xs) e = absurd (omega arith)

given_first : {X Z : Type 0} (s t : IntoIter X Z) (xs : List X) → Yields into_iter_steps s xs t → into_iter_items s ≡ xs ++ into_iter_items t
given_first s t [] y = ap into_iter_items y
given_first s t (x ∷ xs) y = y.1.0 ∙ ap (λ ys. x ∷ ys) (given_first y.0 t xs y.2)

-- what an iterator has given, where none is left, is all that it had
pub all-given : {X Z : Type 0} (s t : IntoIter X Z) (xs : List X) → Yields into_iter_steps s xs t → into_iter_len t ≡ length (into_iter_items t) → into_iter_len t ≡ 0 → into_iter_items s ≡ xs
all-given s t xs y len none =
    given_first s t xs y ∙ ap (λ ys. xs ++ ys) (nil_is (into_iter_items t) (sym len ∙ none)) ∙ append-nil xs
