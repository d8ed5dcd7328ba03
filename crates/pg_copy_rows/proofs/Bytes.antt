-- When two lists of bytes are one.
use Rattle.std.proofs.Common.{◌≡◌, ℕ, Bool, true, false, ◌&&◌, eqb, List, [], ◌∷◌, refl, ap, ◌∙◌}
use Rattle.std.specs.Str.{bytes_eq}
use Rattle.std.proofs.lemmas.Bool.{eq-eqb, eqb-true}

pub same-bytes : (xs ys : List ℕ) → bytes_eq xs ys ≡ true → xs ≡ ys
same-bytes [] [] e = refl
same-bytes [] (y ∷ ys) e = absurd cc
same-bytes (x ∷ xs) [] e = absurd cc
same-bytes (x ∷ xs) (y ∷ ys) e =
    let p = and_parts (eqb x y) (bytes_eq xs ys) e in
    ap (λ (z : ℕ). z ∷ xs) (eqb-true x y p.0) ∙ ap (λ (zs : List ℕ). y ∷ zs) (same-bytes xs ys p.1)
  where
    and_parts : (s t : Bool) → (s && t) ≡ true → (s ≡ true) × (t ≡ true)
    and_parts true t f = (refl, f)
    and_parts false t f = absurd cc

pub same-again : (xs : List ℕ) → bytes_eq xs xs ≡ true
same-again [] = refl
same-again (x ∷ xs) = rw (eq-eqb x x refl) (same-again xs)

pub other-bytes : (xs ys : List ℕ) → (xs ≡ ys → ⊥) → bytes_eq xs ys ≡ false
other-bytes xs ys ne = go (bytes_eq xs ys) refl
  where
    go : (t : Bool) → bytes_eq xs ys ≡ t → t ≡ false
    go true e = absurd (ne (same-bytes xs ys e))
    go false e = refl
