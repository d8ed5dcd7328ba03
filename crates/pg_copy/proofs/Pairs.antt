-- How many bytes lines have that a return and a newline end.
use Rattle.std.proofs.Common.{◌≡◌, ℕ, zero, suc, ◌+◌, ◌<◌, List, [], ◌∷◌, ◌++◌, length, refl, ◌∙◌, arith}
use Rattle.std.proofs.lemmas.List.{length-append}
use Rattle.pg_copy_text.specs.Text.{newline, carriage_return}
use Rattle.pg_copy_text.specs.TextLine.{ArePairs, one, lone, more}
use Rattle.pg_copy_text.specs.TextReader.{lines_size}

pub size-more : (end n : ℕ) (p : List ℕ) (ps : List (List ℕ)) → 0 < length ps → lines_size end (suc n) (p ∷ ps) ≡ length p + end + lines_size end n ps
size-more end n p [] lt = absurd (omega arith)
size-more end n p (q ∷ ps) lt = refl

pairs-some : (bytes : List ℕ) (ps : List (List ℕ)) → ArePairs bytes ps → 0 < length ps
pairs-some _ _ (one p u) = omega arith
pairs-some _ _ (lone p u) = omega arith
pairs-some _ _ (more p rest qs u h) = omega arith

pub pairs-size : (n : ℕ) (bytes : List ℕ) (ps : List (List ℕ)) → ArePairs bytes ps → length bytes < n → lines_size 2 n ps ≡ length bytes
pairs-size zero bytes ps h lt = absurd (omega (arith, lt))
pairs-size (suc n) _ _ (one p u) lt = refl
pairs-size (suc n) _ _ (lone p u) lt = refl
pairs-size (suc n) _ _ (more p rest qs u h) lt =
    let len : length (p ++ carriage_return ∷ newline ∷ rest) ≡ length p + suc (suc (length rest)) = length-append p (carriage_return ∷ newline ∷ rest) in
    let later : lines_size 2 n qs ≡ length rest = pairs-size n rest qs h (omega (arith, lt, len)) in
    size-more 2 n p qs (pairs-some rest qs h) ∙ omega (arith, later, len)
