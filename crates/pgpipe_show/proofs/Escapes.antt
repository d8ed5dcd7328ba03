-- What is left without escapes.
use Rattle.std.proofs.Common.{◌≡◌, ◌≢◌, ◌==◌, ◌&&◌, not, ℕ, Bool, true, false, cond, List, [], ◌∷◌, ◌++◌, refl, ap, ◌∙◌}
use Rattle.std.specs.List.{AllByRecursion}
use borrow.Author.Tests.{ne_eqb}
use Rattle.pgpipe_show.specs.declared.color.part.LinePart.{LinePart}
use Rattle.pgpipe_show.specs.declared.color.part.LinePart.TheVariants.{Start, ErrorName, Name, Rest, ErrorRest}
use Rattle.pgpipe_show.specs.ColoredPart.{colored, cyan, ends_word, escape, next, red, reset}
use Rattle.pgpipe_show.specs.ColoredText.{without_escapes}

either : (test : Bool) (x y text : List ℕ) → without_escapes false (x ++ text) ≡ without_escapes false text → without_escapes false (y ++ text) ≡ without_escapes false text → without_escapes false (cond test x y ++ text) ≡ without_escapes false text
either true x y text of_x of_y = of_x
either false x y text of_x of_y = of_y

-- the escape before a byte is taken out
passes : (part : LinePart) (b : ℕ) (text : List ℕ) → without_escapes false (escape part b ++ text) ≡ without_escapes false text
passes Start b text = either (ends_word b) [] cyan text refl refl
passes (ErrorName n) b text =
    either (not (ends_word b)) [] _ text refl (either ((n == 13) && not (b == 10)) (reset ++ red) reset text refl refl)
passes Name b text = either (ends_word b) reset [] text refl refl
passes Rest b text = refl
passes ErrorRest b text = either (b == 10) reset [] text refl refl

pub taken_out : (part : LinePart) (text : List ℕ) → AllByRecursion (λ b. b ≢ 27) text → without_escapes false (colored part text) ≡ text
unfolding colored
taken_out part [] none = refl
taken_out part (b ∷ text) none =
    passes part b (b ∷ colored (next part b) text) ∙ rw (ne_eqb b 27 none.0) (ap (λ (l : List ℕ). b ∷ l) (taken_out (next part b) text none.1))
