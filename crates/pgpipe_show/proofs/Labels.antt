-- What is said of labels that are written and counted.
use Rattle.std.proofs.Common.{◌≡◌, ℕ, List, [], ◌++◌, Result, Ok, Err, sym, ap, subst, ◌∙◌}
use Rattle.std.specs.Prelude.{OnOk}
use Rattle.pgpipe_show.specs.Counts.{SummaryState, counted}

-- a label that was appended to nothing
pub label_written : {A E : Type 0} (IsText : List ℕ → Type 0) (r : Result A E) (old new : List ℕ) → old ≡ [] → OnOk r ((t : List ℕ) × IsText t × (new ≡ old ++ t)) → OnOk r (IsText new)
label_written IsText (Ok x) old new none h = subst IsText (sym (h.2 ∙ ap (λ (l : List ℕ). l ++ h.0) none)) h.1
label_written IsText (Err x) old new none h = tt

-- a frame that was counted under its label
pub label_counted : {A E : Type 0} (IsText : List ℕ → Type 0) (r : Result A E) (size long : ℕ) (label : List ℕ) (old new : SummaryState) → size ≡ long → IsText label → OnOk r (new ≡ counted label size old) → OnOk r ((t : List ℕ) × IsText t × (new ≡ counted t long old))
label_counted IsText (Ok x) size long label old new same is e = (label, is, e ∙ ap (λ (n : ℕ). counted label n old) same)
label_counted IsText (Err x) size long label old new same is e = tt

-- a text of some kind was put
pub text_put : {A E : Type 0} (IsText : List ℕ → Type 0) (r : Result A E) (old new text : List ℕ) → IsText text → OnOk r (new ≡ old ++ text) → OnOk r ((t : List ℕ) × IsText t × (new ≡ old ++ t))
text_put IsText (Ok x) old new text is e = (text, is, e)
text_put IsText (Err x) old new text is e = tt
