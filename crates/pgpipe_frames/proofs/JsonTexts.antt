-- What is said of objects that were made, and of texts that were appended.
use Rattle.std.proofs.Common.{◌≡◌, ℕ, List, ◌++◌, Result, Ok, Err, sym, subst}
use Rattle.std.specs.Prelude.{cond, is_ok, IfOk, OnOk}
use Rattle.serde_json.specs.Data.{Data}
use Rattle.serde_json.specs.View.{view}
use Rattle.serde_json.specs.declared.value.Value.{Value}

-- an object of some kind was made
pub json_made : {E : Type 0} (IsJson : Data → Type 0) (r : Result Value E) (d : Data) → IsJson d → IfOk r (λ v. view v ≡ d) → IfOk r (λ v. IsJson (view v))
json_made IsJson (Ok v) d is e = subst IsJson (sym e) is
json_made IsJson (Err x) d is e = tt

-- a text of some kind was appended
pub appended : {A E : Type 0} (IsText : List ℕ → Type 0) (r : Result A E) (old new text : List ℕ) → IsText text → new ≡ cond (is_ok r) (old ++ text) old → OnOk r ((t : List ℕ) × IsText t × (new ≡ old ++ t))
appended IsText (Ok x) old new text is e = (text, is, e)
appended IsText (Err x) old new text is e = tt
