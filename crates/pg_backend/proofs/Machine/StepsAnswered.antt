-- Whether parts answer steps, one after the other.
use Rattle.std.proofs.Common.{◌≡◌, ℕ, ◌+◌, ◌<◌, ◌≤◌, add-one, length, get_or, drop, Bool, true, false, ◌&&◌, List, [], ◌∷◌, refl, ap, ◌∙◌, sym, arith, drop-cons, length-drop}
use Rattle.std.proofs.lemmas.List.{drop_all}
use Rattle.pg_wire.specs.declared.session.Step.{Step}
use Rattle.pg_backend.specs.declared.script.ScriptPart.{ScriptPart}
use Rattle.pg_backend.specs.Fitting.{answers_step, answers_steps}

and_false : (b : Bool) → (b && false) ≡ false
and_false true = refl
and_false false = refl

-- more parts than steps
pub too_many : (e : Bool) (steps : List Step) (parts : List ScriptPart) → length steps < length parts → answers_steps e steps parts ≡ false
too_many e [] [] h = absurd (omega arith)
too_many e [] (p ∷ ps) h = refl
too_many e (s ∷ ss) [] h = absurd (omega arith)
too_many e (s ∷ ss) (p ∷ ps) h = ap (λ b. answers_step s p && b) (too_many e ss ps (omega arith)) ∙ and_false (answers_step s p)

-- fewer parts than steps, and no error
pub too_few : (steps : List Step) (parts : List ScriptPart) → length parts < length steps → answers_steps false steps parts ≡ false
too_few [] [] h = absurd (omega arith)
too_few [] (p ∷ ps) h = absurd (omega arith)
too_few (s ∷ ss) [] h = refl
too_few (s ∷ ss) (p ∷ ps) h = ap (λ b. answers_step s p && b) (too_few ss ps (omega arith)) ∙ and_false (answers_step s p)

-- the step and the part at the beginning of what is left
pub at_place : (e : Bool) (steps : List Step) (parts : List ScriptPart) (i : ℕ) (s : Step) (p : ScriptPart) → i < length steps → i < length parts → s ≡ get_or steps i s → p ≡ get_or parts i p
    → answers_steps e (drop i steps) (drop i parts) ≡ (answers_step s p && answers_steps e (drop (i + 1) steps) (drop (i + 1) parts))
at_place e steps parts i s p h k is at =
    rw (drop-cons steps i s h, drop-cons parts i p k, ← is, ← at, add-one) refl

-- each part has answered its step
pub at_end : (e : Bool) (steps : List Step) (n : ℕ) → n ≤ length steps → (n < length steps → e ≡ true) → answers_steps e (drop n steps) [] ≡ true
at_end e steps n h k = at_rest e (drop n steps) (λ lt. k (omega (arith, length-drop n steps)))
  where
    at_rest : (e : Bool) (steps : List Step) → (0 < length steps → e ≡ true) → answers_steps e steps [] ≡ true
    at_rest e [] k = refl
    at_rest e (s ∷ ss) k = k (omega arith)

-- a part that doesn't answer its step
pub stops_at : (e b : Bool) (steps : List Step) (parts : List ScriptPart) (i : ℕ) (s : Step) (p : ScriptPart) → i < length steps → i < length parts → s ≡ get_or steps i s → p ≡ get_or parts i p
    → answers_step s p ≡ false → b ≡ answers_steps e (drop i steps) (drop i parts) → false ≡ b
stops_at e b steps parts i s p h k is at no_answer so_far = sym (so_far ∙ at_place e steps parts i s p h k is at ∙ ap (λ x. x && answers_steps e (drop (i + 1) steps) (drop (i + 1) parts)) no_answer)

-- a part that answers its step
pub goes_past : (e b : Bool) (steps : List Step) (parts : List ScriptPart) (i : ℕ) (s : Step) (p : ScriptPart) → i < length steps → i < length parts → s ≡ get_or steps i s → p ≡ get_or parts i p
    → answers_step s p ≡ true → b ≡ answers_steps e (drop i steps) (drop i parts) → b ≡ answers_steps e (drop (i + 1) steps) (drop (i + 1) parts)
goes_past e b steps parts i s p h k is at answers so_far = so_far ∙ at_place e steps parts i s p h k is at ∙ ap (λ x. x && answers_steps e (drop (i + 1) steps) (drop (i + 1) parts)) answers

-- no part is left
pub all_answer : (e b : Bool) (steps : List Step) (parts : List ScriptPart) (i : ℕ) → length parts ≤ i → i ≤ length parts → length parts ≤ length steps → (length parts < length steps → e ≡ true)
    → b ≡ answers_steps e (drop i steps) (drop i parts) → true ≡ b
all_answer e b steps parts i h k within enough so_far =
    sym (so_far ∙ ap (λ l. answers_steps e (drop i steps) l) (drop_all i parts h) ∙ at_end e steps i (omega arith) (λ lt. enough (omega arith)))
