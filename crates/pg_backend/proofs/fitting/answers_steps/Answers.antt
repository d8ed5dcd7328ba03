use Rattle.std.proofs.Common.{◌≡◌, ◌⊎◌, inl, inr, ℕ, ◌<◌, ◌≤◌, length, Bool, true, sym, refl, ◌∙◌, arith}
use Rattle.pg_backend.proofs.Machine.StepsAnswered.{too_many, too_few, stops_at, goes_past, all_answer}
use Rattle.pg_backend.proofs.fitting.answers_steps.Goals as goal

pub returns-then-parts-steps : goal.returns-then-parts-steps
returns-then-parts-steps c = sym (too_many c.args.error c.args.steps.now c.args.parts.now c.if-parts-steps.true)

pub returns-then-not-error : goal.returns-then-not-error
returns-then-not-error c = rw c.if-not-error.true (sym (too_few c.args.steps.now c.args.parts.now c.if-parts-steps-2.true))

pub loop-i-init : goal.loop-i-init
loop-i-init c = refl

pub returns-then-not-answers_step : goal.returns-then-not-answers_step
returns-then-not-answers_step c =
    let has_step : c.loop-i.i < length c.args.steps.now = omega arith in
    stops_at c.args.error _ c.args.steps.now c.args.parts.now c.loop-i.i c.index-steps-i.result c.index-parts-i.result has_step c.loop-i-test.true c.index-steps-i.is c.index-parts-i.is
    (sym c.answers_step.ensures ∙ c.if-not-answers_step.true) c.loop-i.invariant

pub loop-i-preserved : goal.loop-i-preserved
loop-i-preserved c =
    let has_step : c.loop-i.i < length c.args.steps.now = omega arith in
    goes_past c.args.error _ c.args.steps.now c.args.parts.now c.loop-i.i c.index-steps-i.result c.index-parts-i.result has_step c.loop-i-test.true c.index-steps-i.is c.index-parts-i.is
    (sym c.answers_step.ensures ∙ c.if-not-answers_step.false) c.loop-i.invariant

enough : (e : Bool) (m n : ℕ) → ((m < n) × (e ≡ true)) ⊎ (n ≤ m) → m < n → e ≡ true
enough e m n (inl h) lt = h.1
enough e m n (inr h) lt = absurd (omega arith)

pub returns : goal.returns
returns c = all_answer c.args.error _ c.args.steps.now c.args.parts.now c.loop-i.i c.loop-i-test.false c.loop-i.auto.i-end c.if-parts-steps.false
    (enough c.args.error (length c.args.parts.now) (length c.args.steps.now) c.else-parts-steps-2.either) c.loop-i.invariant
