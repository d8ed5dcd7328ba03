use Rattle.std.proofs.Common.{refl, subst, ap, sym, ◌∙◌}
use Rattle.std.proofs.Math.Logic.{∥∥₁_map}
use Rattle.pg_backend.specs.Backend.{phase_of}
use Rattle.pg_pair.specs.Breaking.{is_closed_backend}
use Rattle.pg_pair.specs.Stepping.{StepsUnlessClosed}
use Rattle.pg_pair.specs.View.{PairView}
use Rattle.pg_pair.proofs.Stepping.{keeps_step, steps_in, stepped}
use Rattle.pg_pair.specs.Private.Inside.{view_of}
use Rattle.pg_pair.proofs.pair.Pair.step.Goals as goal

pub invariant_of-self : goal.invariant_of-self
invariant_of-self g c =
    (∥∥₁_map c.self.invariant.0 (keeps_step c.known.ensures (view_of c.self.inside) c.step.result c.step.new.self c.step.new.out.items (record { call = c.step.ensures.call; history = c.step.ensures.history })), c.self.invariant.1)

pub returns : goal.returns
returns g c =
    subst (λ (p : PairView g.row.C.Denot). StepsUnlessClosed (phase_of p.backend.stage) p c.step_applied.result (stepped (view_of c.self.inside) c.step.new.self c.step.new.out.items)) c.self.view_is
    (steps_in (phase_of c.self.inside.backend.stage) (view_of c.self.inside) c.step_applied.result _
    (ap is_closed_backend (sym c.phase.ensures) ∙ sym c.is_closed_backend.ensures ∙ c.if-is_closed_backend.false)
    (record { answer = c.step.result; step = record { call = c.step.ensures.call; history = c.step.ensures.history }; result_is = c.step_applied.ensures; rest = refl }))
