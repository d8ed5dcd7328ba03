use Rattle.std.proofs.Common.{◌≡◌, ◌∷◌, List, ap, arith, inr, length, subst, sym}
use Rattle.std.specs.Vec.Iter.{into_iter_items}
use Rattle.pg_pair.specs.declared.event.Event.{Event}
use Rattle.pg_pair.specs.Event.{Ran}
use Rattle.pg_pair.proofs.pair.Pair.run.Goals as goal

pub loop-event-preserved : goal.loop-event-preserved
loop-event-preserved g c =
    let steps : into_iter_items c.loop-event.event-iterator ≡ c.in-Some.event ∷ into_iter_items c.next.new.self = c.in-Some.ensures.steps.0 in
    record {
      ran = λ result q later. c.loop-event.invariant.ran result q
          (subst (λ (es : List Event). Ran g.C.Carry.carries es c.loop-event.self result q) (sym steps) (inr (c.in_default.ensures.passes.0, c.pass.new.self, c.in_default.ensures.passes.1, later)));
      counted = let fewer = c.in-Some.ensures.steps.1 in let was = c.loop-event.invariant.counted in let one = ap length steps in omega arith;
      headline = c.pass.ensures.headline;
    }
