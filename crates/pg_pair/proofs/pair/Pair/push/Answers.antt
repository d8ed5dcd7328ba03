use Rattle.std.proofs.Common.{None, subst, take}
use Rattle.std.proofs.Math.Logic.{∥∥₁_map}
use Rattle.pg_pair.specs.declared.carry.Way.TheVariants.{ToBackend}
use Rattle.pg_pair.specs.Delivering.{ArrivesAt}
use Rattle.pg_pair.specs.View.{PairView, waiting_at}
use Rattle.pg_pair.proofs.Delivering.{is_pushed, pushed_in, pushed_tied, stored_at}
use Rattle.pg_pair.specs.Private.Inside.{view_of}
use Rattle.pg_pair.proofs.pair.Pair.push.Goals as goal

pub invariant_of-self-2 : goal.invariant_of-self-2
invariant_of-self-2 g c =
    let pushed = is_pushed (view_of c.self.inside) c.args.self.now c.self.view_is c.args.count _ c.push.new.self
    c.requires.some c.requires.within c.waiting.ensures (record { stores = c.in_default.ensures.call; history = c.in_default.ensures.history }) in
    (∥∥₁_map c.self.invariant.0 (pushed_tied (view_of c.self.inside) c.args.count c.push.new.self pushed), c.self.invariant.1)

pub returns-clause-takes : goal.returns-clause-takes
returns-clause-takes g c =
    let pushed = is_pushed (view_of c.self.inside) c.args.self.now c.self.view_is c.args.count _ c.push.new.self
    c.requires.some c.requires.within c.waiting.ensures (record { stores = c.in_default.ensures.call; history = c.in_default.ensures.history }) in
    subst (λ (p : PairView g.row.C.Denot). ArrivesAt ToBackend p (take c.args.count (waiting_at ToBackend p)) None (stored_at (view_of c.self.inside) c.args.count c.push.new.self)) c.self.view_is
    (pushed_in (view_of c.self.inside) c.args.count c.push.new.self pushed)
