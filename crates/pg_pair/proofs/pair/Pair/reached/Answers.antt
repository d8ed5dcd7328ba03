use Rattle.std.proofs.Common.{◌≤◌, length, subst, sym}
use Rattle.pg_pair.specs.declared.carry.Way.{Way}
use Rattle.pg_pair.specs.declared.carry.Way.TheVariants.{ToBackend, ToClient}
use Rattle.pg_pair.specs.View.{PairView, way_state}
use Rattle.pg_pair.proofs.Stored.{kept_within_backend, kept_within_client}
use Rattle.pg_pair.specs.Private.Inside.{view_of}
use Rattle.pg_pair.proofs.pair.Pair.reached.Goals as goal

pub returns-in-ToBackend-clause-within : goal.returns-in-ToBackend-clause-within
returns-in-ToBackend-clause-within g c =
    subst (λ (w : Way). c.self.inside.to_backend.reached ≤ length (way_state w c.args.self.now).sent) (sym c.in-ToBackend.is)
    (subst (λ (p : PairView g.row.C.Denot). c.self.inside.to_backend.reached ≤ length (way_state ToBackend p).sent) c.self.view_is (kept_within_backend (view_of c.self.inside) c.self.invariant.0))

pub returns-in-ToClient-clause-within : goal.returns-in-ToClient-clause-within
returns-in-ToClient-clause-within g c =
    subst (λ (w : Way). c.self.inside.to_client.reached ≤ length (way_state w c.args.self.now).sent) (sym c.in-ToClient.is)
    (subst (λ (p : PairView g.row.C.Denot). c.self.inside.to_client.reached ≤ length (way_state ToClient p).sent) c.self.view_is (kept_within_client (view_of c.self.inside) c.self.invariant.0))
