use Rattle.std.proofs.Common.{subst, ap, sym, ◌∙◌}
use Rattle.std.proofs.Math.Logic.{∥∥₁_map}
use Rattle.pg_pair.specs.declared.carry.Way.TheVariants.{ToClient}
use Rattle.pg_pair.specs.Breaking.{Breaks, is_closed_client}
use Rattle.pg_pair.specs.View.{PairView}
use Rattle.pg_pair.proofs.Breaking.{keeps_client_told, keeps_marked, breaks_client, client_told}
use Rattle.pg_pair.specs.Private.Inside.{view_of}
use Rattle.pg_pair.proofs.pair.Pair.break_off_client.Goals as goal

pub invariant_of-self : goal.invariant_of-self
invariant_of-self g c = (∥∥₁_map c.self.invariant.0 (keeps_marked (view_of c.self.inside)), c.self.invariant.1)

pub invariant_of-self-2 : goal.invariant_of-self-2
invariant_of-self-2 g c =
    (∥∥₁_map c.self.invariant.0 (keeps_client_told (view_of c.self.inside) c.lost.new.self c.lost.result c.lost.ensures), c.self.invariant.1)

pub returns : goal.returns
returns g c =
    subst (λ (p : PairView g.row.C.Denot). Breaks ToClient p (client_told (view_of c.self.inside) c.lost.new.self c.lost.result)) c.self.view_is
    (breaks_client (view_of c.self.inside) c.lost.new.self c.lost.result
    (ap is_closed_client (sym c.phase.ensures) ∙ sym c.is_closed_client-was_closed.ensures ∙ c.if-was_closed.false)
    c.lost.ensures)
