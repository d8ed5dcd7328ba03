use Rattle.std.proofs.Math.Logic.{∥∥₁_map}
use Rattle.pg_pair.proofs.Breaking.{keeps_backend_told}
use Rattle.pg_pair.specs.Private.Inside.{view_of}
use Rattle.pg_pair.proofs.pair.Pair.break_off_backend.Goals as goal

pub invariant_of-self : goal.invariant_of-self
invariant_of-self g c =
    (∥∥₁_map c.self.invariant.0 (keeps_backend_told (view_of c.self.inside) c.lost.new.self c.lost.ensures.call c.lost.ensures.history), c.self.invariant.1)
