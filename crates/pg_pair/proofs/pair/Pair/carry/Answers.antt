use Rattle.std.proofs.Math.Logic.{∥∥₁_map}
use Rattle.pg_pair.proofs.Arriving.{keeps_carrier}
use Rattle.pg_pair.specs.Private.Inside.{view_of}
use Rattle.pg_pair.proofs.pair.Pair.carry.Goals as goal

pub invariant_of-self : goal.invariant_of-self
invariant_of-self g c = (∥∥₁_map c.self.invariant.0 (keeps_carrier (view_of c.self.inside) c.carry_piece.new.carrier), c.self.invariant.1)

pub invariant_of-self-in-ToClient : goal.invariant_of-self-in-ToClient
invariant_of-self-in-ToClient g c = (∥∥₁_map c.self.invariant.0 (keeps_carrier (view_of c.self.inside) c.carry_piece-in-ToClient.new.carrier), c.self.invariant.1)
