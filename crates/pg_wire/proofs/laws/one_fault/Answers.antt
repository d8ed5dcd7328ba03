use Rattle.pg_wire.proofs.Rests.{one_fault}
use Rattle.pg_wire.proofs.laws.one_fault.Goals as goal

pub returns : goal.returns
returns g c = one_fault g.M.Message.direction
