use Rattle.pg_wire.proofs.Takings.{fault_of_next}
use Rattle.pg_wire.proofs.laws.fault_of_next.Goals as goal

pub returns : goal.returns
returns g c = fault_of_next g.M.Message.direction
