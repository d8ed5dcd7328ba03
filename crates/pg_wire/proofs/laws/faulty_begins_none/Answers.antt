use Rattle.pg_wire.proofs.Rests.{faulty_begins_none}
use Rattle.pg_wire.proofs.laws.faulty_begins_none.Goals as goal

pub returns : goal.returns
returns g c = faulty_begins_none g.M.Message.direction
