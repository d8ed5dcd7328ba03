use Rattle.pg_wire.proofs.Streams.{one_reading}
use Rattle.pg_wire.proofs.laws.one_reading.Goals as goal

pub returns : goal.returns
returns g c = one_reading g.M.Message.direction c.one_to_one.ensures
