use Rattle.pg_wire.proofs.Streams.{one_spelling}
use Rattle.pg_wire.proofs.laws.one_spelling.Goals as goal

pub returns : goal.returns
returns g c = one_spelling g.M.Message.direction c.one_to_one.ensures
