use Rattle.pg_wire.proofs.Streams.{round_trip}
use Rattle.pg_wire.proofs.laws.round_trip.Goals as goal

pub returns : goal.returns
returns g c = round_trip g.M.Message.direction c.one_to_one.ensures
