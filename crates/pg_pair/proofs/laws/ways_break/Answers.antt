use Rattle.pg_pair.proofs.Ways.{ways_break}
use Rattle.pg_pair.proofs.laws.ways_break.Goals as goal

pub returns : goal.returns
returns g c = ways_break g.C.Carry.carries
