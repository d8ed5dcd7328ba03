use Rattle.pg_wire.proofs.Cuts.{one_cut}
use Rattle.pg_wire.proofs.laws.one_cut.Goals as goal

pub returns : goal.returns
returns c = one_cut
