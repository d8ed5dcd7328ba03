use Rattle.pg_wire.proofs.Packets.{one_beginning}
use Rattle.pg_wire.proofs.laws.one_beginning.Goals as goal

pub returns : goal.returns
returns c = one_beginning
