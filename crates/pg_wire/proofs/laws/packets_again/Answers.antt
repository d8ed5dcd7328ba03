use Rattle.pg_wire.proofs.Packets.{packets_again}
use Rattle.pg_wire.proofs.laws.packets_again.Goals as goal

pub returns : goal.returns
returns c = packets_again
