use Rattle.pg_wire.proofs.Packets.{one_packet}
use Rattle.pg_wire.proofs.laws.one_packet.Goals as goal

pub returns : goal.returns
returns c = one_packet
