use Rattle.pg_wire.proofs.Packets.{one_fault}
use Rattle.pg_wire.proofs.laws.one_packet_fault.Goals as goal

pub returns : goal.returns
returns c = one_fault
