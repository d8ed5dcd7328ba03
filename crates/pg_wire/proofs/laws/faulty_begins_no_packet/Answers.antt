use Rattle.pg_wire.proofs.Packets.{faulty_begins_none}
use Rattle.pg_wire.proofs.laws.faulty_begins_no_packet.Goals as goal

pub returns : goal.returns
returns c = faulty_begins_none
