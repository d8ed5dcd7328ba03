use Rattle.std.proofs.Common.{◌-◌, arith, refl}
use Rattle.pg_wire.proofs.Packets.{packet_found, packet_wanted, packet_bad, no_packet, a_packet}
use Rattle.pg_wire.proofs.first.find.Goals as goal

pub returns-in-Ok : goal.returns-in-Ok
returns-in-Ok c = packet_found c.args.rest.now c.in-Whole.kind c.in-Whole.len (c.in-Whole.len - 8) c.in-Ok.packet (λ i. omega (arith, c.type_inv.rest i)) c.in-Whole.ensures refl c.in-Ok.ensures

pub returns-in-Err-Bad : goal.returns-in-Err-Bad
returns-in-Err-Bad c = packet_bad c.args.rest.now c.in-Whole.kind c.in-Whole.len (c.in-Whole.len - 8) c.in-Whole.ensures refl (no_packet c.in-Err-Bad.field-0 _ c.in-Err-Bad.field-0-is c.in-Err-Bad.ensures)

pub returns-in-Err-Memory : goal.returns-in-Err-Memory
returns-in-Err-Memory c = packet_wanted c.args.rest.now c.in-Whole.kind c.in-Whole.len (c.in-Whole.len - 8) (λ i. omega (arith, c.type_inv.rest i)) c.in-Whole.ensures refl (a_packet c.in-Err-Memory.field-0 _ c.in-Err-Memory.field-0-is c.in-Err-Memory.ensures)
