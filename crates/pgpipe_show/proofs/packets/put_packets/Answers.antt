use Rattle.std.proofs.Common.{refl, sym}
use Rattle.std.proofs.lemmas.Result.{err_from_is_err_and}
use Rattle.pgpipe_show.proofs.PacketLines.{is_no_packet, at_fault, at_last, at_more, at_stop}
use Rattle.pgpipe_show.proofs.packets.put_packets.Goals as goal

pub returns-in_err-put_packet-in-Ok-Some-clause-puts : goal.returns-in_err-put_packet-in-Ok-Some-clause-puts
returns-in_err-put_packet-in-Ok-Some-clause-puts g c =
    let i = c.loop-packet.invariant in
    let p = err_from_is_err_and c.from_residual.result c.from_residual.ensures.1 in
    rw (p.1, p.2) (at_stop g.K.Sink.takes g.K.Sink.failures c.args.outbox.now c.args.sink.now c.args.first.now.kept c.loop-packet.first c.loop-packet.outbox c.loop-packet.sink i.0 i.1 i.2 c.in-Ok-Some.field-0 c.next.new.self c.in-Ok-Some.packet c.in-Ok-Some.field-0-is c.in-Ok-Some.ensures.call c.in_err-put_packet-in-Ok-Some.field-0.0 c.put_packet.new.outbox c.put_packet.new.sink c.in_err-put_packet-in-Ok-Some.ensures)

pub loop-packet-preserved : goal.loop-packet-preserved
loop-packet-preserved g c =
    let i = c.loop-packet.invariant in
    at_more g.K.Sink.takes g.K.Sink.failures c.args.outbox.now c.args.sink.now c.args.first.now.kept c.loop-packet.first c.loop-packet.outbox c.loop-packet.sink i.0 i.1 i.2 c.in-Ok-Some.field-0 c.next.new.self c.in-Ok-Some.packet c.in-Ok-Some.field-0-is c.in-Ok-Some.ensures.call c.put_packet.new.outbox c.put_packet.new.sink (sym c.in-Packet.ensures) c.in_ok-put_packet-in-Ok-Some.ensures

pub returns-in-Message : goal.returns-in-Message
returns-in-Message g c =
    let i = c.loop-packet.invariant in
    record {
      puts = at_last g.K.Sink.takes g.K.Sink.failures c.args.outbox.now c.args.sink.now c.args.first.now.kept c.loop-packet.first c.loop-packet.outbox c.loop-packet.sink i.0 i.1 i.2 c.in-Ok-Some.field-0 c.next.new.self c.in-Ok-Some.packet c.in-Ok-Some.field-0-is c.in-Ok-Some.ensures.call c.after_packet-next.result c.put_packet.new.outbox c.put_packet.new.sink c.after_packet-next.ensures (λ e. is_no_packet c.after_packet-next.result c.in-Message.is e) c.in_ok-put_packet-in-Ok-Some.ensures;
      source = refl;
    }

pub returns-in-Err-clause-puts : goal.returns-in-Err-clause-puts
returns-in-Err-clause-puts g c =
    let i = c.loop-packet.invariant in
    rw c.fault_stop.ensures (at_fault g.K.Sink.takes g.K.Sink.failures c.args.outbox.now c.args.sink.now c.args.first.now.kept c.loop-packet.first c.loop-packet.outbox c.loop-packet.sink i.0 i.1 i.2 c.in-Err.fault c.next.new.self c.in-Err.ensures.call)
