use Rattle.std.proofs.Common.{true, Some, None, refl}
use Rattle.pgpipe_frames.specs.declared.next.NextFrame.TheVariants as next
use Rattle.pgpipe_show.specs.FrameLines.{IsHexLine}
use Rattle.pgpipe_show.proofs.Framings.{line_put}
use Rattle.pgpipe_show.proofs.frame_lines.put_first.Goals as goal

pub returns-in-Ok-Some : goal.returns-in-Ok-Some
returns-in-Ok-Some g c = line_put g.K.Sink.takes g.K.Sink.failures c.args.outbox.now c.args.sink.now (IsHexLine true next.Packet c.args.frame.now) _ (Some c.in-Ok-Some.packet, rw c.in-Ok-Some.field-0-is at c.in-Ok-Some.ensures, refl) c.put_packet.result c.put_packet.new.outbox c.put_packet.new.sink c.put_packet.ensures

pub returns-in-Ok-None : goal.returns-in-Ok-None
returns-in-Ok-None g c = line_put g.K.Sink.takes g.K.Sink.failures c.args.outbox.now c.args.sink.now (IsHexLine true next.Packet c.args.frame.now) _ (None, rw c.in-Ok-None.field-0-is at c.in-Ok-None.ensures, refl) c.put_other_packet.result c.put_other_packet.new.outbox c.put_other_packet.new.sink c.put_other_packet.ensures
