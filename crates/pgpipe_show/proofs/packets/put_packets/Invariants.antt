use Rattle.std.proofs.Common.{◌≡◌, false, None, length}
use Rattle.pgpipe_frames.specs.declared.next.NextFrame.TheVariants as next
use Rattle.pgpipe_show.specs.Private.Showing.{HasPutPackets}
use Rattle.pgpipe_show.proofs.packets.put_packets.Given as goal

abbrev pub invariant-loop-packet : goal.invariant-loop-packet
invariant-loop-packet g l = (l.first.ended ≡ false) × (l.first.fault ≡ None) × HasPutPackets g.K.Sink.takes g.K.Sink.failures l.initial.outbox l.initial.sink l.initial.first.kept next.Packet l.first.kept l.outbox l.sink

abbrev pub decreases-loop-packet : goal.decreases-loop-packet
decreases-loop-packet g l = length l.first.kept
