use Rattle.std.proofs.Common.{refl}
use Rattle.pgpipe_frames.specs.Frames.{code}
use Rattle.pgpipe_frames.specs.Json.Other.{packet_name}
use Rattle.pgpipe_texts.specs.Json.Packet.{packet_called}
use Rattle.pgpipe_show.proofs.Labels.{text_put}
use Rattle.pgpipe_show.specs.Labels.{IsPacketLabel, label_or}
use Rattle.pgpipe_show.proofs.summary.label.put_packet.Goals as goal

pub returns : goal.returns
returns c =
    let frame = c.args.frame.now in
    let read = c.in_ok-read.read in
    text_put (IsPacketLabel frame) c.put_read_packet.result c.args.label.now.items c.put_read_packet.new.label.items (label_or packet_called (packet_name (code frame)) read) (read, c.in_ok-read.ensures, refl) c.put_read_packet.ensures
