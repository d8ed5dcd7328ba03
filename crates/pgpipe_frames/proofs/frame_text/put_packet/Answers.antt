use Rattle.std.proofs.Common.{refl}
use Rattle.pgpipe_texts.specs.Packet.{packet_text}
use Rattle.pgpipe_frames.specs.FrameText.{IsPacketText, text_or}
use Rattle.pgpipe_frames.specs.Other.{other_packet}
use Rattle.pgpipe_texts.proofs.Texts.{text_put}
use Rattle.pgpipe_frames.proofs.frame_text.put_packet.Goals as goal

pub returns : goal.returns
returns c =
    let frame = c.args.frame.now in
    let read = c.in_ok-read.read in
    text_put (IsPacketText frame) c.put_read_packet.result c.args.line.now.items c.put_read_packet.new.line.items (text_or packet_text (other_packet frame) read) (read, c.in_ok-read.ensures, refl) c.put_read_packet.ensures
