use Rattle.std.proofs.Common.{refl}
use Rattle.pgpipe_frames.specs.Frontend.{front_text}
use Rattle.pgpipe_frames.specs.FrameText.{IsFrontText, text_or}
use Rattle.pgpipe_frames.specs.Other.{other_front}
use Rattle.pgpipe_texts.proofs.Texts.{text_put}
use Rattle.pgpipe_frames.proofs.frame_text.put_front.Goals as goal

pub returns : goal.returns
returns c =
    let frame = c.args.frame.now in
    let read = c.in_ok-read.read in
    text_put (IsFrontText frame) c.put_read_front.result c.args.line.now.items c.put_read_front.new.line.items (text_or front_text (other_front frame) read) (read, c.in_ok-read.ensures, refl) c.put_read_front.ensures
