use Rattle.std.proofs.Common.{refl}
use Rattle.pgpipe_texts.specs.Backend.{back_text}
use Rattle.pgpipe_frames.specs.FrameText.{IsBackText, text_or}
use Rattle.pgpipe_frames.specs.Other.{other_back}
use Rattle.pgpipe_texts.proofs.Texts.{text_put}
use Rattle.pgpipe_frames.proofs.frame_text.put_whole_back.Goals as goal

pub returns : goal.returns
returns c =
    let frame = c.args.frame.now in
    let read = c.in_ok-read.read in
    text_put (IsBackText frame) c.put_read_back.result c.args.line.now.items c.put_read_back.new.line.items (text_or back_text (other_back frame) read) (read, c.in_ok-read.ensures, refl) c.put_read_back.ensures
