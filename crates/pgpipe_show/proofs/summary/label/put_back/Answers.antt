use Rattle.std.proofs.Common.{slice_index, refl}
use Rattle.pgpipe_frames.specs.Other.{back_name}
use Rattle.pgpipe_show.proofs.Labels.{text_put}
use Rattle.pgpipe_show.specs.Labels.{IsBackLabel, back_label, label_or}
use Rattle.pgpipe_show.proofs.summary.label.put_back.Goals as goal

pub returns : goal.returns
returns c =
    let frame = c.args.frame.now in
    let read = c.in_ok-read.read in
    text_put (IsBackLabel frame) c.put_read_back.result c.args.label.now.items c.put_read_back.new.label.items (label_or back_label (back_name (slice_index frame 0)) read) (read, c.in_ok-read.ensures, refl) c.put_read_back.ensures
