use Rattle.std.proofs.Common.{drop, slice_index, refl}
use Rattle.pgpipe_frames.specs.Other.{front_name}
use Rattle.pgpipe_frames.specs.Json.Frontend.{front_called}
use Rattle.pgpipe_show.proofs.Labels.{text_put}
use Rattle.pgpipe_show.specs.Labels.{IsFrontLabel, label_or}
use Rattle.pgpipe_show.proofs.summary.label.put_front.Goals as goal

pub returns : goal.returns
returns c =
    let frame = c.args.frame.now in
    let read = c.in_ok-read.read in
    text_put (IsFrontLabel frame) c.put_read_front.result c.args.label.now.items c.put_read_front.new.label.items (label_or front_called (front_name (slice_index frame 0) (drop 5 frame)) read) (read, c.in_ok-read.ensures, refl) c.put_read_front.ensures
