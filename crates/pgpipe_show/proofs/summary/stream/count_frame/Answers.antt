use Rattle.std.proofs.Common.{length, refl}
use Rattle.pgpipe_show.specs.Labels.{IsLabelOf}
use Rattle.pgpipe_show.proofs.Labels.{label_counted}
use Rattle.pgpipe_show.proofs.summary.stream.count_frame.Goals as goal

pub returns : goal.returns
returns c = label_counted (IsLabelOf c.args.front c.args.kind c.args.frame.now) c.add.result (length c.args.frame.now) (length c.args.frame.now) c.as_slice.result.now c.args.summary.now c.add.new.self refl (rw c.as_slice.ensures.value c.in_ok-write_label.ensures) c.add.ensures.ok
