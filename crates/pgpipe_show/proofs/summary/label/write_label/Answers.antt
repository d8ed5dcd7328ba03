use Rattle.std.proofs.Common.{rules}
use Rattle.pgpipe_show.specs.Labels.{IsLabelOf}
use Rattle.pgpipe_show.proofs.Labels.{label_written}
use Rattle.pgpipe_show.proofs.summary.label.write_label.Goals as goal

pub returns : goal.returns
returns c = label_written (IsLabelOf c.args.front c.args.kind c.args.frame.now) c.put_label.result _ _ (search rules) c.put_label.ensures
