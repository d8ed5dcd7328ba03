use Rattle.std.proofs.Common.{rules}
use Rattle.pgpipe_show.proofs.Tellings.{frame_line}
use Rattle.pgpipe_show.proofs.both.page.write_frame.Goals as goal

pub returns : goal.returns
returns c = frame_line c.args.front (record { kind = c.args.kind; bytes = c.args.frame.now }) c.extend_from_slice-2.result _ _ _ (search rules) c.in_ok-put_frame.ensures c.extend_from_slice-2.ensures.items
