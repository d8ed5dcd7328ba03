use Rattle.std.proofs.Common.{rules}
use Rattle.pgpipe_show.proofs.Tables.{aligned_put}
use Rattle.pgpipe_show.proofs.summary.table.put_aligned.Goals as goal

pub returns : goal.returns
returns c = aligned_put c.extend_from_slice-2.result c.args.number c.min.result c.args.text.now.items c.extend_from_slice.new.self.items c.extend_from_slice-2.new.self.items c.split_at.result.1.now c.as_bytes-digits.result.now (search rules) (search rules) c.split_at.ensures.back c.in_ok-extend_from_slice.ensures.items c.extend_from_slice-2.ensures.items
