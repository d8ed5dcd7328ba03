use Rattle.std.proofs.Common.{◌≡◌, ◌<◌, ◌∙◌, arith, length}
use Rattle.std.proofs.lemmas.Grind.{common_steps}
use Rattle.pgpipe_loop.specs.Trace.{first_size, sent_rows}
use Rattle.pgpipe_loop.specs.Private.Lines.{with_rows}
use Rattle.pgpipe_loop.proofs.Sending.{message_put, size_is}
use Rattle.pgpipe_loop.proofs.lines.trace.put_sent_lines.Goals as goal

pub loop-rest-preserved : goal.loop-rest-preserved
loop-rest-preserved c =
    let l = c.loop-rest in
    let lt : 0 < length l.rest.now = grind (arith, common_steps) in
    let size : c.unwrap_or-size.result ≡ first_size l.before l.rest.now = c.unwrap_or-size.ensures ∙ size_is l.before l.rest.now c.whole_size.result c.whole_size.ensures in (
      message_put l.lines c.put_sent_line.new.lines (with_rows c.args.lines.now (sent_rows (length c.args.bytes.now) c.args.way c.args.lead c.args.bytes.now)) c.args.way l.before c.unwrap_or-size.result
          l.rest.now c.split_at.result.0.now c.split_at.result.1.now lt size c.split_at.ensures.front c.split_at.ensures.back c.in_ok-put_sent_line.ensures l.invariant.0,
      omega arith,
    )
