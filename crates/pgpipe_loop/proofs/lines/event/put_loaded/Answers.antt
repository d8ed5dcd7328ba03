use Rattle.std.proofs.Common.{◌+◌, List, ℕ, ap, length, ◌∙◌}
use Rattle.pgpipe_loop.specs.Lines.{loaded_rows_of}
use Rattle.pgpipe_loop.specs.Private.Lines.{with_rows}
use Rattle.pgpipe_loop.proofs.LineWriting.{logged_more}
use Rattle.pgpipe_loop.proofs.lines.event.put_loaded.Goals as goal

pub loop-i-preserved : goal.loop-i-preserved
loop-i-preserved c = logged_more c.args.lines.now c.loop-i.lines c.put_chunks.new.lines c.args.log.now c.loop-i.i c.index-log-i.result c.loop-i-test.true c.index-log-i.is c.loop-i.invariant
    (c.in_ok-put_chunks.ensures ∙ ap (λ (l : List (List ℕ)). with_rows c.loop-i.lines (loaded_rows_of (length l) (c.loop-i.i + 1) l)) c.as_slice.ensures)
