use Rattle.std.proofs.Common.{◌<◌, arith, length}
use Rattle.std.proofs.lemmas.Grind.{common_steps}
use Rattle.pgpipe_loop.specs.Lines.{loaded_rows_of}
use Rattle.pgpipe_loop.specs.Private.Lines.{with_rows}
use Rattle.pgpipe_loop.proofs.LineWriting.{chunks_put}
use Rattle.pgpipe_loop.proofs.lines.event.put_chunks.Goals as goal

pub loop-rest-preserved : goal.loop-rest-preserved
loop-rest-preserved c =
    let lt : 0 < length c.loop-rest.rest.now = grind (arith, common_steps) in
    chunks_put c.loop-rest.lines c.put_loaded_line.new.lines (with_rows c.args.lines.now (loaded_rows_of (length c.args.chunks.now) c.args.number c.args.chunks.now)) c.args.number c.min.result
    c.loop-rest.rest.now c.split_at.result.0.now c.split_at.result.1.now lt c.min.ensures c.split_at.ensures.front c.split_at.ensures.back c.in_ok-put_loaded_line.ensures c.loop-rest.invariant
