use Rattle.std.proofs.Common.{◌<◌, arith, length}
use Rattle.std.proofs.lemmas.Grind.{common_steps}
use Rattle.pgpipe_files.specs.Filling.{chunk_lines}
use Rattle.pgpipe_files.proofs.Files.{chunk_more}
use Rattle.pgpipe_files.proofs.calls_file.chunk_lines.Goals as goal

pub loop-rest-preserved : goal.loop-rest-preserved
loop-rest-preserved c =
    let lt : 0 < length c.loop-rest.rest.now = grind (arith, common_steps) in
    chunk_more c.loop-rest.lines.items c.push.new.self.items (chunk_lines (length c.args.bytes.now) c.args.bytes.now) c.min.result c.loop-rest.rest.now c.split_at.result.0.now c.split_at.result.1.now
    lt c.min.ensures c.split_at.ensures.front c.split_at.ensures.back (grind (arith, common_steps)) c.loop-rest.invariant
