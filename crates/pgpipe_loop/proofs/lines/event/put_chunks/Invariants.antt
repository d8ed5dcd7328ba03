use Rattle.std.proofs.Common.{◌≡◌, length}
use Rattle.pgpipe_loop.specs.Lines.{loaded_rows_of}
use Rattle.pgpipe_loop.specs.Private.Lines.{with_rows}
use Rattle.pgpipe_loop.proofs.lines.event.put_chunks.Given as goal

abbrev pub invariant-loop-rest : goal.invariant-loop-rest
invariant-loop-rest l = with_rows l.lines (loaded_rows_of (length l.rest) l.number l.rest) ≡ with_rows l.initial.lines (loaded_rows_of (length l.chunks) l.number l.chunks)

abbrev pub decreases-loop-rest : goal.decreases-loop-rest
decreases-loop-rest l = length l.rest
