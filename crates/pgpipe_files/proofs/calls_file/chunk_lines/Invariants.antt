use Rattle.std.proofs.Common.{◌≡◌, ◌++◌, length}
use Rattle.pgpipe_files.specs.Filling.{chunk_lines}
use Rattle.pgpipe_files.proofs.calls_file.chunk_lines.Given as goal

abbrev pub invariant-loop-rest : goal.invariant-loop-rest
invariant-loop-rest l = l.lines.items ++ chunk_lines (length l.rest) l.rest ≡ chunk_lines (length l.bytes) l.bytes

abbrev pub decreases-loop-rest : goal.decreases-loop-rest
decreases-loop-rest l = length l.rest
