use Rattle.std.proofs.Common.{◌≡◌, false, length}
use Rattle.test_programs.proofs.copy_files.loops.write_waiting.Given as goal

abbrev pub invariant-loop-reader : goal.invariant-loop-reader
invariant-loop-reader l = l.reader.ended ≡ false

abbrev pub decreases-loop-reader : goal.decreases-loop-reader
decreases-loop-reader l = length l.reader.kept
