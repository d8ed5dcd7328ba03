use Rattle.std.proofs.Common.{◌≡◌, false}
use Rattle.test_programs.proofs.copy_files.looped.take_waiting.Given as goal

abbrev pub invariant-loop-row : goal.invariant-loop-row
invariant-loop-row g l = g.R.CopyReader.has_ended l.reader ≡ false

abbrev pub decreases-loop-row : goal.decreases-loop-row
decreases-loop-row g l = g.R.CopyReader.kept l.reader
