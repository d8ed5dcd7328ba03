use Rattle.std.proofs.Common.{◌≡◌, false}
use Rattle.test_programs.proofs.copy_files.looped.fault_after.Given as goal

abbrev pub invariant-loop-fault : goal.invariant-loop-fault
invariant-loop-fault g l = g.R.CopyReader.has_ended l.reader ≡ false

abbrev pub decreases-loop-fault : goal.decreases-loop-fault
decreases-loop-fault g l = g.R.CopyReader.kept l.reader
