use Rattle.std.proofs.Common.{◌≡◌, false}
use Rattle.test_programs.proofs.copy_files.loops.write_rows.Given as goal

abbrev pub invariant-loop-i : goal.invariant-loop-i
invariant-loop-i l = l.reader.ended ≡ false
