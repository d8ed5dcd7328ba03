use Rattle.test_programs.proofs.copy_files.looped.take_left.Given as goal

abbrev pub decreases-loop-row : goal.decreases-loop-row
decreases-loop-row g l = g.R.CopyReader.kept l.reader
