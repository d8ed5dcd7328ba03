-- The files before the next one stand in their places, and their bytes are kept.
use Rattle.pgpipe_files.specs.Filling.{files}
use Rattle.pgpipe_loop.specs.Everywhere.{FillsIn}
use Rattle.pgpipe_cli.specs.LoopFiles.{Fills}
use Rattle.pgpipe_cli.proofs.loop_files.kept_named.Given as goal

abbrev pub invariant-loop-path : goal.invariant-loop-path
invariant-loop-path g l =
    record { fills : Fills (g.F.FileStore.holds l.fn.files) (g.F.FileStore.fails l.fn.files) l.fn.calls l.filled; kept : FillsIn l.fn.calls l.named l.filled }

abbrev pub decreases-loop-path : goal.decreases-loop-path
decreases-loop-path g l = files l.filled.lines
