use Rattle.std.proofs.Common.{take}
use Rattle.pgpipe_loop.specs.Everywhere.{AreBroken}
use Rattle.pgpipe_loop.proofs.run_loop.everywhere.LoopFiles.broken_in.Given as goal

-- the loop was broken in the places so far
abbrev pub invariant-loop-place : goal.invariant-loop-place
invariant-loop-place l = AreBroken l.cut l.self (take l.place-index l.places) l.all.items
