use Rattle.std.proofs.Common.{take}
use Rattle.pgpipe_loop.specs.Everywhere.{FillsIn}
use Rattle.pgpipe_loop.proofs.run_loop.everywhere.fill_in.Given as goal

-- the files so far stand in their places
abbrev pub invariant-loop-bytes : goal.invariant-loop-bytes
invariant-loop-bytes l = FillsIn l.fn.calls (take l.bytes-index l.named) l.calls
