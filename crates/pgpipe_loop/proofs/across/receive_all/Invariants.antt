use Rattle.std.proofs.Common.{length, take, ◌-◌, ◌≤◌}
use Rattle.pgpipe_loop.proofs.Crossing.{ReceivesSome}
use Rattle.pgpipe_loop.proofs.across.receive_all.Given as goal

abbrev pub invariant-loop-filled : goal.invariant-loop-filled
invariant-loop-filled g l =
    ReceivesSome g.S.Source.gives g.S.Source.failures g.S.Source.has_ended l.initial.source (take l.filled l.into) l.source × (l.filled ≤ length l.into)

abbrev pub decreases-loop-filled : goal.decreases-loop-filled
decreases-loop-filled g l = length l.initial.into - l.filled
