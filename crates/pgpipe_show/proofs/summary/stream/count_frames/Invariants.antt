use Rattle.std.proofs.Common.{ℕ, List, length}
use Rattle.pgpipe_show.specs.Summary.{IsSummedUp}
use Rattle.pgpipe_show.proofs.summary.stream.count_frames.Given as goal

-- the frames that were taken off are counted
abbrev pub invariant-frames : goal.invariant-frames
invariant-frames l = (bytes : List ℕ) → IsSummedUp l.front bytes l.initial.summary l.initial.frames.next l.initial.frames.kept → IsSummedUp l.front bytes l.summary l.frames.next l.frames.kept

abbrev pub decreases-frames : goal.decreases-frames
decreases-frames l = length l.frames.kept
