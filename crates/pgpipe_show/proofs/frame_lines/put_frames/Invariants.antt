use Rattle.std.proofs.Common.{length}
use Rattle.pgpipe_show.specs.Private.Showing.{HasPutFrames}
use Rattle.pgpipe_show.proofs.frame_lines.put_frames.Given as goal

-- the lines of the frames that were taken off are put
abbrev pub invariant-loop-frames : goal.invariant-loop-frames
invariant-loop-frames g l = HasPutFrames g.K.Sink.takes g.K.Sink.failures l.line l.front l.initial.outbox l.initial.sink l.initial.frames.next l.initial.frames.kept l.frames.next l.frames.kept l.outbox l.sink

abbrev pub decreases-loop-frames : goal.decreases-loop-frames
decreases-loop-frames g l = length l.frames.kept
