-- A reader of frames as its callers see it, and what its calls do.
use Rattle.std.specs.Prelude.{ℕ, Bool, true, false, List, [], take, drop, Result, Ok, Err}
use Rattle.pg_wire.specs.declared.fault.WireFault.{WireFault}
use Rattle.pgpipe_frames.specs.declared.next.NextFrame.{NextFrame}
use Rattle.pgpipe_frames.specs.declared.judge.FrameJudgement.{FrameJudgement}
use Rattle.pgpipe_frames.specs.declared.judge.FrameJudgement.TheVariants.{Open, Whole, Faulty}
use Rattle.pgpipe_frames.specs.Frames.{next_after}

-- the bytes that were pushed and not given in frames, what is next there, and the frame that was
-- given last, while it is lent
pub record FramesState : Type 0 where
  pub next : NextFrame
  pub kept : List ℕ
  pub held : List ℕ

-- what `next` returns, by what stands at the beginning of the bytes kept: whether a frame does
abbrev pub answer_of : FrameJudgement → Result Bool WireFault
answer_of Open = Ok false
answer_of (Whole size) = Ok true
answer_of (Faulty fault) = Err fault

-- what `next` leaves: a frame that it has found is taken off, and lent
abbrev pub left_by : FramesState → FrameJudgement → FramesState
left_by s Open = record s { held = [] }
left_by s (Whole size) = record {
  next = next_after s.next (take size s.kept);
  kept = drop size s.kept;
  held = take size s.kept;
}
left_by s (Faulty fault) = record s { held = [] }
