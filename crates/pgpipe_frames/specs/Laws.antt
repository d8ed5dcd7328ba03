-- Laws of frames, for every list of bytes.
use Rattle.std.specs.Prelude.{ℕ, ◌⊎◌, List}
use Rattle.pgpipe_frames.specs.declared.next.NextFrame.{NextFrame}
use Rattle.pgpipe_frames.specs.Frames.{Frame, AreFramed}
use mathlib.Core.List.{IsPrefix}

-- Of two readings of the same bytes the frames of one begin those of the other.
abbrev pub OneFraming : Type 0
OneFraming = (first : NextFrame) (bytes : List ℕ) (frames : List Frame) (last : NextFrame)
    (rest : List ℕ) (frames' : List Frame) (last' : NextFrame) (rest' : List ℕ)
    → AreFramed first bytes frames last rest → AreFramed first bytes frames' last' rest'
    → IsPrefix frames frames' ⊎ IsPrefix frames' frames
