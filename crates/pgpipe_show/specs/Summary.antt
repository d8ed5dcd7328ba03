-- What is sent for a stream that is summed up, and what is answered.
use Rattle.std.specs.Prelude.{ℕ, ◌≡◌, ◌<◌, ◌-◌, ◌^◌, min, Bool, List, [], length, Result, Ok, Err}
use Rattle.std.specs.List.{FoldsTo, concat}
use Rattle.pgpipe_base.specs.declared.fault.ToolFault.{ToolFault}
use Rattle.pgpipe_frames.specs.declared.next.NextFrame.{NextFrame}
use Rattle.pgpipe_frames.specs.declared.judge.FrameJudgement.TheVariants as judge
use Rattle.pgpipe_frames.specs.Frames.{Frame, AreFramed, judged}
use Rattle.pgpipe_show.specs.declared.show.Shown.{Shown}
use Rattle.pgpipe_show.specs.declared.show.Shown.TheVariants as shown
use Rattle.pgpipe_show.specs.FrameLines.{first_of}
use Rattle.pgpipe_show.specs.Counts.{AreCounted, SummaryState, none_counted}
use Rattle.pgpipe_show.specs.Table.{table}

-- nothing was counted
abbrev pub empty : SummaryState
empty = record { rows = []; total = none_counted }

-- The bytes of a client (true) or of a backend are frames and this rest, at which `n` is next, and the
-- frames were counted.
pub record IsSummedUp (front : Bool) (bytes : List ℕ) (s : SummaryState) (n : NextFrame)
    (rest : List ℕ) : Type 0 where
  pub frames : List Frame
  pub framed : AreFramed (first_of front) bytes frames n rest
  pub each : AreCounted front frames empty s

-- The text is the table of the frames of these bytes, but for this rest.
abbrev pub IsTableOf : Bool → List ℕ → List ℕ → NextFrame → List ℕ → Type 0
IsTableOf front bytes text n rest = (s : SummaryState) × IsSummedUp front bytes s n rest
    × (text ≡ table s)

-- What is returned, by the bytes received and the text sent: Whole without a rest, Rest with its
-- size (2^64 - 1 where it has more bytes), or the rest's fault. Nothing is claimed here where memory
-- ran out or a device failed.
abbrev pub SummaryAnswers : Bool → List ℕ → List ℕ → Result Shown ToolFault → Type 0
SummaryAnswers front bytes text (Ok shown.Whole) = (n : NextFrame) × IsTableOf front bytes text n []
SummaryAnswers front bytes text (Ok (shown.Rest size)) = (n : NextFrame) × (rest : List ℕ)
    × IsTableOf front bytes text n rest × (judged n rest ≡ judge.Open)
    × (size ≡ min (length rest) (2 ^ 64 - 1)) × (0 < size)
SummaryAnswers front bytes text (Ok (shown.Fault f)) = (n : NextFrame) × (rest : List ℕ)
    × IsTableOf front bytes text n rest × (judged n rest ≡ judge.Faulty f)
SummaryAnswers front bytes text (Err e) = Unit {0}

-- Pieces were received and pieces were sent, and this is the answer for them.
abbrev pub SumsUp : {S K : Type 0} → (S → List ℕ → S → Type 0) → (K → List ℕ → K → Type 0) → Bool
    → S → K → Result Shown ToolFault → S → K → Type 0
SumsUp gives takes front source sink result source' sink' = (received sent : List (List ℕ))
    × FoldsTo gives source received source' × FoldsTo takes sink sent sink'
    × SummaryAnswers front (concat received) (concat sent) result
