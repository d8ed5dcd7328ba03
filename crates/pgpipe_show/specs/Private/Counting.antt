-- How far the counting has come.
use Rattle.std.specs.Prelude.{ℕ, ◌≡◌, ◌<◌, ◌-◌, ◌^◌, min, Bool, List, [], ◌++◌, length, Result, Ok, Err}
use Rattle.std.specs.List.{FoldsTo, concat}
use Rattle.pgpipe_base.specs.declared.stop.Stop.{Stop}
use Rattle.pgpipe_base.specs.declared.stop.Stop.TheVariants as stop
use Rattle.pgpipe_frames.specs.declared.next.NextFrame.{NextFrame}
use Rattle.pgpipe_frames.specs.declared.next.NextFrame.TheVariants as next
use Rattle.pgpipe_frames.specs.declared.judge.FrameJudgement.TheVariants as judge
use Rattle.pgpipe_frames.specs.Frames.{judged}
use Rattle.pgpipe_frames.specs.Reader.{FramesState}
use Rattle.pgpipe_show.specs.declared.show.Shown.{Shown}
use Rattle.pgpipe_show.specs.declared.show.Shown.TheVariants as shown
use Rattle.pgpipe_show.specs.Counts.{SummaryState}
use Rattle.pgpipe_show.specs.Summary.{IsSummedUp}
pub use Rattle.pgpipe_show.specs.Private.Stopping.{end_stop, fault_stop}

-- The frames of these bytes were counted, but for an open rest, which the reader keeps.
abbrev pub IsOpenAt : Bool → List ℕ → SummaryState → FramesState → Type 0
IsOpenAt front bytes s f = IsSummedUp front bytes s f.next f.kept
    × (judged f.next f.kept ≡ judge.Open)

-- Bytes are passed over only where nothing more is read, after a request to cancel.
abbrev pub ArePassedOver : NextFrame → List ℕ → Type 0
ArePassedOver next.Nothing later = Unit {0}
ArePassedOver next.Packet later = later ≡ []
ArePassedOver next.Message later = later ≡ []

-- The frames of these bytes were counted, but for an open rest: what the reader keeps, and so many
-- bytes that were passed over.
pub record AreAt (front : Bool) (bytes : List ℕ) (s : SummaryState) (f : FramesState) (over : ℕ)
    : Type 0 where
  pub later : List ℕ
  pub summed : IsSummedUp front bytes s f.next (f.kept ++ later)
  pub is_open : judged f.next (f.kept ++ later) ≡ judge.Open
  pub size : over ≡ min (length later) (2 ^ 64 - 1)
  pub passed : ArePassedOver f.next later

-- What stands where the work stops.
abbrev pub Stops : Bool → List ℕ → Stop Shown → SummaryState → Type 0
Stops front bytes (stop.Answer shown.Whole) s = (n : NextFrame) × IsSummedUp front bytes s n []
Stops front bytes (stop.Answer (shown.Rest size)) s = (n : NextFrame) × (rest : List ℕ)
    × IsSummedUp front bytes s n rest × (judged n rest ≡ judge.Open)
    × (size ≡ min (length rest) (2 ^ 64 - 1)) × (0 < size)
Stops front bytes (stop.Answer (shown.Fault f)) s = (n : NextFrame) × (rest : List ℕ)
    × IsSummedUp front bytes s n rest × (judged n rest ≡ judge.Faulty f)
Stops front bytes _ s = Unit {0}

-- Where the counting of what is whole leads.
abbrev pub Counts : Bool → List ℕ → Result Unit (Stop Shown) → SummaryState → FramesState → Type 0
Counts front bytes (Ok x) s f = IsOpenAt front bytes s f
Counts front bytes (Err w) s f = Stops front bytes w s

-- Where a piece more leads.
abbrev pub GoesOn : Bool → List ℕ → Result Unit (Stop Shown) → SummaryState → FramesState → ℕ
    → Type 0
GoesOn front bytes (Ok x) s f over = AreAt front bytes s f over
GoesOn front bytes (Err w) s f over = Stops front bytes w s

-- Pieces were received until the work stopped, and this is what stands then.
abbrev pub HasRun : {S : Type 0} → (S → List ℕ → S → Type 0) → Bool → S → Stop Shown → S
    → SummaryState → Type 0
HasRun gives front source w source' s = (pieces : List (List ℕ))
    × FoldsTo gives source pieces source' × Stops front (concat pieces) w s
