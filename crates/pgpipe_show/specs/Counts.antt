-- How frames are counted.
use Rattle.std.specs.Prelude.{ℕ, ◌≡◌, ◌+◌, ◌-◌, ◌^◌, min, List, [], ◌∷◌, length, Bool}
use Rattle.std.specs.Cmp.Lexicographic.{slice_cmp}
use Rattle.std.specs.Ordering.{nat_cmp, match_ordering}
use Rattle.pgpipe_frames.specs.Frames.{Frame}
use Rattle.pgpipe_show.specs.declared.summary.counts.FrameCount.{FrameCount}
use Rattle.pgpipe_show.specs.Labels.{IsLabelOf}

-- a label, with how many frames have it, and how many bytes they have together
abbrev pub CountRow : Type 0
CountRow = List ℕ × FrameCount

-- what was counted: a row for each label, in the order of their bytes, and all frames together
pub record SummaryState : Type 0 where
  pub rows : List CountRow
  pub total : FrameCount

-- nothing
abbrev pub none_counted : FrameCount
none_counted = record { count = 0; bytes = 0 }

-- one frame more, of so many bytes; neither number goes beyond 2^64 - 1
abbrev pub with_frame : ℕ → FrameCount → FrameCount
with_frame size c = record {
  count = min (c.count + 1) (2 ^ 64 - 1);
  bytes = min (c.bytes + size) (2 ^ 64 - 1);
}

-- what stands at a label: nothing counted, where no row has it
abbrev pub counted_at : List ℕ → List CountRow → FrameCount
counted_at label [] = none_counted
counted_at label (r ∷ rows) = match_ordering (slice_cmp nat_cmp label r.0)
    (counted_at label rows) r.1 (counted_at label rows)

-- the rows, with this at a label
abbrev pub with_row : List ℕ → FrameCount → List CountRow → List CountRow
with_row label c [] = (label, c) ∷ []
with_row label c (r ∷ rows) = match_ordering (slice_cmp nat_cmp label r.0)
    ((label, c) ∷ r ∷ rows) ((r.0, c) ∷ rows) (r ∷ with_row label c rows)

-- one frame more under a label
abbrev pub counted : List ℕ → ℕ → SummaryState → SummaryState
counted label size s = record {
  rows = with_row label (with_frame size (counted_at label s.rows)) s.rows;
  total = with_frame size s.total;
}

-- These frames of a client (true) or of a backend were counted, one after the other.
abbrev pub AreCounted : Bool → List Frame → SummaryState → SummaryState → Type 0
AreCounted front [] old new = new ≡ old
AreCounted front (f ∷ frames) old new = (label : List ℕ) × IsLabelOf front f.kind f.bytes label
    × AreCounted front frames (counted label (length f.bytes) old) new
