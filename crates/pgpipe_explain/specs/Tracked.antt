-- A source or a sink whose bytes are followed.
use Rattle.std.specs.Prelude.{ℕ, ◌≡◌, List}
use Rattle.pgpipe_explain.specs.declared.tracker.Tracker.{Tracker}
use Rattle.pgpipe_explain.specs.Tracker.{after}

-- a source or a sink, a tracker of what came before, and the last piece that came
pub record Following (T : Type 0) : Type 0 where
  pub inner : T
  pub tracker : Tracker
  pub piece : List ℕ

-- the tracker after all that came
abbrev pub followed : {T : Type 0} → Following T → Tracker
followed t = after t.tracker t.piece

-- These bytes were followed too.
abbrev pub FollowsOn : {T : Type 0} → Following T → List ℕ → Following T → Type 0
FollowsOn old bytes new = followed new ≡ after (followed old) bytes
