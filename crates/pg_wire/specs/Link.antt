-- What the calls of a link do.
use Rattle.std.specs.Prelude.{ℕ, ◌≡◌, ◌<◌, ◌-◌, ◌^◌, ◌⊎◌, List, [], take, Result, Ok, Err}
use Rattle.pg_wire.specs.declared.link.LinkFault.{LinkFault}

-- the greatest count of failures
abbrev pub last_count : ℕ
last_count = 2 ^ 64 - 1

-- The count rose, or stands at its last value.
abbrev pub HasRisen : ℕ → ℕ → Type 0
HasRisen old new = (old < new) ⊎ (new ≡ last_count)

-- A fault is counted, and nothing else is.
abbrev pub Counts : {A : Type 0} → ℕ → Result A LinkFault → ℕ → Type 0
Counts old (Ok x) new = new ≡ old
Counts old (Err fault) new = HasRisen old new

-- the bytes that a call passed on: the first n of the buffer or of the piece, and none where it failed
abbrev pub passed_on : Result ℕ LinkFault → List ℕ → List ℕ
passed_on (Ok n) bytes = take n bytes
passed_on (Err fault) bytes = []

-- The most bytes of one piece: those that are received over a link at once, or carried at once from
-- one end to the other.
abbrev pub longest_piece : ℕ
longest_piece = 4096

-- what stands behind a source or a sink, and how many of its calls have failed
pub record Counted (T : Type 0) : Type 0 where
  pub inner : T
  pub failures : ℕ
