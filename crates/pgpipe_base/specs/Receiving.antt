-- How much is received, whether a source stopped, and what was sent before each receive.
use Rattle.std.specs.Prelude.{ℕ, ◌≡◌, ◌<◌, ◌≤◌, ◌^◌, ◌⊎◌, List, length, take, Result, Err}
use Rattle.std.specs.List.{concat}
use Rattle.pg_wire.specs.Link.{HasRisen}
use Rattle.pgpipe_base.specs.declared.fault.ToolFault.{ToolFault}
use Rattle.pgpipe_base.specs.declared.fault.ToolFault.TheVariants as fault

-- the most calls of `receive` that one task makes
abbrev pub most_receives : ℕ
most_receives = 2 ^ 40

-- the most bytes that are received at once
abbrev pub receive_limit : ℕ
receive_limit = 65536

-- The source failed, by its count of failures before and after, or gave no end in 2^40 calls.
abbrev pub HasStopped : ℕ → ℕ → List (List ℕ) → Type 0
HasStopped old new received = HasRisen old new ⊎ (length received ≡ most_receives)

-- Unless the answer is Device, the count of failures is what it was before, so no call failed.
abbrev pub CountsNoFailure : {A : Type 0} → ℕ → Result A ToolFault → ℕ → Type 0
CountsNoFailure old (Err fault.Device) new = Unit {0}
CountsNoFailure old _ new = new ≡ old

-- Before each receive but the first, this held of all bytes that had come and of all that had been
-- sent: where n of the pieces had come, the first m of the sends had been made.
abbrev pub IsSentAtOnce : (List ℕ → List ℕ → Type 0) → List (List ℕ) → List (List ℕ) → Type 0
IsSentAtOnce holds received sent = (n : ℕ) → 0 < n → n < length received
    → (m : ℕ) × (m ≤ length sent) × holds (concat (take n received)) (concat (take m sent))
