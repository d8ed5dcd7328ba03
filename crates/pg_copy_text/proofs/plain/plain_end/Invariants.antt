use Rattle.std.proofs.Common.{◌≤◌, ◌<◌, ◌-◌, ℕ, length, get_or}
use Rattle.pg_copy_text.specs.Private.Units.{IsPlain}
use Rattle.pg_copy_text.proofs.plain.plain_end.Given as goal

abbrev pub invariant-loop-at : goal.invariant-loop-at
invariant-loop-at l = (l.fn.from ≤ l.at) × (l.at ≤ length l.bytes) × ((i : ℕ) → l.fn.from ≤ i → i < l.at → IsPlain l.delimiter (get_or l.bytes i 0))

abbrev pub decreases-loop-at : goal.decreases-loop-at
decreases-loop-at l = length l.bytes - l.at

abbrev pub invariant-loop-at-2 : goal.invariant-loop-at-2
invariant-loop-at-2 l = (l.fn.from ≤ l.at) × (l.at ≤ length l.bytes) × ((i : ℕ) → l.fn.from ≤ i → i < l.at → IsPlain l.delimiter (get_or l.bytes i 0))

abbrev pub decreases-loop-at-2 : goal.decreases-loop-at-2
decreases-loop-at-2 l = length l.bytes - l.at
