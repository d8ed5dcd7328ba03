use Rattle.std.proofs.Common.{◌≢◌, ◌<◌, ◌+◌, ◌-◌, ℕ, length, get_or}
use Rattle.pg_copy_text.proofs.plain.may_have_backslash.Given as goal

abbrev pub invariant-loop-at : goal.invariant-loop-at
invariant-loop-at l = (l.at < l.last + 16) × ((i : ℕ) → i < l.at → get_or l.bytes i 0 ≢ 92)

abbrev pub decreases-loop-at : goal.decreases-loop-at
decreases-loop-at l = length l.bytes - l.at
