use Rattle.std.proofs.Common.{◌-◌, length}
use Rattle.pg_copy_text.proofs.TextLines.{IsWalkedTo}
use Rattle.pg_copy_text.proofs.text_line.field_end.Given as goal

abbrev pub invariant-loop-at : goal.invariant-loop-at
invariant-loop-at l = IsWalkedTo l.delimiter l.rest l.at

abbrev pub decreases-loop-at : goal.decreases-loop-at
decreases-loop-at l = length l.rest - l.at
