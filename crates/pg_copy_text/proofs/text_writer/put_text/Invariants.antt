use Rattle.std.proofs.Common.{◌-◌, ◌≤◌, length}
use Rattle.pg_copy_text.proofs.Writing.{IsRunning}
use Rattle.pg_copy_text.proofs.text_writer.put_text.Given as goal

abbrev pub invariant-loop-at : goal.invariant-loop-at
invariant-loop-at l = IsRunning l.delimiter l.fn.buf.items l.text l.start l.at l.buf.items × (l.at ≤ length l.text)

abbrev pub decreases-loop-at : goal.decreases-loop-at
decreases-loop-at l = length l.text - l.at
