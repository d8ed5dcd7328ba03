use Rattle.std.proofs.Common.{◌-◌}
use Rattle.pg_copy_text.proofs.TextPuts.{PutsText}
use Rattle.pg_copy_text.proofs.cuts.put_text.Given as goal

abbrev pub invariant-loop-at : goal.invariant-loop-at
invariant-loop-at l = PutsText l.fn.line l.start l.end l.to l.line l.at l.put

abbrev pub decreases-loop-at : goal.decreases-loop-at
decreases-loop-at l = l.end - l.at
