use Rattle.std.proofs.Common.{◌≡◌, ◌≤◌, ◌-◌, ◌++◌, false, length, drop}
use Rattle.pg_copy_text.specs.Private.Units.{IsFieldEnd}
use Rattle.pg_copy_text.specs.Private.Cuts.{cuts_from, cuts_of}
use Rattle.pg_copy_text.proofs.cuts.note_all.Given as goal

abbrev pub invariant-loop-end : goal.invariant-loop-end
invariant-loop-end l = (cuts_of l.delimiter l.line ≡ l.cuts.items ++ cuts_from l.start false l.delimiter (drop l.start l.line)) × (l.start ≤ length l.line) × IsFieldEnd l.delimiter (drop l.start l.line) l.end

abbrev pub decreases-loop-end : goal.decreases-loop-end
decreases-loop-end l = length l.line - l.start
