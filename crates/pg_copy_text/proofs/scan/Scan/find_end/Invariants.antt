use Rattle.std.proofs.Common.{length, ◌-◌}
use Rattle.pg_copy_text.specs.Private.Units.{IsScanned}
use Rattle.pg_copy_text.specs.Private.Cuts.{AreNoted}
use Rattle.pg_copy_text.proofs.scan.Scan.find_end.Given as goal

abbrev pub invariant-loop-scan : goal.invariant-loop-scan
invariant-loop-scan l = IsScanned l.delimiter l.before l.bytes l.scan × AreNoted l.delimiter l.bytes l.cuts.items

abbrev pub decreases-loop-scan : goal.decreases-loop-scan
decreases-loop-scan l = length l.bytes - l.scan.at
