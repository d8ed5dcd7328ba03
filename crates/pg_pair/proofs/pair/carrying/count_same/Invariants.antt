use Rattle.std.proofs.Common.{◌≡◌, ◌+◌, length, drop}
use Rattle.pg_pair.specs.Carrying.{same_front}
use Rattle.pg_pair.proofs.pair.carrying.count_same.Given as goal

abbrev pub invariant-loop-index : goal.invariant-loop-index
invariant-loop-index l = length (same_front l.piece l.came) ≡ l.index + length (same_front (drop l.index l.piece) (drop l.index l.came))
