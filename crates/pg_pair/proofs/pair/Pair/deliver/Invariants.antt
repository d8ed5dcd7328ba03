use Rattle.std.proofs.Common.{◌≡◌, ◌≤◌, ◌-◌, false}
use Rattle.pg_pair.specs.Breaking.{is_closed}
use Rattle.pg_pair.specs.Delivering.{DeliversPieces}
use Rattle.pg_pair.proofs.pair.Pair.deliver.Given as goal

abbrev pub invariant-loop-way : goal.invariant-loop-way
invariant-loop-way g l = record {
  goes : DeliversPieces g.C.Carry.carries l.way l.most l.initial.self l.moved l.self;
  going : is_closed l.way l.self ≡ false;
  within : l.moved ≤ l.most;
}

abbrev pub decreases-loop-way : goal.decreases-loop-way
decreases-loop-way g l = l.most - l.moved
