use Rattle.std.proofs.Common.{◌≡◌, take}
use Rattle.pg_backend.proofs.outcome.copy_of_asides.Given as goal

abbrev pub invariant-loop-aside : goal.invariant-loop-aside
invariant-loop-aside l = l.copy ≡ take l.aside-index l.asides
