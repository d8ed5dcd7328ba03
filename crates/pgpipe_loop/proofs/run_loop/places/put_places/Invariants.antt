use Rattle.std.proofs.Common.{◌≡◌, ◌++◌}
use Rattle.pgpipe_loop.specs.Everywhere.{places_along}
use Rattle.pgpipe_loop.proofs.run_loop.places.put_places.Given as goal

abbrev pub invariant-loop-before : goal.invariant-loop-before
invariant-loop-before l = l.places.items ≡ l.initial.places.items ++ places_along l.way l.before
