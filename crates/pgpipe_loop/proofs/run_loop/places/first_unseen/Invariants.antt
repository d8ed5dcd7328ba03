use Rattle.std.proofs.Common.{◌≡◌, drop}
use Rattle.pgpipe_loop.specs.Everywhere.{first_unseen}
use Rattle.pgpipe_loop.proofs.run_loop.places.first_unseen.Given as goal

-- each place so far was well
abbrev pub invariant-loop-broken : goal.invariant-loop-broken
invariant-loop-broken l = first_unseen l.all ≡ first_unseen (drop l.broken-index l.all)
