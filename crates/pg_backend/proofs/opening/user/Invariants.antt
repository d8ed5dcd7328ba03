use Rattle.std.proofs.Common.{◌≡◌, [], drop}
use Rattle.pg_backend.specs.Opening.{user_from}
use Rattle.pg_backend.proofs.opening.user.Given as goal

abbrev pub invariant-loop-pair : goal.invariant-loop-pair
invariant-loop-pair l = user_from [] l.fn.pairs ≡ user_from l.user (drop l.pair-index l.fn.pairs)
