use Rattle.std.proofs.Common.{◌≡◌, None, length}
use Rattle.pg_client.specs.Private.Hearing.{GoesOn}
use Rattle.pg_client.proofs.connection.Connection.hear_all.Given as goal

abbrev pub invariant-loop : goal.invariant-loop
invariant-loop g l = GoesOn g.K.Keeper.way l.initial.self l.self l.initial.out.items l.out.items × (l.self.closed ≡ None)

abbrev pub decreases-loop : goal.decreases-loop
decreases-loop g l = length l.self.kept
