use Rattle.std.proofs.Common.{◌≡◌, None, [], length}
use Rattle.pg_client.specs.View.{items_waiting}
use Rattle.pg_client.specs.Keeping.{queueing}
use Rattle.pg_client.specs.Private.Hearing.{GoesOn}
use Rattle.pg_client.proofs.connection.lend.Connection+Queue.hear_up_to.Given as goal

abbrev pub invariant-loop-self : goal.invariant-loop-self
invariant-loop-self l = GoesOn queueing l.initial.self l.self l.initial.out.items l.out.items × (l.self.closed ≡ None) × (items_waiting l.self ≡ [])

abbrev pub decreases-loop-self : goal.decreases-loop-self
decreases-loop-self l = length l.self.kept
