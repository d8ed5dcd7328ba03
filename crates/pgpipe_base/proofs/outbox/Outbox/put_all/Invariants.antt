use Rattle.std.proofs.Common.{length}
use Rattle.pgpipe_base.proofs.Pieces.{PutsSome}
use Rattle.pgpipe_base.proofs.outbox.Outbox.put_all.Given as goal

abbrev pub invariant-loop-rest : goal.invariant-loop-rest
invariant-loop-rest g l = PutsSome g.K.Sink.takes g.K.Sink.failures l.initial.self l.initial.sink l.bytes l.rest l.self l.sink

abbrev pub decreases-loop-rest : goal.decreases-loop-rest
decreases-loop-rest g l = length l.rest
