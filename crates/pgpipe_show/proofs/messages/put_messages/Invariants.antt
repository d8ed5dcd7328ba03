use Rattle.std.proofs.Common.{length}
use Rattle.pgpipe_show.specs.Private.Showing.{IsSound, HasPut}
use Rattle.pgpipe_show.proofs.messages.put_messages.Given as goal

abbrev pub invariant-loop-reader : goal.invariant-loop-reader
invariant-loop-reader g l = IsSound l.reader.stream × HasPut g.K.Sink.takes g.K.Sink.failures g.M.Message.direction l.initial.outbox l.initial.sink l.initial.reader.stream.kept l.reader.stream.kept l.outbox l.sink

abbrev pub decreases-loop-reader : goal.decreases-loop-reader
decreases-loop-reader g l = length l.reader.stream.kept
