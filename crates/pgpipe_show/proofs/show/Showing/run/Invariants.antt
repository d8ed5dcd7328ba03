use Rattle.pgpipe_show.specs.Private.Showing.{way_of}
use Rattle.pgpipe_show.proofs.Runs.{Runs}
use Rattle.pgpipe_show.proofs.show.Showing.run.Given as goal

abbrev pub invariant-loop : goal.invariant-loop
invariant-loop g l = Runs g.S.Source.gives g.S.Source.failures g.K.Sink.takes g.K.Sink.failures (way_of l.initial.decoding) l.initial.source l.initial.sink l.counter l.source l.decoding l.self.outbox l.sink
