use Rattle.pgpipe_loop.specs.Private.Turning.{serving}
use Rattle.pgpipe_loop.proofs.Turning.{WentOn}
use Rattle.pgpipe_loop.proofs.serving.take_turns.Given as goal

abbrev pub invariant-loop : goal.invariant-loop
invariant-loop g l =
    WentOn g.L.Source.gives g.L.Sink.takes g.L.Source.has_ended g.L.Source.failures g.L.Sink.failures g.K.Sink.takes g.K.Sink.failures (serving l.initial.link l.initial.backend l.initial.sink) l.counter (serving l.link l.backend l.sink)
