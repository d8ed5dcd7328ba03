use Rattle.pg_backend.specs.OverLink.{connected}
use Rattle.pg_backend.proofs.Turning.{WentOn}
use Rattle.pg_backend.proofs.over_link.answer.Given as goal

abbrev pub invariant-loop : goal.invariant-loop
invariant-loop g l =
    WentOn g.L.Source.gives g.L.Sink.takes g.L.Source.has_ended g.L.Source.failures g.L.Sink.failures (connected l.initial.link l.initial.backend) l.counter (connected l.link l.backend)
