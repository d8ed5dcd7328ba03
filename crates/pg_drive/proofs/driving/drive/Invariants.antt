use Rattle.std.proofs.Common.{[]}
use Rattle.pg_drive.specs.Drive.{TurnsOn, connected}
use Rattle.pg_drive.proofs.Turning.{WentOn}
use Rattle.pg_drive.proofs.driving.drive.Given as goal

abbrev pub invariant-loop : goal.invariant-loop
invariant-loop g l =
    WentOn (TurnsOn g.L.Source.gives g.L.Sink.takes g.L.Source.has_ended g.L.Source.failures g.L.Sink.failures l.began) (connected l.initial.link l.initial.client []) l.counter (connected l.link l.client l.out.items)
