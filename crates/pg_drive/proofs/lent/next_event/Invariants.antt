use Rattle.pg_drive.specs.Drive.{connected}
use Rattle.pg_drive.specs.Lent.{LentTurn}
use Rattle.pg_drive.proofs.Turning.{WentOn}
use Rattle.pg_drive.proofs.lent.next_event.Given as goal

abbrev pub invariant-loop : goal.invariant-loop
invariant-loop g l =
    WentOn (LentTurn g.L.Source.gives g.L.Sink.takes g.L.Source.has_ended g.L.Source.failures g.L.Sink.failures) (connected l.initial.link l.initial.client l.initial.out.items) l.counter (connected l.link l.client l.out.items)
