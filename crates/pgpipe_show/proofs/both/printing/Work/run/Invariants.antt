use Rattle.pgpipe_show.specs.Private.Telling.{Stands}
use Rattle.pgpipe_show.proofs.both.printing.Work.run.Given as goal

abbrev pub invariant-loop : goal.invariant-loop
invariant-loop g l = Stands g.F.Source.gives g.F.Source.failures g.F.Source.has_ended g.B.Source.gives g.B.Source.failures g.B.Source.has_ended g.K.Sink.takes g.K.Sink.failures l.initial.front l.initial.back l.initial.sink l.counter l.turn l.self.front.frames.next l.self.front.frames.kept l.front l.self.back.frames.next l.self.back.frames.kept l.back l.self.page.outbox l.sink
