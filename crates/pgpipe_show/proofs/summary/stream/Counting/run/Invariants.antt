use Rattle.pgpipe_show.proofs.Counting.{Runs}
use Rattle.pgpipe_show.proofs.summary.stream.Counting.run.Given as goal

abbrev pub invariant-loop : goal.invariant-loop
invariant-loop g l = Runs g.S.Source.gives l.initial.self.front l.initial.source l.source l.self.front l.self.summary l.self.frames l.self.over
