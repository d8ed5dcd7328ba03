use Rattle.pgpipe_show.proofs.Readings.{Fetching}
use Rattle.pgpipe_show.proofs.both.reader.Reader.fetch.Given as goal

abbrev pub invariant-loop : goal.invariant-loop
invariant-loop g l = Fetching g.S.Source.gives g.S.Source.failures l.initial.self.frames l.initial.source l.counter l.self.frames l.source
