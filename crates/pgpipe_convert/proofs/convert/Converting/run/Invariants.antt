use Rattle.std.proofs.Common.{◌≡◌}
use Rattle.pgpipe_convert.specs.Private.Converting.{file_by}
use Rattle.pgpipe_convert.specs.Private.Values.{writing_by}
use Rattle.pgpipe_convert.proofs.Converting.{Runs}
use Rattle.pgpipe_convert.proofs.convert.Converting.run.Given as goal

abbrev pub invariant-loop : goal.invariant-loop
invariant-loop g l = (l.self.to ≡ l.initial.self.to) × Runs g.S.Source.gives g.S.Source.failures g.K.Sink.takes g.K.Sink.failures (file_by l.initial.self.reader) (writing_by l.initial.self.to) l.initial.source l.initial.sink l.counter l.source l.self.reader l.self.out.items l.sink
