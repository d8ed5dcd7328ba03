use Rattle.std.proofs.Common.{◌≡◌, length}
use Rattle.pgpipe_convert.specs.Private.Converting.{rows_left}
use Rattle.pgpipe_convert.specs.Private.Values.{writing_by}
use Rattle.pgpipe_convert.proofs.Growing.{Grows}
use Rattle.pgpipe_convert.proofs.copy_rows.put_rows.Given as goal

abbrev pub invariant-loop-out : goal.invariant-loop-out
invariant-loop-out g l = (l.to ≡ l.initial.to) × Grows g.K.Sink.takes g.K.Sink.failures l.at_end (writing_by l.initial.to) l.initial.reader l.initial.out.items l.initial.sink l.reader l.out.items l.sink

abbrev pub decreases-loop-out : goal.decreases-loop-out
decreases-loop-out g l = length (rows_left l.at_end l.reader).rows
