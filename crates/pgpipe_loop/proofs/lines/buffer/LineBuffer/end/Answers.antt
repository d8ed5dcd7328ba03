use Rattle.std.proofs.Common.{ap}
use Rattle.pg_copy.specs.TextWriter.{RowWriterState}
use Rattle.pgpipe_loop.proofs.LineWriting.{line_ended}
use Rattle.pgpipe_loop.specs.contracts.lines.buffer.LineBuffer.{the_view}
use Rattle.pgpipe_loop.proofs.lines.buffer.LineBuffer.end.Goals.{in-Ok, in-Err}
use Rattle.pgpipe_loop.proofs.lines.buffer.LineBuffer.end.Goals as goal

pub returns : goal.returns
returns c = elim c.match-end.branch [
  | in-Ok w ↦ rw w.result-is (line_ended (the_view c.self.inside) c.args.self.now c.end.new.buf.items c.end.new.self.fields c.self.view_is w.in-Ok.ensures.written.1 (ap (λ (s : RowWriterState). s.fields) w.in-Ok.ensures.ok))
  | in-Err w ↦ rw w.result-is tt
]
