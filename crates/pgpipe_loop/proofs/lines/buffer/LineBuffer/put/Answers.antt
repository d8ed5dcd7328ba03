use Rattle.std.proofs.Common.{option_copied, ap}
use Rattle.pg_copy.specs.TextWriter.{RowWriterState, next_written}
use Rattle.pgpipe_loop.proofs.LineWriting.{field_put, field_dropped}
use Rattle.pgpipe_loop.specs.contracts.lines.buffer.LineBuffer.{the_view}
use Rattle.pgpipe_loop.proofs.lines.buffer.LineBuffer.put.Goals.{in-Ok, in-Err-Width, in-Err}
use Rattle.pgpipe_loop.proofs.lines.buffer.LineBuffer.put.Goals as goal

pub returns : goal.returns
returns c = elim c.match-field.branch [
  | in-Ok w ↦ rw w.result-is (field_put (the_view c.self.inside) c.args.self.now c.self.inside.row.options (option_copied c.args.field) c.field.new.buf.items c.field.new.self.fields c.self.view_is c.self.invariant w.in-Ok.ensures.written.0 w.in-Ok.ensures.written.1 (ap (λ (s : RowWriterState). s.fields) w.in-Ok.ensures.ok))
  | in-Err-Width w ↦ rw w.result-is (field_dropped (the_view c.self.inside) c.args.self.now c.self.inside.row.options _ w.in-Err-Width.field-0 (option_copied c.args.field) (next_written c.self.inside.row.options c.self.inside.row.fields (option_copied c.args.field)) c.field.new.buf.items c.field.new.self.fields c.self.view_is w.in-Err-Width.field-0-is w.in-Err-Width.ensures.written (ap (λ (s : RowWriterState). s.fields) w.in-Err-Width.ensures.err))
  | in-Err w ↦ rw w.result-is tt
]
