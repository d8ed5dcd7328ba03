use Rattle.pg_copy_text.proofs.Writing.{WritesRow}
use Rattle.pg_copy_text.proofs.text_writer.put_row.Given as goal

abbrev pub invariant-loop-value : goal.invariant-loop-value
invariant-loop-value l = WritesRow l.options l.fn.buf.items l.row l.value-iterator l.first l.buf.items
