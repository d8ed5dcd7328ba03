use Rattle.pgpipe_convert.proofs.Lent.{line_ended}
use Rattle.pgpipe_convert.proofs.values.end_line.Goals as goal

pub returns-in-Written-clause-ends : goal.returns-in-Written-clause-ends
returns-in-Written-clause-ends c o row start some few s = rw c.progress_of.ensures (line_ended c.fields_are_line.ensures o row start c.args.so_far c.args.writer.now c.args.out.now.items c.end.result c.end.new.buf.items c.in-Written.is s some few c.end.ensures.written)
