use Rattle.std.proofs.Common.{false}
use Rattle.std.proofs.lemmas.Result.{err_from_is_err_and}
use Rattle.pgpipe_convert.specs.Private.Values.{writing_by}
use Rattle.pgpipe_convert.proofs.Growing.{rows_sent, rows_unsent}
use Rattle.pgpipe_convert.proofs.copy_rows.send_rows.Goals as goal

pub returns-in_err-put_rows-clause-puts : goal.returns-in_err-put_rows-clause-puts
returns-in_err-put_rows-clause-puts g c =
    let p = err_from_is_err_and c.from_residual.result c.from_residual.ensures.1 in
    rw (p.1, p.2) c.in_err-put_rows.ensures.puts

pub returns-in-Ok-clause-puts : goal.returns-in-Ok-clause-puts
returns-in-Ok-clause-puts g c = rows_sent g.K.Sink.takes g.K.Sink.failures false (writing_by c.args.to.now) c.args.reader.now c.args.out.now.items c.args.sink.now c.put_rows.new.reader c.put_rows.new.out.items c.put_rows.new.sink c.in_ok-put_rows.ensures.puts c.send.new.buf.items c.send.new.sink c.in-Ok.ensures.puts c.in-Ok.ensures.nothing_left

pub returns-in-Err-clause-puts : goal.returns-in-Err-clause-puts
returns-in-Err-clause-puts g c = rows_unsent g.K.Sink.takes g.K.Sink.failures false (writing_by c.args.to.now) c.args.reader.now c.args.out.now.items c.args.sink.now c.put_rows.new.reader c.put_rows.new.out.items c.put_rows.new.sink c.in_ok-put_rows.ensures.puts c.in-Err.field-0 c.send.new.buf.items c.send.new.sink c.in-Err.ensures.puts
