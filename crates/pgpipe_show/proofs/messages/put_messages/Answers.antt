use Rattle.std.proofs.Common.{Bool, Ok, subst}
use Rattle.std.proofs.lemmas.Result.{err_from_is_err_and}
use Rattle.pg_wire.specs.Spellings.{TakesSpelling}
use Rattle.pgpipe_show.proofs.MessageLines.{at_fault, at_line, at_stop}
use Rattle.pgpipe_show.proofs.messages.put_messages.Goals as goal

pub loop-reader-preserved : goal.loop-reader-preserved
loop-reader-preserved g c =
    let i = c.loop-reader.invariant in
    let taken = subst (λ (b : Bool). TakesSpelling g.M.Message.direction c.loop-reader.reader.stream (Ok b) c.next.new.self) c.in-Ok-true.field-0-test c.in-Ok-true.ensures in
    at_line g.M.Message.direction g.K.Sink.takes g.K.Sink.failures c.args.outbox.now c.args.sink.now c.args.spellings.stream.kept c.loop-reader.reader.stream c.loop-reader.outbox c.loop-reader.sink i.0 i.1 c.next.new.self taken c.spelling.result.now c.spelling.ensures c.put_spelled.new.outbox c.put_spelled.new.sink c.in_ok-put_spelled-in-Ok-true.ensures

pub returns-in_err-put_spelled-in-Ok-true-clause-puts : goal.returns-in_err-put_spelled-in-Ok-true-clause-puts
returns-in_err-put_spelled-in-Ok-true-clause-puts g c =
    let i = c.loop-reader.invariant in
    let taken = subst (λ (b : Bool). TakesSpelling g.M.Message.direction c.loop-reader.reader.stream (Ok b) c.next.new.self) c.in-Ok-true.field-0-test c.in-Ok-true.ensures in
    let p = err_from_is_err_and c.from_residual.result c.from_residual.ensures.1 in
    rw (p.1, p.2) (at_stop g.M.Message.direction g.K.Sink.takes g.K.Sink.failures c.args.outbox.now c.args.sink.now c.args.spellings.stream.kept c.loop-reader.reader.stream c.loop-reader.outbox c.loop-reader.sink i.0 i.1 c.next.new.self taken c.spelling.result.now c.spelling.ensures c.in_err-put_spelled-in-Ok-true.field-0.0 c.put_spelled.new.outbox c.put_spelled.new.sink c.in_err-put_spelled-in-Ok-true.ensures)

pub returns-in-Err-clause-puts : goal.returns-in-Err-clause-puts
returns-in-Err-clause-puts g c =
    let i = c.loop-reader.invariant in
    rw c.fault_stop.ensures (at_fault g.M.Message.direction g.K.Sink.takes g.K.Sink.failures c.args.outbox.now c.args.sink.now c.args.spellings.stream.kept c.loop-reader.reader.stream c.loop-reader.outbox c.loop-reader.sink i.0 i.1 c.in-Err.fault c.next.new.self c.in-Err.ensures)
