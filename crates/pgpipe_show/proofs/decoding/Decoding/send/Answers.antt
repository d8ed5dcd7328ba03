use Rattle.std.proofs.Common.{◌++◌}
use Rattle.std.proofs.lemmas.Result.{err_from_is_err_and}
use Rattle.pgpipe_show.specs.Private.Showing.{way_of}
use Rattle.pgpipe_show.proofs.Decodings.{flushed, unflushed}
use Rattle.pgpipe_show.proofs.decoding.Decoding.send.Goals as goal

pub returns-in_err-next-clause-steps : goal.returns-in_err-next-clause-steps
returns-in_err-next-clause-steps g c =
    let p = err_from_is_err_and c.from_residual.result c.from_residual.ensures.1 in
    λ start bytes st. rw (p.1, p.2) (c.in_err-next.ensures.steps start bytes st)

pub returns-in-Ok-clause-steps : goal.returns-in-Ok-clause-steps
returns-in-Ok-clause-steps g c = λ start bytes st. flushed g.K.Sink.takes g.K.Sink.failures (way_of c.args.self) start (bytes ++ c.args.piece.now) st.put.pieces c.in_ok-next.next c.take.new.outbox c.take.new.sink (c.in_ok-next.ensures.steps start bytes st) c.flush.new.self c.flush.new.sink c.in-Ok.ensures.puts c.in-Ok.ensures.nothing_left

pub returns-in-Err-clause-steps : goal.returns-in-Err-clause-steps
returns-in-Err-clause-steps g c = λ start bytes st. unflushed g.K.Sink.takes g.K.Sink.failures (way_of c.args.self) start (bytes ++ c.args.piece.now) st.put.pieces c.in_ok-next.next c.take.new.outbox c.take.new.sink (c.in_ok-next.ensures.steps start bytes st) c.in-Err.field-0 c.flush.new.self c.flush.new.sink c.in-Err.ensures.puts
