use Rattle.pg_codec.specs.Private.Reader.{times_at}
use Rattle.pg_codec.specs.Private.Lent.{left_after}
use Rattle.pg_codec.proofs.Passed.{one_passed, cut_off, all_passed}
use Rattle.pg_codec.proofs.after.after_times.Goals as goal

pub returns-in_err-rest : goal.returns-in_err-rest
returns-in_err-rest g c = rw c.from_residual.ensures (cut_off g.T.ReadField.reading c.args.count c.loop.counter c.loop.rest.now (left_after (times_at g.T.ReadField.reading c.args.count c.args.bytes.now)) c.loop-test.true c.in_err-rest.ensures c.loop.invariant)

pub loop-preserved : goal.loop-preserved
loop-preserved g c = one_passed g.T.ReadField.reading c.args.count c.loop.counter c.loop.rest.now (left_after (times_at g.T.ReadField.reading c.args.count c.args.bytes.now)) c.in_ok-rest.rest.now c.loop-test.true c.in_ok-rest.ensures c.loop.invariant

pub returns : goal.returns
returns g c = all_passed g.T.ReadField.reading c.args.count c.loop.counter c.loop.rest.now (left_after (times_at g.T.ReadField.reading c.args.count c.args.bytes.now)) c.loop-test.false c.loop.invariant
