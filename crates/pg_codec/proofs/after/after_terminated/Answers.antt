use Rattle.std.proofs.Common.{length}
use Rattle.pg_codec.specs.Private.Reader.{up_to_zero_at, terminated_at}
use Rattle.pg_codec.specs.Private.Lent.{left_after}
use Rattle.pg_codec.proofs.Passed.{zero_one_passed, zero_cut_off, zero_passed, no_zero_passed}
use Rattle.pg_codec.proofs.after.after_terminated.Goals as goal

pub returns-in-Some : goal.returns-in-Some
unfolding terminated_at
returns-in-Some g c = zero_passed g.T.ReadField.reading (length c.args.bytes.now) c.loop.counter c.loop.rest.now (left_after (up_to_zero_at g.T.ReadField.reading (length c.args.bytes.now) c.args.bytes.now)) c.in-Some.end.now c.loop-test.true c.in-Some.ensures c.loop.invariant

pub returns-in_err-rest : goal.returns-in_err-rest
unfolding terminated_at
returns-in_err-rest g c = rw c.from_residual.ensures (zero_cut_off g.T.ReadField.reading (length c.args.bytes.now) c.loop.counter c.loop.rest.now (left_after (up_to_zero_at g.T.ReadField.reading (length c.args.bytes.now) c.args.bytes.now)) c.loop-test.true c.in_default.ensures c.in_err-rest.ensures c.loop.invariant)

pub loop-preserved : goal.loop-preserved
loop-preserved g c = zero_one_passed g.T.ReadField.reading (length c.args.bytes.now) c.loop.counter c.loop.rest.now (left_after (up_to_zero_at g.T.ReadField.reading (length c.args.bytes.now) c.args.bytes.now)) c.in_ok-rest.rest.now c.loop-test.true c.in_default.ensures c.in_ok-rest.ensures c.loop.invariant

pub returns : goal.returns
unfolding terminated_at
returns g c = no_zero_passed g.T.ReadField.reading (length c.args.bytes.now) c.loop.counter c.loop.rest.now (left_after (up_to_zero_at g.T.ReadField.reading (length c.args.bytes.now) c.args.bytes.now)) c.loop-test.false c.loop.invariant
