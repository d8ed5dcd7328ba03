use Rattle.std.proofs.Common.{length}
use Rattle.std.proofs.lemmas.Result.{err_from_is_err_and}
use Rattle.pg_codec.specs.Private.Reader.{up_to_zero_at, terminated_at}
use Rattle.pg_codec.proofs.Loops.{zero_goes_on, zero_ends, zero_is_done, zero_is_past}
use Rattle.pg_codec.proofs.reader.terminated.Goals as goal

pub returns-in-Some : goal.returns-in-Some
unfolding terminated_at
returns-in-Some g c = rw c.new.ensures (zero_is_done g.T.ReadField.reading c.loop.items.items (length c.args.bytes.now) c.loop.counter c.loop.rest.now c.in-Some.after.now (up_to_zero_at g.T.ReadField.reading (length c.args.bytes.now) c.args.bytes.now) c.loop-test.true c.in-Some.ensures c.loop.invariant)

pub returns-in_err-item : goal.returns-in_err-item
unfolding terminated_at
returns-in_err-item g c =
    let p = err_from_is_err_and c.from_residual.result c.from_residual.ensures.1 in
    rw (p.1, p.2) (zero_ends g.T.ReadField.reading c.in_err-item.field-0.0 c.loop.items.items (length c.args.bytes.now) c.loop.counter c.loop.rest.now (up_to_zero_at g.T.ReadField.reading (length c.args.bytes.now) c.args.bytes.now) c.loop-test.true c.in_default.ensures c.in_err-item.ensures c.loop.invariant)

pub loop-preserved : goal.loop-preserved
loop-preserved g c =
    rw c.in_ok-push.ensures.items (zero_goes_on g.T.ReadField.reading c.loop.items.items (length c.args.bytes.now) c.loop.counter c.loop.rest.now c.in_ok-item.item c.in_ok-item.after.now (up_to_zero_at g.T.ReadField.reading (length c.args.bytes.now) c.args.bytes.now) c.loop-test.true c.in_default.ensures c.in_ok-item.ensures c.loop.invariant)

pub returns : goal.returns
unfolding terminated_at
returns g c = zero_is_past g.T.ReadField.reading c.loop.items.items (length c.args.bytes.now) c.loop.counter c.loop.rest.now (up_to_zero_at g.T.ReadField.reading (length c.args.bytes.now) c.args.bytes.now) c.loop-test.false c.loop.invariant
