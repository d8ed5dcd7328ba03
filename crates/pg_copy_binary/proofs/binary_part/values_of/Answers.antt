use Rattle.std.proofs.Common.{refl}
use Rattle.pg_copy_binary.specs.BinaryPart.{values_at}
use Rattle.pg_copy_binary.specs.Private.BinaryPart.{no_part}
use Rattle.pg_copy_binary.proofs.BinaryLoop.{goes_on, ends, is_done}
use Rattle.pg_copy_binary.proofs.binary_part.values_of.Goals as goal

pub returns-in_default : goal.returns-in_default
returns-in_default c =
    let l = c.loop in
    rw (ends c.args.limit (no_part c.in_default.field-0) l.row c.args.count l.counter l.rest.now (values_at c.args.limit c.args.count c.args.bytes.now) c.loop-test.true c.in_default.ensures l.invariant) tt

pub loop-preserved : goal.loop-preserved
loop-preserved c =
    let l = c.loop in
    rw c.in_ok-push.ensures.ok (goes_on c.args.limit l.row c.args.count l.counter l.rest.now _ c.in-Ok.after.now (values_at c.args.limit c.args.count c.args.bytes.now) c.loop-test.true c.in-Ok.ensures l.invariant)

pub returns : goal.returns
returns c =
    let l = c.loop in
    rw (is_done c.args.limit l.row c.args.count l.counter l.rest.now (values_at c.args.limit c.args.count c.args.bytes.now) c.loop-test.false l.invariant) refl
