use Rattle.pg_copy_binary.proofs.BinaryWalk.{head-end, start-after}
use Rattle.pg_copy_binary.proofs.binary_part.row_start.Goals as goal

pub overflow_sub-result : goal.overflow_sub-result
overflow_sub-result c = (head-end c.args.bytes.now _ c.in_ok-rest.rest.now c.in_ok-rest.ensures).0

pub returns : goal.returns
returns c = start-after c.args.in_head c.args.bytes.now c.args.start _ c.in_ok-rest.rest.now c.if-not-in_head.false c.if-start-gt0.false c.in_ok-rest.ensures
