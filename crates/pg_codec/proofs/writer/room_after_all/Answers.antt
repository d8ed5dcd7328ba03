use Rattle.std.proofs.Common.{arith}
use Rattle.pg_codec.proofs.Loops.{part_of}
use Rattle.pg_codec.proofs.writer.room_after_all.Goals as goal

pub returns-in_err-left : goal.returns-in_err-left
returns-in_err-left g c = rw c.from_residual.ensures (omega (arith, c.in_err-left.ensures, part_of (λ x. (g.T.Field.layout x).bytes) c.args.items.now c.loop-item.item-index c.item-item.result c.loop-item-test.true c.item-item.is))
