use Rattle.std.proofs.Common.{arith}
use Rattle.pg_codec.proofs.Loops.{part_of}
use Rattle.pg_codec.proofs.writer.write_all.Goals as goal

pub write-requires : goal.write-requires
write-requires g c = omega (arith, c.requires, part_of (λ x. (g.T.Field.layout x).bytes) c.args.items.now c.loop-item.item-index c.item-item.result c.loop-item-test.true c.item-item.is)
