use Rattle.std.proofs.Common.{◌≡◌, false, take}
use Rattle.pg_codec.specs.Field.{listed}
use Rattle.pg_codec.proofs.writer.any_has_zero.Given as goal

abbrev pub invariant-loop-item : goal.invariant-loop-item
invariant-loop-item g l = (listed g.T.Field.layout (take l.item-index l.items)).has_zero ≡ false
