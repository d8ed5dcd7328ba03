use Rattle.std.proofs.Common.{◌≡◌, ◌+◌, length, take}
use Rattle.pg_codec.specs.Field.{listed}
use Rattle.pg_codec.proofs.writer.room_after_all.Given as goal

abbrev pub invariant-loop-item : goal.invariant-loop-item
invariant-loop-item g l = l.left + length (listed g.T.Field.layout (take l.item-index l.items)).bytes ≡ l.room
