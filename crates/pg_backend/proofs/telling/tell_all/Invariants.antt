use Rattle.std.proofs.Common.{take}
use Rattle.std.specs.List.{flat_map}
use Rattle.pg_backend.specs.Telling.{EncodesAll}
use Rattle.pg_backend.proofs.telling.tell_all.Given as goal

abbrev pub invariant-loop-item : goal.invariant-loop-item
invariant-loop-item g l = EncodesAll (flat_map g.T.Tell.messages (take l.item-index l.items)) l.initial.out.items l.so_far l.out.items
