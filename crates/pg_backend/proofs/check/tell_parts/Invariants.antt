use Rattle.std.proofs.Common.{take}
use Rattle.std.specs.List.{flat_map}
use Rattle.pg_backend.specs.Check.{part_messages}
use Rattle.pg_backend.specs.Telling.{EncodesAll}
use Rattle.pg_backend.proofs.check.tell_parts.Given as goal

abbrev pub invariant-loop-part : goal.invariant-loop-part
invariant-loop-part l = EncodesAll (flat_map part_messages (take l.part-index l.parts)) l.initial.out.items l.so_far l.out.items
