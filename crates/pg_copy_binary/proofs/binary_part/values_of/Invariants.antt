use Rattle.std.proofs.Common.{◌≡◌, ◌-◌}
use Rattle.pg_copy_binary.specs.BinaryPart.{values_at}
use Rattle.pg_copy_binary.proofs.BinaryLoop.{with_front}
use Rattle.pg_copy_binary.proofs.binary_part.values_of.Given as goal

abbrev pub invariant-loop : goal.invariant-loop
invariant-loop l = with_front l.row (values_at l.limit (l.count - l.counter) l.rest) ≡ values_at l.limit l.count l.bytes
