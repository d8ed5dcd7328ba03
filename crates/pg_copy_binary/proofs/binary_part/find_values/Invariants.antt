use Rattle.std.proofs.Common.{◌≡◌, ◌<◌, drop}
use Rattle.pg_copy_binary.specs.Private.BinaryPart.{IsWalkBegun}
use Rattle.pg_copy_binary.proofs.binary_part.find_values.Given as goal

abbrev pub invariant-loop-left : goal.invariant-loop-left
invariant-loop-left l = record {
  begun : IsWalkBegun l.columns l.limit l.bytes (record { at = l.at; left = l.left });
  some : 0 < l.at;
  rest : l.rest ≡ drop l.at l.bytes;
}

abbrev pub decreases-loop-left : goal.decreases-loop-left
decreases-loop-left l = l.left
