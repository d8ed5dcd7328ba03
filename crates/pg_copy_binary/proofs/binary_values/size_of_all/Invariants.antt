use Rattle.std.proofs.Common.{Some, ◌*◌, ◌≤◌, length}
use Rattle.pg_copy_binary.specs.Private.BinaryRow.{AreSized}
use Rattle.pg_copy_binary.proofs.Given.{row_of}
use Rattle.pg_copy_binary.proofs.binary_values.size_of_all.Given as goal

abbrev pub invariant-loop-field : goal.invariant-loop-field
invariant-loop-field g l = (goal.iterator-loop-field g).can_next l.field-iterator × (goal.iterator-loop-field g).is_finite l.field-iterator
    × (l.size ≤ 2147483651 * length l.yielded) × AreSized (row_of l.yielded) (Some l.size)
