use Rattle.pg_copy_binary.proofs.Given.{row_of}
use Rattle.pg_copy_binary.proofs.BinaryPuts.{AreAt}
use Rattle.pg_copy_binary.proofs.binary_values.put_values.Given as goal

abbrev pub invariant-loop-field : goal.invariant-loop-field
invariant-loop-field g l = (goal.iterator-loop-field g).can_next l.field-iterator × (goal.iterator-loop-field g).is_finite l.field-iterator
    × AreAt l.place l.initial.block (row_of l.yielded) l.at l.block
