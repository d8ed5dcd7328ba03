use Rattle.std.proofs.Common.{◌≡◌, length}
use Rattle.pgpipe_convert.specs.Private.Values.{LineStands}
use Rattle.pg_copy.proofs.Given.{row_of}
use Rattle.pgpipe_convert.proofs.values.put_fields.Given as goal

abbrev pub invariant-loop-value : goal.invariant-loop-value
invariant-loop-value g l = (goal.iterator-loop-value g).can_next l.value-iterator × (goal.iterator-loop-value g).is_finite l.value-iterator
    × (l.before ≡ length l.yielded) × LineStands l.options (row_of l.yielded) l.initial.out.items l.so_far l.writer l.out.items
