use Rattle.std.proofs.Common.{◌≡◌, ◌++◌}
use Rattle.pgpipe_lines.proofs.arguments.fields_of.Given as goal

abbrev pub invariant-loop-value : goal.invariant-loop-value
invariant-loop-value l = l.fields.items ++ l.value-iterator ≡ l.row
