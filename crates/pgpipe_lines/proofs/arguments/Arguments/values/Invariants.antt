use Rattle.std.proofs.Common.{◌≡◌, ◌++◌, length}
use Rattle.std.specs.Vec.Iter.{into_iter_items}
use Rattle.pgpipe_lines.proofs.arguments.Arguments.values.Given as goal

-- the values so far, and the fields that are left
abbrev pub invariant-values : goal.invariant-values
invariant-values l = l.fn.self ≡ l.values ++ into_iter_items l.self-inside.fields

abbrev pub decreases-values : goal.decreases-values
decreases-values l = length (into_iter_items l.self-inside.fields)
