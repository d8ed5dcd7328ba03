use Rattle.std.proofs.Common.{◌≡◌, length}
use Rattle.pgpipe_lines.specs.Arguments.{error_fields_of}
use Rattle.pgpipe_lines.proofs.FieldLists.{onto}
use Rattle.pgpipe_lines.proofs.arguments.Arguments.error_fields.Given as goal

abbrev pub invariant-loop-self : goal.invariant-loop-self
invariant-loop-self l = error_fields_of l.fn.self ≡ onto l.fields (error_fields_of l.self)

abbrev pub decreases-loop-self : goal.decreases-loop-self
decreases-loop-self l = length l.self
