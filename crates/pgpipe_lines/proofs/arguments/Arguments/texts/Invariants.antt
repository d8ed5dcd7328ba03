use Rattle.std.proofs.Common.{◌≡◌, length}
use Rattle.pgpipe_lines.specs.Arguments.{texts_of}
use Rattle.pgpipe_lines.proofs.FieldLists.{onto}
use Rattle.pgpipe_lines.proofs.arguments.Arguments.texts.Given as goal

abbrev pub invariant-loop-texts : goal.invariant-loop-texts
invariant-loop-texts l = texts_of l.fn.self ≡ onto l.texts (texts_of l.self)

abbrev pub decreases-loop-texts : goal.decreases-loop-texts
decreases-loop-texts l = length l.self
