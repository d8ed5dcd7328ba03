use Rattle.std.proofs.Common.{◌≡◌, length}
use Rattle.pgpipe_lines.specs.Arguments.{numbers_of}
use Rattle.pgpipe_lines.proofs.FieldLists.{onto}
use Rattle.pgpipe_lines.proofs.arguments.Arguments.numbers.Given as goal

abbrev pub invariant-loop-numbers : goal.invariant-loop-numbers
invariant-loop-numbers l = numbers_of l.fn.self ≡ onto l.numbers (numbers_of l.self)

abbrev pub decreases-loop-numbers : goal.decreases-loop-numbers
decreases-loop-numbers l = length l.self
