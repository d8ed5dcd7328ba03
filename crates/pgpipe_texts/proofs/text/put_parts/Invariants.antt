use Rattle.std.proofs.Common.{◌≡◌, ◌++◌, length}
use Rattle.pgpipe_texts.specs.Text.{shown_bytes}
use Rattle.pgpipe_texts.proofs.text.put_parts.Given as goal

-- with the bytes that are left, the line is that of all
abbrev pub invariant-loop-rest : goal.invariant-loop-rest
invariant-loop-rest l = l.line.items ++ shown_bytes l.utf8 l.mark l.rest ≡ l.initial.line.items ++ shown_bytes l.utf8 l.mark l.bytes

abbrev pub decreases-loop-rest : goal.decreases-loop-rest
decreases-loop-rest l = length l.rest
