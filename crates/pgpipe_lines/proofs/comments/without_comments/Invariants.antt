use Rattle.std.proofs.Common.{◌≡◌, ◌++◌, drop}
use Rattle.pgpipe_lines.specs.Comments.{uncommented, uncommented_from}
use Rattle.pgpipe_lines.proofs.comments.without_comments.Given as goal

-- with what is left of the bytes that are still to come, the text so far is all that is left
abbrev pub invariant-loop-byte : goal.invariant-loop-byte
invariant-loop-byte l = l.text.items ++ uncommented_from l.place (drop l.byte-index l.bytes) ≡ uncommented l.bytes
