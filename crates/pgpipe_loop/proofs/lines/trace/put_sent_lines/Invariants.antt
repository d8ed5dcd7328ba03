use Rattle.std.proofs.Common.{◌≡◌, ◌≤◌, length}
use Rattle.pgpipe_loop.specs.Trace.{sent_rows}
use Rattle.pgpipe_loop.specs.Private.Lines.{with_rows}
use Rattle.pgpipe_loop.proofs.lines.trace.put_sent_lines.Given as goal

-- with the lines of the bytes that are left, the lines so far are all
abbrev pub invariant-loop-rest : goal.invariant-loop-rest
invariant-loop-rest l =
    (with_rows l.lines (sent_rows (length l.rest) l.way l.before l.rest) ≡ with_rows l.initial.lines (sent_rows (length l.bytes) l.way l.initial.before l.bytes)) × (l.before ≤ 1)

abbrev pub decreases-loop-rest : goal.decreases-loop-rest
decreases-loop-rest l = length l.rest
