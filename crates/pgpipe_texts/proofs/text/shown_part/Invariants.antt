use Rattle.std.proofs.Common.{◌≡◌, ◌≤◌}
use Rattle.pgpipe_texts.specs.Text.{boundary}
use Rattle.pgpipe_texts.proofs.text.shown_part.Given as goal

abbrev pub invariant-loop-end : goal.invariant-loop-end
invariant-loop-end l = record { within : l.end ≤ 100; boundary : boundary l.bytes l.end ≡ boundary l.bytes 100 }

abbrev pub decreases-loop-end : goal.decreases-loop-end
decreases-loop-end l = l.end
