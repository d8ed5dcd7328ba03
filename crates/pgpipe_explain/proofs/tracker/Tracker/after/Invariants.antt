-- What is left takes the tracker to where all takes it.
use Rattle.std.proofs.Common.{◌≡◌, drop}
use Rattle.pgpipe_explain.specs.Tracker.{after}
use Rattle.pgpipe_explain.proofs.tracker.Tracker.after.Given as goal

abbrev pub invariant-loop-byte : goal.invariant-loop-byte
invariant-loop-byte l = after l.tracker (drop l.byte-index l.bytes) ≡ after l.fn.self l.bytes
