-- What is left has the place that all has.
use Rattle.std.proofs.Common.{◌≡◌, drop}
use Rattle.pgpipe_explain.specs.Tracker.{place_in}
use Rattle.pgpipe_explain.proofs.tracker.place_in.Given as goal

abbrev pub invariant-loop-byte : goal.invariant-loop-byte
invariant-loop-byte l = place_in l.tracker (drop l.byte-index l.bytes) l.number ≡ place_in l.fn.tracker l.bytes l.number
