use Rattle.std.proofs.Common.{◌≡◌, take}
use Rattle.pg_backend.specs.Outcome.{parts_of}
use Rattle.pg_backend.proofs.outcome.complete_parts.Given as goal

abbrev pub invariant-loop-part : goal.invariant-loop-part
invariant-loop-part l = l.complete ≡ parts_of (take l.part-index l.parts)
