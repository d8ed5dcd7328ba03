use Rattle.std.proofs.Common.{◌≡◌, take, drop}
use Rattle.pg_backend.specs.Replies.{shape}
use Rattle.pg_backend.proofs.Machine.SplitAtCopy.{onto}
use Rattle.pg_backend.proofs.answering.split_at_copy.Given as goal

abbrev pub invariant-loop-i : goal.invariant-loop-i
invariant-loop-i l = shape l.fn.parts ≡ onto (take l.i l.fn.parts) (shape (drop l.i l.fn.parts))
