use Rattle.std.proofs.Common.{◌≡◌, ◌-◌, length}
use Rattle.pg_codec.specs.Private.Reader.{up_to_zero_at}
use Rattle.pg_codec.specs.Private.Lent.{left_after}
use Rattle.pg_codec.proofs.after.after_terminated.Given as goal

-- what is left after the fields that are to come is what is left after all
abbrev pub invariant-loop : goal.invariant-loop
invariant-loop g l = left_after (up_to_zero_at g.T.ReadField.reading (length l.bytes - l.counter) l.rest) ≡ left_after (up_to_zero_at g.T.ReadField.reading (length l.bytes) l.bytes)
