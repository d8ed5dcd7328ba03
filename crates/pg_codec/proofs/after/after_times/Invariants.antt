use Rattle.std.proofs.Common.{◌≡◌, ◌-◌}
use Rattle.pg_codec.specs.Private.Reader.{times_at}
use Rattle.pg_codec.specs.Private.Lent.{left_after}
use Rattle.pg_codec.proofs.after.after_times.Given as goal

-- what is left after the fields that are to come is what is left after all
abbrev pub invariant-loop : goal.invariant-loop
invariant-loop g l = left_after (times_at g.T.ReadField.reading (l.count - l.counter) l.rest) ≡ left_after (times_at g.T.ReadField.reading l.count l.bytes)
