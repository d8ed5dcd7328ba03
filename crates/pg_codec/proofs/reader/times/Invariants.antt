use Rattle.std.proofs.Common.{◌≡◌, ◌-◌}
use Rattle.pg_codec.specs.Private.Reader.{times_at}
use Rattle.pg_codec.proofs.Loops.{with_first}
use Rattle.pg_codec.proofs.reader.times.Given as goal

-- the items so far, and what is read after them, are what is read in all
abbrev pub invariant-loop : goal.invariant-loop
invariant-loop g l = with_first l.items.items (times_at g.T.ReadField.reading (l.count - l.counter) l.rest) ≡ times_at g.T.ReadField.reading l.count l.bytes
