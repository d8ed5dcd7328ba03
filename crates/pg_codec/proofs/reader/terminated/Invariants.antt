use Rattle.std.proofs.Common.{◌≡◌, ◌-◌, length}
use Rattle.pg_codec.specs.Private.Reader.{up_to_zero_at}
use Rattle.pg_codec.proofs.Loops.{with_first}
use Rattle.pg_codec.proofs.reader.terminated.Given as goal

-- the items so far, and what is read after them, are what is read in all
abbrev pub invariant-loop : goal.invariant-loop
invariant-loop g l = with_first l.items.items (up_to_zero_at g.T.ReadField.reading (length l.bytes - l.counter) l.rest) ≡ up_to_zero_at g.T.ReadField.reading (length l.bytes) l.bytes
