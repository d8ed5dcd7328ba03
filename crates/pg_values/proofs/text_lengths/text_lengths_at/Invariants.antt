use Rattle.pg_values.proofs.Kept.{LengthsSoFar}
use Rattle.pg_values.proofs.text_lengths.text_lengths_at.Given as goal

-- the lengths of the texts that were passed, and the fields that are still to come
abbrev pub invariant-loop : goal.invariant-loop
invariant-loop l = LengthsSoFar l.counter l.bytes l.lengths.items l.rest
