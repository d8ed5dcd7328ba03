use Rattle.pg_values.proofs.Blocks.{Noting}
use Rattle.pg_values.proofs.places.note_all.Given as goal

-- the values that are passed, and those that are still to come
abbrev pub invariant-loop-index : goal.invariant-loop-index
invariant-loop-index l = Noting l.count l.index l.bytes l.rest l.places
