use Rattle.std.proofs.Common.{◌≡◌, take}
use Rattle.pg_backend.proofs.outcome.copy_of_rows.Given as goal

abbrev pub invariant-loop-row : goal.invariant-loop-row
invariant-loop-row l = l.copy ≡ take l.row-index l.rows
