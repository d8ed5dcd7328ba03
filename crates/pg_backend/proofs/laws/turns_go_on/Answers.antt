use Rattle.pg_backend.proofs.Turns.PartOfTurns.{turns_go_on}
use Rattle.pg_backend.proofs.laws.turns_go_on.Goals as goal

pub returns : goal.returns
returns c = turns_go_on
