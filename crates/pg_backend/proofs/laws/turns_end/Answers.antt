use Rattle.pg_backend.proofs.Turns.TurnByTurn.{turns_end}
use Rattle.pg_backend.proofs.laws.turns_end.Goals as goal

pub returns : goal.returns
returns c = turns_end
