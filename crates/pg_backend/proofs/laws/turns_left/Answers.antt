use Rattle.pg_backend.proofs.Turns.PartOfTurns.{turns_left}
use Rattle.pg_backend.proofs.laws.turns_left.Goals as goal

pub returns : goal.returns
returns c = turns_left
