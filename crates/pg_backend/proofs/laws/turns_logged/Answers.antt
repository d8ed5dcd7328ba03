use Rattle.pg_backend.proofs.Turns.PartOfTurns.{turns_logged}
use Rattle.pg_backend.proofs.laws.turns_logged.Goals as goal

pub returns : goal.returns
returns c = turns_logged
