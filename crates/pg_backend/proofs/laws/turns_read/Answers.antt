use Rattle.pg_backend.proofs.Turns.TurnByTurn.{turns_read}
use Rattle.pg_backend.proofs.laws.turns_read.Goals as goal

pub returns : goal.returns
returns c = turns_read
