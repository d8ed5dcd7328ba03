use Rattle.pg_backend.proofs.Turns.Loaded.{turns_loaded}
use Rattle.pg_backend.proofs.laws.turns_loaded.Goals as goal

pub returns : goal.returns
returns c = turns_loaded
