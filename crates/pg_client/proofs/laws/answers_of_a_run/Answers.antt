use Rattle.pg_client.proofs.Turns.TakingTurns.{takes_turns}
use Rattle.pg_client.proofs.laws.answers_of_a_run.Goals as goal

pub returns : goal.returns
returns c = takes_turns
