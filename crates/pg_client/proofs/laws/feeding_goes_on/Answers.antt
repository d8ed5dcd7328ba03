use Rattle.pg_client.proofs.Turns.TakingTurns.{fed_on}
use Rattle.pg_client.proofs.laws.feeding_goes_on.Goals as goal

pub returns : goal.returns
returns c = fed_on
