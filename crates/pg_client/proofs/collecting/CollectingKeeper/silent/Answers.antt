use Rattle.pg_client.proofs.Keeping.Groups.{collecting_is_silent}
use Rattle.pg_client.proofs.collecting.CollectingKeeper.silent.Goals as goal

pub returns : goal.returns
returns c = collecting_is_silent
