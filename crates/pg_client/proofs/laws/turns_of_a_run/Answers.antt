use Rattle.pg_client.specs.Keeping.{collecting}
use Rattle.pg_client.proofs.Events.Passwords.{history_in_turns}
use Rattle.pg_client.proofs.laws.turns_of_a_run.Goals as goal

pub returns : goal.returns
returns c = λ h client r. history_in_turns collecting h client r.agrees
