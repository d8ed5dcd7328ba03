use Rattle.pg_client.specs.Client.{happenings}
use Rattle.pg_client.proofs.Turns.TurnLaws.{spelled_in_turns}
use Rattle.pg_client.proofs.laws.spelled_in_a_run.Goals as goal

pub returns : goal.returns
returns c = λ h client r. spelled_in_turns client.settings (happenings h) r.agrees.happened.allowed r.agrees.happened.spelled
