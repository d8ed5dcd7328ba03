use Rattle.pg_client.proofs.Standing.Facts.{client_facts}
use Rattle.pg_client.proofs.laws.facts_of_a_run.Goals as goal

pub returns : goal.returns
returns c = client_facts
