use Rattle.pg_client.proofs.Standing.Facts.{early_facts}
use Rattle.pg_client.proofs.laws.facts_of_an_early_run.Goals as goal

pub returns : goal.returns
returns c = early_facts
