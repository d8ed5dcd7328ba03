use Rattle.pg_client.proofs.Events.Beginnings.{expected_begins, expected_no_longer}
use Rattle.pg_client.proofs.laws.expected_begins.Goals as goal

pub returns-clause-begins : goal.returns-clause-begins
returns-clause-begins c = expected_begins

pub returns-clause-longest : goal.returns-clause-longest
returns-clause-longest c = expected_no_longer
