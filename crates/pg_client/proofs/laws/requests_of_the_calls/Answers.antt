use Rattle.pg_client.proofs.Turns.TakingTurns.{all_settled_by_calls, asked_last, ready_again}
use Rattle.pg_client.proofs.laws.requests_of_the_calls.Goals as goal

pub returns-clause-ready : goal.returns-clause-ready
returns-clause-ready c = all_settled_by_calls

pub returns-clause-back : goal.returns-clause-back
returns-clause-back c = ready_again

pub returns-clause-asked : goal.returns-clause-asked
returns-clause-asked c = asked_last
