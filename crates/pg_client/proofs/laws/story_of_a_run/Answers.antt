use Rattle.pg_client.proofs.Turns.Ordering.{keeps_order, one_more}
use Rattle.pg_client.proofs.laws.story_of_a_run.Goals as goal

pub returns-clause-order : goal.returns-clause-order
returns-clause-order c = keeps_order

pub returns-clause-one_more : goal.returns-clause-one_more
returns-clause-one_more c = one_more
