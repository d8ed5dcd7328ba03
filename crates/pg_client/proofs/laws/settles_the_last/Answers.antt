use Rattle.pg_client.proofs.Turns.TakingTurns.{settles_last, all_settled}
use Rattle.pg_client.proofs.laws.settles_the_last.Goals as goal

pub returns-clause-fed : goal.returns-clause-fed
returns-clause-fed c = settles_last c.one_outcome.ensures

pub returns-clause-ready : goal.returns-clause-ready
returns-clause-ready c = all_settled
