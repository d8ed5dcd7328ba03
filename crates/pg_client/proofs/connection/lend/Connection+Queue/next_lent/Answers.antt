use Rattle.std.proofs.Common.{rules}
use Rattle.pg_client.proofs.connection.lend.Connection+Queue.next_lent.Goals as goal

pub returns-in-Some-clause-takes : goal.returns-in-Some-clause-takes
returns-in-Some-clause-takes c = search rules
