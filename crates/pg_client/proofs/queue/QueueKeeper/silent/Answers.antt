use Rattle.pg_client.proofs.Keeping.Queueing.{queueing_is_silent}
use Rattle.pg_client.proofs.queue.QueueKeeper.silent.Goals as goal

pub returns : goal.returns
returns c = queueing_is_silent
