use Rattle.std.proofs.Common.{refl}
use Rattle.pg_client.proofs.Keeping.Queueing.{keeps_end}
use Rattle.pg_client.proofs.queue.QueueKeeper.settle.Goals as goal

pub returns-clause-ok : goal.returns-clause-ok
returns-clause-ok c = keeps_end c.args.request c.args.status c.args.self.now c.push_back_reserved.new.self.items (rw (c.push_back_reserved.ensures.items, c.reserve.ensures.items, c.self.view_is) refl)
