use Rattle.std.proofs.lemmas.Result.{on_ok_weaker}
use Rattle.pg_client.proofs.Keeping.Queueing.{keeps_part}
use Rattle.pg_client.proofs.queue.QueueKeeper.keep.Goals as goal

pub returns-clause-ok : goal.returns-clause-ok
returns-clause-ok c =
    on_ok_weaker c.push.result (keeps_part c.args._request.now c.args._place.now c.args.message c.args.self.now c.push.new.self) c.push.ensures.ok
