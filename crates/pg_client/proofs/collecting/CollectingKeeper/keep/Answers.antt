use Rattle.std.proofs.lemmas.Result.{on_ok_weaker}
use Rattle.pg_client.proofs.Keeping.Groups.{keeps_part}
use Rattle.pg_client.proofs.collecting.CollectingKeeper.keep.Goals as goal

pub returns-clause-ok : goal.returns-clause-ok
returns-clause-ok c = on_ok_weaker c.add.result (keeps_part c.args.request.now c.args.place.now c.args.message _ c.args.self.now c.self.view_is c.add.new.self) c.add.ensures.ok
