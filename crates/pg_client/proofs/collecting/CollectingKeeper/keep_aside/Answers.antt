use Rattle.std.proofs.Common.{◌≡◌, Some}
use Rattle.std.proofs.lemmas.Result.{on_ok_weaker}
use Rattle.pg_wire.specs.message.BackMessage.{BackMessage}
use Rattle.pg_wire.specs.Segment.{aside_of}
use Rattle.pg_client.proofs.Keeping.Groups.{keeps_aside}
use Rattle.pg_client.proofs.collecting.CollectingKeeper.keep_aside.Goals as goal

pub returns-clause-ok : goal.returns-clause-ok
returns-clause-ok c = on_ok_weaker c.add_aside.result (keeps_aside c.args.aside (λ (m : BackMessage). aside_of m ≡ Some c.args.aside) (λ m is. is) _ c.args.self.now c.self.view_is c.add_aside.new.self) c.add_aside.ensures.ok
