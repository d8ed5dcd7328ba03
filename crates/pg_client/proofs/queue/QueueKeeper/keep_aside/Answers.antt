use Rattle.std.proofs.Common.{◌≡◌, Some, sym, ◌∙◌}
use Rattle.std.proofs.lemmas.Result.{on_ok_weaker}
use Rattle.pg_wire.specs.message.BackMessage.{BackMessage}
use Rattle.pg_wire.specs.Segment.{aside_of}
use Rattle.pg_client.proofs.Hearing.Messages.{is_aside_message}
use Rattle.pg_client.proofs.Events.OneMessage.{aside_ends_nothing}
use Rattle.pg_client.proofs.Keeping.Queueing.{keeps_aside}
use Rattle.pg_client.proofs.queue.QueueKeeper.keep_aside.Goals as goal

pub returns-clause-ok : goal.returns-clause-ok
returns-clause-ok c =
    on_ok_weaker c.push.result (keeps_aside (λ (m : BackMessage). aside_of m ≡ Some c.args.aside) c.aside_message.result c.args.self.now c.push.new.self
    (λ m is. (sym (is_aside_message m c.args.aside is) ∙ sym c.aside_message.ensures, aside_ends_nothing m c.args.aside is))) c.push.ensures.ok
