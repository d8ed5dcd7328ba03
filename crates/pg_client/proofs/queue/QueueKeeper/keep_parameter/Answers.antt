use Rattle.std.proofs.Common.{rules, ◌≡◌, refl, ap}
use Rattle.pg_wire.specs.message.BackMessage.{BackMessage}
use Rattle.pg_wire.specs.message.BackMessage.TheVariants.{ParameterStatus}
use Rattle.pg_wire.specs.Segment.{status_of}
use Rattle.pg_client.proofs.Keeping.Queueing.{keeps_aside}
use Rattle.pg_client.proofs.queue.QueueKeeper.keep_parameter.Goals as goal

pub returns-clause-ok : goal.returns-clause-ok
returns-clause-ok c =
    let same : ParameterStatus c.in_ok-kept_name.kept_name c.in_ok-kept_value.kept_value ≡ ParameterStatus c.args.name c.args.value = search rules in
    keeps_aside (λ (m : BackMessage). m ≡ ParameterStatus c.args.name c.args.value) (ParameterStatus c.args.name c.args.value) c.args.self.now c.push_back_reserved.new.self.items (λ m is. (is, ap status_of is))
    (rw (c.push_back_reserved.ensures.items, c.reserve.ensures.items, c.self.view_is, same) refl)
