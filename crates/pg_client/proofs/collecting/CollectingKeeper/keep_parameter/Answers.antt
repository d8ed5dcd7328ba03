use Rattle.std.proofs.Common.{◌≡◌, ap, ◌∙◌}
use Rattle.pg_wire.specs.declared.session.Aside.TheVariants.{Parameter}
use Rattle.pg_wire.specs.message.BackMessage.{BackMessage}
use Rattle.pg_wire.specs.message.BackMessage.TheVariants.{ParameterStatus}
use Rattle.pg_wire.specs.Segment.{aside_of}
use Rattle.pg_response.specs.Collected.{collected_with}
use Rattle.pg_client.proofs.Keeping.Groups.{keeps_aside}
use Rattle.pg_client.proofs.collecting.CollectingKeeper.keep_parameter.Goals as goal

pub returns-clause-ok : goal.returns-clause-ok
returns-clause-ok c =
    keeps_aside (Parameter c.args.name c.args.value) (λ (m : BackMessage). m ≡ ParameterStatus c.args.name c.args.value) (λ m is. ap aside_of is) _ c.args.self.now c.self.view_is c.add_aside.new.self
    (c.in_ok-add_aside.ensures.ok ∙ ap (collected_with c.self.inside.collected) c.in_ok-copied.ensures)
