use Rattle.std.proofs.Common.{refl, arith}
use Rattle.pg_values.proofs.Kept.{body_size}
use Rattle.pg_values.proofs.fields.Fields.of_view.Goals as goal

pub returns-then-body-clause-too_long : goal.returns-then-body-clause-too_long
returns-then-body-clause-too_long c = (λ e. omega (arith, c.if-body.true, body_size c.body-body.result.now c.args.view.now c.body-body.ensures.whole c.body-body.ensures.fields), λ long. refl)

pub returns-in-Err-clause-too_long : goal.returns-in-Err-clause-too_long
returns-in-Err-clause-too_long c = (λ e. absurd cc, λ long. absurd (omega (arith, c.if-body.false, body_size c.body-body.result.now c.args.view.now c.body-body.ensures.whole c.body-body.ensures.fields)))
