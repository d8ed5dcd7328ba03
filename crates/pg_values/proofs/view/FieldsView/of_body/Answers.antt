use Rattle.std.proofs.Common.{arith}
use Rattle.pg_values.proofs.Views.{fields_is}
use Rattle.pg_values.proofs.Kept.{is_fields}
use Rattle.pg_values.proofs.view.FieldsView.of_body.Goals as goal

pub returns : goal.returns
returns c = fields_is c.args.body.now c.requires

pub invariant_of-result : goal.invariant_of-result
invariant_of-result c = is_fields c.args.body.now (λ i. omega (arith, c.type_inv.body i)) c.requires
