use Rattle.std.proofs.Common.{rules, length, sym, ap, ◌∙◌}
use Rattle.pg_codec.specs.Private.Lent.{lent_field}
use Rattle.pg_values.proofs.Views.{field_comes, no_field_comes}
use Rattle.pg_values.proofs.view.LentFieldsIterator.next.Goals as goal

pub returns-in_err-field-clause-steps : goal.returns-in_err-field-clause-steps
returns-in_err-field-clause-steps c =
    let none = sym c.self.view_is ∙ no_field_comes c.self.inside.fields.now c.in_err-field.ensures in
    rw c.from_residual.ensures (none, none)

pub returns-clause-steps : goal.returns-clause-steps
returns-clause-steps c = sym c.self.view_is ∙ field_comes c.self.inside.fields.now (lent_field c.in_ok-field.field) c.in_ok-field.fields.now c.in_ok-field.ensures

pub returns-clause-goes : goal.returns-clause-goes
returns-clause-goes c =
    let step = sym c.self.view_is ∙ field_comes c.self.inside.fields.now (lent_field c.in_ok-field.field) c.in_ok-field.fields.now c.in_ok-field.ensures in
    let shorter = ap length step in
    search rules
