use Rattle.std.proofs.Common.{rules, ◌≡◌, ◌-◌, length, suc, option_copied, sym, ap, ◌∙◌, refl}
use Rattle.pg_values.proofs.Views.{value_comes}
use Rattle.pg_values.proofs.Blocks.{row_begins, row_goes}
use Rattle.pg_values.proofs.view.LentValuesIterator.next.Goals as goal

pub first_value-requires : goal.first_value-requires
first_value-requires c =
    let some : c.self.inside.count ≡ suc (c.self.inside.count - 1) = search rules in
    let b = row_begins c.self.inside.count (c.self.inside.count - 1) c.self.inside.values.now some c.self.invariant in
    rw b.2 refl

pub invariant_of-self : goal.invariant_of-self
invariant_of-self c =
    let some : c.self.inside.count ≡ suc (c.self.inside.count - 1) = search rules in
    row_goes c.self.inside.count (c.self.inside.count - 1) c.self.inside.values.now some c.self.invariant (option_copied c.first_value.result.0) c.first_value.result.1.now c.first_value.ensures

pub returns-clause-steps : goal.returns-clause-steps
returns-clause-steps c =
    let some : c.self.inside.count ≡ suc (c.self.inside.count - 1) = search rules in
    sym c.self.view_is ∙ value_comes c.self.inside.count (c.self.inside.count - 1) c.self.inside.values.now (option_copied c.first_value.result.0) c.first_value.result.1.now some (sym c.first_value.ensures)

pub returns-clause-goes : goal.returns-clause-goes
returns-clause-goes c =
    let some : c.self.inside.count ≡ suc (c.self.inside.count - 1) = search rules in
    let step = sym c.self.view_is ∙ value_comes c.self.inside.count (c.self.inside.count - 1) c.self.inside.values.now (option_copied c.first_value.result.0) c.first_value.result.1.now some (sym c.first_value.ensures) in
    let shorter = ap length step in
    search rules
