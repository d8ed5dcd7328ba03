use Rattle.std.proofs.Common.{rules, ◌≡◌, ◌-◌, length, suc, option_copied, sym, ap, ◌∙◌}
use Rattle.pg_copy_binary.specs.Private.BinaryPart.{no_part}
use Rattle.pg_copy_binary.proofs.BinaryLent.{value_comes, no_value_comes, no_count}
use Rattle.pg_copy_binary.proofs.binary_row.LentValuesIterator.next.Goals as goal

pub returns-then-self-eq0-clause-steps : goal.returns-then-self-eq0-clause-steps
returns-then-self-eq0-clause-steps c =
    let none = sym c.self.view_is ∙ no_count c.self.inside.limit c.self.inside.count c.self.inside.values.now (search rules) in
    (none, none)

pub returns-in-Err-clause-steps : goal.returns-in-Err-clause-steps
returns-in-Err-clause-steps c =
    let none = sym c.self.view_is ∙ no_value_comes c.self.inside.limit c.self.inside.count c.self.inside.values.now (no_part c.in-Err.field-0) c.in-Err.ensures in
    (none, none)

pub returns-in-Ok-clause-steps : goal.returns-in-Ok-clause-steps
returns-in-Ok-clause-steps c =
    let some : c.self.inside.count ≡ suc (c.self.inside.count - 1) = search rules in
    sym c.self.view_is ∙ value_comes c.self.inside.limit c.self.inside.count (c.self.inside.count - 1) c.self.inside.values.now (option_copied c.in-Ok.value) c.in-Ok.values.now some c.in-Ok.ensures

pub returns-in-Ok-clause-goes : goal.returns-in-Ok-clause-goes
returns-in-Ok-clause-goes c =
    let some : c.self.inside.count ≡ suc (c.self.inside.count - 1) = search rules in
    let step = sym c.self.view_is ∙ value_comes c.self.inside.limit c.self.inside.count (c.self.inside.count - 1) c.self.inside.values.now (option_copied c.in-Ok.value) c.in-Ok.values.now some c.in-Ok.ensures in
    let shorter = ap length step in
    search rules
