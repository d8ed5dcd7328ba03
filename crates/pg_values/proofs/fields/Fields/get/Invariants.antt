use Rattle.std.proofs.Common.{◌≡◌}
use Rattle.pg_values.specs.Fields.{field_text}
use Rattle.pg_values.proofs.fields.Fields.get.Given as goal

-- the first text of those that are left is the first of all
abbrev pub invariant-fields : goal.invariant-fields
invariant-fields l = field_text l.code l.field-iterator ≡ field_text l.code l.self
