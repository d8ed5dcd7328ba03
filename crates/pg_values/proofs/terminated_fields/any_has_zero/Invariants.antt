use Rattle.std.proofs.Common.{◌≡◌}
use Rattle.pg_codec.specs.Field.{listed}
use Rattle.pg_codec.specs.Value.{error_field}
use Rattle.pg_values.proofs.terminated_fields.any_has_zero.Given as goal

-- a zero byte stands in those that are left, or in none
abbrev pub invariant-fields : goal.invariant-fields
invariant-fields l = (listed error_field l.field-iterator).has_zero ≡ (listed error_field l.fields).has_zero
