use Rattle.std.proofs.Common.{◌≡◌, take}
use Rattle.std.specs.Prelude.{map}
use Rattle.pg_codec.specs.Private.Lent.{lent_field}
use Rattle.pg_values.proofs.fields.Fields.from_slice.Given as goal

-- the fields so far
abbrev pub invariant-loop-field : goal.invariant-loop-field
invariant-loop-field l = l.fields ≡ map lent_field (take l.field-index l.list)
