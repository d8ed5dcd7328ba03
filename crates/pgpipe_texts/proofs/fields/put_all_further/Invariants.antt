use Rattle.std.proofs.Common.{◌≡◌, ◌++◌}
use Rattle.std.specs.List.{flat_map}
use Rattle.pgpipe_texts.specs.Fields.{further_field}
use Rattle.pgpipe_texts.proofs.fields.put_all_further.Given as goal

-- with the fields that are left, the line is that of all
abbrev pub invariant-fields : goal.invariant-fields
invariant-fields l = l.line.items ++ flat_map further_field l.field-iterator ≡ l.initial.line.items ++ flat_map further_field l.fields
