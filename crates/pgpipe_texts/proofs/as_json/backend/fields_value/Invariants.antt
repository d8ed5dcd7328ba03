use Rattle.std.proofs.Common.{◌≡◌, ◌++◌, map}
use Rattle.serde_json.specs.View.{view}
use Rattle.pgpipe_texts.specs.Json.Backend.{field_json}
use Rattle.pgpipe_texts.proofs.as_json.backend.fields_value.Given as goal

-- with the fields that are left, the list is that of all
abbrev pub invariant-fields : goal.invariant-fields
invariant-fields l = map view l.list.items ++ map field_json l.field-iterator ≡ map field_json l.fields
