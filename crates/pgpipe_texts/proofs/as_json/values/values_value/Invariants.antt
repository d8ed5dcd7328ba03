use Rattle.std.proofs.Common.{◌≡◌, ◌++◌, map}
use Rattle.serde_json.specs.View.{view}
use Rattle.pgpipe_texts.specs.Json.Values.{text_or_null}
use Rattle.pgpipe_texts.proofs.as_json.values.values_value.Given as goal

-- with the values that are left, the list is that of all
abbrev pub invariant-values : goal.invariant-values
invariant-values l = map view l.list.items ++ map text_or_null l.value-iterator ≡ map text_or_null l.fn.values
