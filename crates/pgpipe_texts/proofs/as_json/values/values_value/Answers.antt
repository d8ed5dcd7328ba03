use Rattle.std.specs.Prelude.{option_copied}
use Rattle.pgpipe_texts.specs.Json.Values.{text_or_null}
use Rattle.pgpipe_texts.proofs.JsonLists.{first_left}
use Rattle.pgpipe_texts.proofs.as_json.values.values_value.Goals as goal

pub values-preserved : goal.values-preserved
values-preserved c = first_left text_or_null c.values.list.items c.push.new.list.items c.in_ok-shown.shown (option_copied c.in-Some.value) c.values.value-iterator c.next.new.self _ c.in-Some.ensures.steps c.in_ok-push.ensures.ok c.in_ok-shown.ensures c.values.invariant
