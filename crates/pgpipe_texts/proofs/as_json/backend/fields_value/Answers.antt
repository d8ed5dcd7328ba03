use Rattle.pgpipe_texts.specs.Json.Backend.{field_json}
use Rattle.pgpipe_texts.proofs.JsonLists.{first_left}
use Rattle.pgpipe_texts.proofs.as_json.backend.fields_value.Goals as goal

pub fields-preserved : goal.fields-preserved
fields-preserved c = first_left field_json c.fields.list.items c.push.new.list.items c.in_ok-shown.shown (record { code = c.in-Some.field.0; value = c.in-Some.field.1.now }) c.fields.field-iterator c.next.new.self _ c.in-Some.ensures.steps c.in_ok-push.ensures.ok c.in_ok-shown.ensures c.fields.invariant
