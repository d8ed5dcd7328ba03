use Rattle.std.proofs.Common.{List, map, ap, ◌∙◌, arith}
use Rattle.std.proofs.lemmas.List.{take_all}
use Rattle.serde_json.specs.Data.{Data, array}
use Rattle.serde_json.specs.View.{items_of}
use Rattle.pgpipe_texts.proofs.JsonLists.{one_more}
use Rattle.pgpipe_texts.proofs.as_json.values.list_value.Goals as goal

pub loop-item-preserved : goal.loop-item-preserved
loop-item-preserved g c = one_more g.T.ToJson.shown c.loop-item.list.items c.push.new.list.items c.in_ok-shown.shown c.args.items.now c.loop-item.item-index c.item-item.result (omega arith) c.item-item.is c.loop-item.invariant c.in_ok-push.ensures.ok c.in_ok-shown.ensures

pub returns : goal.returns
returns g c = c.from.ensures ∙ ap (λ (ds : List Data). array (items_of ds)) (c.loop-item.invariant ∙ ap (map g.T.ToJson.shown) (take_all c.loop-item.item-index c.args.items.now (omega arith)))
