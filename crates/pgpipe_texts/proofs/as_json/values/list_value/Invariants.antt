use Rattle.std.proofs.Common.{◌≡◌, map, take}
use Rattle.serde_json.specs.View.{view}
use Rattle.pgpipe_texts.proofs.as_json.values.list_value.Given as goal

-- those that were gone over have their values
abbrev pub invariant-loop-item : goal.invariant-loop-item
invariant-loop-item g l = map view l.list.items ≡ map g.T.ToJson.shown (take l.item-index l.items)
