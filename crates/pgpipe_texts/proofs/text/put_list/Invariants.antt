use Rattle.std.proofs.Common.{◌≡◌, ◌++◌, codes, take}
use Rattle.std.specs.List.{flat_map}
use Rattle.pgpipe_texts.proofs.text.put_list.Given as goal

abbrev pub invariant-loop-item : goal.invariant-loop-item
invariant-loop-item g l = l.line.items ≡ l.initial.line.items ++ flat_map (λ y. codes ", " ++ g.T.Readable.text y) (take l.item-index l.rest)
