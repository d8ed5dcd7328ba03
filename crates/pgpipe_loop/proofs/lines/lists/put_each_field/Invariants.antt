use Rattle.std.proofs.Common.{◌≡◌, take, map}
use Rattle.pgpipe_loop.specs.Private.Lines.{with_fields}
use Rattle.pgpipe_loop.proofs.lines.lists.put_each_field.Given as goal

abbrev pub invariant-loop-item : goal.invariant-loop-item
invariant-loop-item g l = l.lines ≡ with_fields l.initial.lines (map g.T.PutsField.field (take l.item-index l.items))
