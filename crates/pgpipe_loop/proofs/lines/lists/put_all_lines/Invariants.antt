use Rattle.std.proofs.Common.{◌≡◌, take}
use Rattle.std.specs.List.{flat_map}
use Rattle.pgpipe_loop.specs.Private.Lines.{with_rows}
use Rattle.pgpipe_loop.proofs.lines.lists.put_all_lines.Given as goal

abbrev pub invariant-loop-item : goal.invariant-loop-item
invariant-loop-item g l = l.lines ≡ with_rows l.initial.lines (flat_map g.T.PutsLines.rows (take l.item-index l.items))
