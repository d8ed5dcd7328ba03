use Rattle.std.proofs.Common.{◌≡◌, take, map}
use Rattle.pgpipe_loop.specs.Private.Lines.{with_rows}
use Rattle.pgpipe_loop.proofs.lines.lists.put_each_line.Given as goal

abbrev pub invariant-loop-item : goal.invariant-loop-item
invariant-loop-item g l = l.lines ≡ with_rows l.initial.lines (map g.T.PutsLine.line_row (take l.item-index l.items))
