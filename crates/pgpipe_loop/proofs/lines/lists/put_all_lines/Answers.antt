use Rattle.pgpipe_loop.proofs.LineWriting.{lines_more}
use Rattle.pgpipe_loop.proofs.lines.lists.put_all_lines.Goals as goal

pub loop-item-preserved : goal.loop-item-preserved
loop-item-preserved g c = lines_more g.T.PutsLines.rows c.args.lines.now c.loop-item.lines c.put_lines.new.lines c.args.items.now c.loop-item.item-index c.item-item.result c.loop-item-test.true c.item-item.is c.loop-item.invariant c.in_ok-put_lines.ensures
