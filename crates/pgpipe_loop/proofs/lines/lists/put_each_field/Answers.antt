use Rattle.pgpipe_loop.proofs.LineWriting.{field_more}
use Rattle.pgpipe_loop.proofs.lines.lists.put_each_field.Goals as goal

pub loop-item-preserved : goal.loop-item-preserved
loop-item-preserved g c = field_more g.T.PutsField.field c.args.lines.now c.loop-item.lines c.put_field.new.lines c.args.items.now c.loop-item.item-index c.item-item.result c.loop-item-test.true c.item-item.is c.loop-item.invariant c.in_ok-put_field.ensures
