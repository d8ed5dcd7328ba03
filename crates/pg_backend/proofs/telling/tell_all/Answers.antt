use Rattle.pg_backend.proofs.Machine.Tellings.{told_more}
use Rattle.pg_backend.proofs.telling.tell_all.Goals as goal

pub loop-item-preserved : goal.loop-item-preserved
loop-item-preserved g c = rw c.both-so_far.ensures (told_more g.T.Tell.messages c.args.items.now c.loop-item.item-index c.item-item.result c.args.out.now.items c.loop-item.out.items c.tell.new.out.items c.loop-item.so_far c.tell.result c.loop-item-test.true c.item-item.is c.loop-item.invariant c.tell.ensures)
