use Rattle.pg_backend.specs.Check.{part_messages}
use Rattle.pg_backend.proofs.Machine.Tellings.{told_more}
use Rattle.pg_backend.proofs.check.tell_parts.Goals as goal

pub loop-part-preserved : goal.loop-part-preserved
loop-part-preserved c = rw c.both-so_far.ensures (told_more part_messages c.args.parts.now c.loop-part.part-index c.part-item.result c.args.out.now.items c.loop-part.out.items c.tell_part.new.out.items c.loop-part.so_far c.tell_part.result c.loop-part-test.true c.part-item.is c.loop-part.invariant c.tell_part.ensures)
