use Rattle.pg_values.proofs.Lists.{lent_spelled, lent_count}
use Rattle.pg_values.proofs.part.RefSliceOptionRefSliceU8ValueList.write.Goals as goal

pub write-requires-clause-size : goal.write-requires-clause-size
write-requires-clause-size c = rw (lent_spelled c.args.self.now.now) c.requires.size

pub returns-clause-added : goal.returns-clause-added
returns-clause-added c = rw (← lent_spelled c.args.self.now.now, lent_count c.args.self.now.now) c.write.ensures.added
