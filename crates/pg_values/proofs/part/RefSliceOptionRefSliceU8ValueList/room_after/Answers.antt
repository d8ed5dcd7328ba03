use Rattle.pg_values.proofs.Lists.{lent_spelled}
use Rattle.pg_values.proofs.part.RefSliceOptionRefSliceU8ValueList.room_after.Goals as goal

pub returns : goal.returns
returns c = rw (← lent_spelled c.args.self.now.now) c.room_after.ensures
