use Rattle.pg_values.proofs.Lists.{pairs_spelled}
use Rattle.pg_values.proofs.parameters.RefSliceTuple2RefSliceU8RefSliceU8ParameterList.room_after.Goals as goal

pub returns : goal.returns
returns c = rw (← pairs_spelled c.args.self.now.now) c.room_after.ensures
