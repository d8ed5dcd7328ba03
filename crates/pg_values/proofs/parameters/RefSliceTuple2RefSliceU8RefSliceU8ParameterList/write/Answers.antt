use Rattle.pg_values.proofs.Lists.{pairs_spelled}
use Rattle.pg_values.proofs.parameters.RefSliceTuple2RefSliceU8RefSliceU8ParameterList.write.Goals as goal

pub write-requires-clause-size : goal.write-requires-clause-size
write-requires-clause-size c = rw (pairs_spelled c.args.self.now.now) c.requires

pub returns-clause-added : goal.returns-clause-added
returns-clause-added c = rw (← pairs_spelled c.args.self.now.now) c.write.ensures.added
