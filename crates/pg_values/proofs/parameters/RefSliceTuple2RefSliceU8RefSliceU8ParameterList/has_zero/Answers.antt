use Rattle.pg_values.proofs.Lists.{pairs_zero}
use Rattle.pg_values.proofs.parameters.RefSliceTuple2RefSliceU8RefSliceU8ParameterList.has_zero.Goals as goal

pub returns : goal.returns
returns c = rw (← pairs_zero c.args.self.now.now) c.has_zero.ensures
