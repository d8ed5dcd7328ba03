use Rattle.pg_values.proofs.Lists.{pairs_unnamed}
use Rattle.pg_values.proofs.parameters.RefSliceTuple2RefSliceU8RefSliceU8ParameterList.has_no_name.Goals as goal

pub returns : goal.returns
returns c = rw (← pairs_unnamed c.args.self.now.now) c.any_is_unnamed.ensures
