use Rattle.pg_backend.proofs.Machine.Tellings.{tells_both}
use Rattle.std.proofs.Common.{[], ◌∷◌}
use Rattle.pg_wire.specs.Segment.{parameters_sent, columns_sent}
use Rattle.pg_backend.proofs.telling.tell_described.Goals as goal

pub returns : goal.returns
returns c = rw c.both.ensures (tells_both (parameters_sent c.args.parameters.now) (columns_sent c.args.columns.now ∷ []) _ _ _ _ _ c.tell_parameters-parameters.ensures c.tell_columns.ensures)
