use Rattle.pg_backend.proofs.Machine.Tellings.{tells_both, each_told}
use Rattle.std.proofs.Common.{[], ◌∷◌, map}
use Rattle.pg_wire.specs.Segment.{execute_end_sent}
use Rattle.pg_wire.specs.message.BackMessage.TheVariants as back
use Rattle.pg_backend.proofs.telling.tell_executed.Goals as goal

pub returns : goal.returns
returns c = rw c.both.ensures (tells_both (map back.DataRow c.args.rows.now) (execute_end_sent c.args.end.now ∷ []) _ _ _ _ _ (each_told back.DataRow c.args.rows.now _ _ _ c.tell_all-rows.ensures) c.tell_end.ensures)
