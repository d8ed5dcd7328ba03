use Rattle.std.proofs.Common.{[], ◌∷◌}
use Rattle.pg_wire.specs.message.BackMessage.TheVariants as back
use Rattle.pg_backend.proofs.Machine.Tellings.{first, one}
use Rattle.pg_backend.proofs.check.tell_part.Goals as goal

pub returns-in-Refuse : goal.returns-in-Refuse
returns-in-Refuse c =
    rw (c.in-CopyIn.is, c.in-Refuse.is, c.both.ensures) (first (back.CopyIn c.in-CopyIn.head) (back.ErrorResponse c.in-Refuse.fields ∷ []) c.args.out.now.items c.copy_in-so_far.new.buf.items c.error_response.new.buf.items c.copy_in-so_far.result c.error_response.result c.copy_in-so_far.ensures
    (one (back.ErrorResponse c.in-Refuse.fields) c.copy_in-so_far.new.buf.items c.error_response.result c.error_response.new.buf.items c.error_response.ensures))
