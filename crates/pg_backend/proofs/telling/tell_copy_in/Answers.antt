use Rattle.pg_backend.proofs.Machine.Tellings.{first, one}
use Rattle.std.proofs.Common.{[], ◌∷◌}
use Rattle.pg_wire.specs.message.BackMessage.TheVariants as back
use Rattle.pg_backend.proofs.telling.tell_copy_in.Goals as goal

pub returns : goal.returns
returns c = rw c.both.ensures (first (back.CopyIn c.args.head.now) (back.CommandComplete c.args.tag.now ∷ []) c.args.out.now.items c.copy_in-head.new.buf.items c.command_complete.new.buf.items c.copy_in-head.result c.command_complete.result c.copy_in-head.ensures
    (one (back.CommandComplete c.args.tag.now) c.copy_in-head.new.buf.items c.command_complete.result c.command_complete.new.buf.items c.command_complete.ensures))
