use Rattle.pg_backend.proofs.Machine.Tellings.{around_two}
use Rattle.pg_wire.specs.message.BackMessage.TheVariants as back
use Rattle.pg_backend.proofs.telling.tell_copy_out.Goals as goal

pub returns : goal.returns
returns c = rw (c.both.ensures, c.both-body-2.ensures, c.both-body.ensures) (around_two (back.CopyOut c.args.head.now) back.CopyData c.args.chunks.now back.CopyDone (back.CommandComplete c.args.tag.now)
    c.args.out.now.items c.copy_out-head.new.buf.items c.tell_all.new.out.items c.encode.new.buf.items c.command_complete.new.buf.items c.copy_out-head.result c.tell_all.result c.encode.result c.command_complete.result
    c.copy_out-head.ensures c.tell_all.ensures c.encode.ensures c.command_complete.ensures)
