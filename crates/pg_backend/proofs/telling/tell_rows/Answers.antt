use Rattle.pg_backend.proofs.Machine.Tellings.{around}
use Rattle.pg_wire.specs.message.BackMessage.TheVariants as back
use Rattle.pg_backend.proofs.telling.tell_rows.Goals as goal

pub returns : goal.returns
returns c = rw (c.both.ensures, c.both-body.ensures) (around (back.RowDescription c.args.columns.now) back.DataRow c.args.rows.now (back.CommandComplete c.args.tag.now)
    c.args.out.now.items c.row_description-head.new.buf.items c.tell_all.new.out.items c.command_complete.new.buf.items c.row_description-head.result c.tell_all.result c.command_complete.result
    c.row_description-head.ensures c.tell_all.ensures c.command_complete.ensures)
