use Rattle.std.proofs.Common.{rules}
use Rattle.pg_wire.specs.message.FrontMessage.TheVariants.{CopyDone}
use Rattle.pg_client.proofs.Calling.Encoded.{encoded}
use Rattle.pg_client.proofs.Calling.Accepting.{copy_done_accepted}
use Rattle.pg_client.proofs.connection.Connection.copy_done.Goals as goal

pub returns-clause-history : goal.returns-clause-history
returns-clause-history g c =
    let e = encoded CopyDone c.args.out.now.items c.copy_done.new.buf.items c.in_ok-copy_done.ensures in
    rw c.answer_copy.ensures (copy_done_accepted g.K.Keeper.way c.silent.ensures _ c.args.self.now c.args.out.now.items c.copy_done.new.buf.items c.self.view_is (search rules) e.spelled e.put)

pub returns-clause-ok : goal.returns-clause-ok
returns-clause-ok g c = search rules
