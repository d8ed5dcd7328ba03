use Rattle.std.proofs.Common.{rules}
use Rattle.pg_wire.specs.message.FrontMessage.TheVariants.{CopyFail}
use Rattle.pg_client.proofs.Calling.Encoded.{encoded}
use Rattle.pg_client.proofs.Calling.Accepting.{copy_fail_accepted}
use Rattle.pg_client.proofs.connection.Connection.copy_fail.Goals as goal

pub returns-clause-history : goal.returns-clause-history
returns-clause-history g c =
    let e = encoded (CopyFail c.args.reason.now) c.args.out.now.items c.copy_fail.new.buf.items c.in_ok-copy_fail.ensures in
    rw c.answer_copy.ensures (copy_fail_accepted g.K.Keeper.way c.silent.ensures _ c.args.self.now c.args.out.now.items c.copy_fail.new.buf.items c.self.view_is c.args.reason.now (search rules) e.spelled e.put)
