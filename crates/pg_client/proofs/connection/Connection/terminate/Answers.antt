use Rattle.std.proofs.Common.{rules}
use Rattle.pg_wire.specs.message.FrontMessage.TheVariants.{Terminate}
use Rattle.pg_client.proofs.Calling.Encoded.{encoded}
use Rattle.pg_client.proofs.Calling.Accepting.{terminate_accepted}
use Rattle.pg_client.proofs.connection.Connection.terminate.Goals as goal

pub returns-clause-history : goal.returns-clause-history
returns-clause-history g c =
    let e = encoded Terminate c.args.out.now.items c.terminate.new.buf.items c.in_ok-terminate.ensures in
    terminate_accepted g.K.Keeper.way c.silent.ensures _ c.args.self.now c.args.out.now.items c.terminate.new.buf.items c.self.view_is (search rules) e.spelled e.put

pub returns-then-not-is_open-clause-refused : goal.returns-then-not-is_open-clause-refused
returns-then-not-is_open-clause-refused g c = search rules
