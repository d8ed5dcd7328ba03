use Rattle.std.proofs.Common.{rules}
use Rattle.pg_client.proofs.Calling.Accepting.{start_accepted}
use Rattle.pg_client.proofs.connection.Connection.start.Goals as goal

pub returns-clause-history : goal.returns-clause-history
returns-clause-history g c =
    start_accepted g.K.Keeper.way c.silent.ensures _ c.args.self.now c.args.out.now.items c.put_start.new.out.items c.self.view_is (search rules) c.in_ok-put_start.ensures.0 c.in_ok-put_start.ensures.1

pub returns-then-ne-clause-refused : goal.returns-then-ne-clause-refused
returns-then-ne-clause-refused g c = search rules
