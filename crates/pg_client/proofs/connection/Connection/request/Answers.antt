use Rattle.std.proofs.Common.{rules}
use Rattle.pg_client.proofs.Calling.Accepting.{request_accepted}
use Rattle.pg_client.proofs.connection.Connection.request.Goals as goal

pub returns-clause-history : goal.returns-clause-history
returns-clause-history g c =
    rw c.ask.ensures (request_accepted g.K.Keeper.way c.silent.ensures _ c.args.self.now c.args.out.now.items c.put_request.new.out.items c.self.view_is c.args.request (search rules) c.in_default.ensures.0 c.in_default.ensures.1)

pub returns-then-ne-clause-refused : goal.returns-then-ne-clause-refused
returns-then-ne-clause-refused g c = search rules
