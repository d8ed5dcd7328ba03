use Rattle.std.proofs.Common.{rules, refl}
use Rattle.pg_client.proofs.Hearing.Feeding.{none_by_test}
use Rattle.pg_client.proofs.Hearing.Lending.{push_fails}
use Rattle.pg_client.proofs.connection.lend.Connection+Queue.push.Goals as goal

pub returns-then-is_err : goal.returns-then-is_err
returns-then-is_err c =
    let none = none_by_test c.self.inside.closed (search rules) in
    record { pushes = push_fails _ c.args.self.now c.self.view_is none c.self.inside.decoder c.push.new.self refl refl (c.self.invariant.1 none) c.args.piece.now c.push.result (search rules) c.push.ensures.call c.push.ensures.held }
