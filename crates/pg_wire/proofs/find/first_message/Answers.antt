use Rattle.std.proofs.Common.{◌+◌, ◌-◌, arith}
use Rattle.pg_wire.proofs.Rests.{message_found, message_wanted}
use Rattle.pg_wire.proofs.find.first_message.Goals as goal

pub returns-in-Ok : goal.returns-in-Ok
returns-in-Ok g c =
    let whole = c.requires.whole in
    let found = message_found g.M.Message.direction c.args.limit c.args.rest.now c.args.tag c.args.len (c.args.len + 1 - 5) c.in-Ok.message c.requires.limit.1 (λ i. omega (arith, c.type_inv.rest i)) whole (omega arith) c.in-Ok.ensures in
    (whole.there, found.0, found.1)

pub returns-in-Err-Memory : goal.returns-in-Err-Memory
returns-in-Err-Memory g c = message_wanted g.M.Message.direction c.args.limit c.args.rest.now c.args.tag c.args.len (c.args.len + 1 - 5) c.in-Err-Memory.field-0 c.requires.limit.1 (λ i. omega (arith, c.type_inv.rest i)) c.requires.whole (omega arith) c.in-Err-Memory.field-0-is c.in-Err-Memory.ensures
