use Rattle.std.proofs.Common.{◌+◌, ◌-◌, take, drop, subst, arith}
use Rattle.pg_message.specs.Message.{JudgesBody}
use Rattle.pg_wire.proofs.Rests.{message_found}
use Rattle.pg_wire.proofs.find.find_whole.Goals as goal

pub returns-then-is_message : goal.returns-then-is_message
returns-then-is_message g c =
    let d = g.M.Message.direction in
    let size = c.in-Whole.len + 1 - 5 in
    let whole = c.in-Whole.ensures in
    let judged = subst (JudgesBody d c.in-Whole.tag (take size (drop 5 c.args.rest.now))) c.if-is_message.true c.is_message.ensures in
    let found = message_found d c.args.limit c.args.rest.now c.in-Whole.tag c.in-Whole.len size judged.0 c.requires.1 (λ i. omega (arith, c.type_inv.rest i)) whole (omega arith) judged.1 in
    (judged.0, (whole.there, found.0, found.1))
