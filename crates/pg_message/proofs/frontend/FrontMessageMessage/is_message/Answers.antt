use Rattle.std.proofs.Common.{arith}
use Rattle.pg_message.proofs.Tables.{judges_body}
use Rattle.pg_message.proofs.FrontMessages.{table}
use Rattle.pg_message.proofs.frontend.FrontMessageMessage.is_message.Goals as goal

pub returns-in-Some : goal.returns-in-Some
returns-in-Some c = judges_body table c.args.tag c.in-Some.kind c.args.body.now c.is_front_message.result c.in-Some.ensures.byte (λ i. omega (arith, c.type_inv.body i)) c.is_front_message.ensures
