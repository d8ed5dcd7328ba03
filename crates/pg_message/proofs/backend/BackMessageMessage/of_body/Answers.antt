use Rattle.std.proofs.Common.{arith}
use Rattle.pg_message.proofs.Tables.{reads_body}
use Rattle.pg_message.proofs.BackMessages.{table}
use Rattle.pg_message.proofs.backend.BackMessageMessage.of_body.Goals as goal

pub returns-in-Some : goal.returns-in-Some
returns-in-Some c = reads_body table c.args.tag c.in-Some.kind c.args.body.now c.read_whole.result c.in-Some.ensures.byte (λ i. omega (arith, c.type_inv.body i)) c.read_whole.ensures
