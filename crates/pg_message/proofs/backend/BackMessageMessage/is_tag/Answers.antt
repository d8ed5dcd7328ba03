use Rattle.pg_message.proofs.Tables.{tells_tag}
use Rattle.pg_message.proofs.BackMessages.{table}
use Rattle.pg_message.proofs.backend.BackMessageMessage.is_tag.Goals as goal

pub returns : goal.returns
returns c = rw c.is_some.ensures (tells_tag table c.args.tag c.of.result c.of.ensures.value c.of.ensures.byte)
