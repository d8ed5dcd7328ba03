use Rattle.pg_message.proofs.Tables.{one_to_one}
use Rattle.pg_message.proofs.BackMessages.{table}
use Rattle.pg_message.proofs.backend.BackMessageMessage.one_to_one.Goals as goal

pub returns : goal.returns
returns c = one_to_one table
