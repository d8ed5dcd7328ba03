use Rattle.pg_message.proofs.Tables.{one_to_one}
use Rattle.pg_message.proofs.FrontMessages.{table}
use Rattle.pg_message.proofs.frontend.FrontMessageMessage.one_to_one.Goals as goal

pub returns : goal.returns
returns c = one_to_one table
