use Rattle.std.proofs.Common.{rules}
use Rattle.pg_client.proofs.sending.put_answer.Goals as goal

pub returns : goal.returns
returns c = search rules
