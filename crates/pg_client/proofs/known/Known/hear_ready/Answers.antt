use Rattle.std.proofs.Common.{rules}
use Rattle.pg_client.proofs.known.Known.hear_ready.Goals as goal

pub returns : goal.returns
returns g c = search rules
