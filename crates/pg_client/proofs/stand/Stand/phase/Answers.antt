use Rattle.std.proofs.Common.{rules}
use Rattle.pg_client.proofs.stand.Stand.phase.Goals as goal

pub returns-in-CopyIn-Awaited : goal.returns-in-CopyIn-Awaited
returns-in-CopyIn-Awaited c = search rules
