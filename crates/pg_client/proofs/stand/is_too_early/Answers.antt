use Rattle.std.proofs.Common.{rules}
use Rattle.pg_client.proofs.stand.is_too_early.Goals as goal

pub returns-in-CopyIn-Done : goal.returns-in-CopyIn-Done
returns-in-CopyIn-Done c = search rules
