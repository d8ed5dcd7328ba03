use Rattle.std.proofs.Common.{rules}
use Rattle.pg_backend.proofs.script.Script.check.Goals as goal

pub returns : goal.returns
returns c = search rules
