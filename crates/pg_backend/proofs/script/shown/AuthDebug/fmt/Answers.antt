use Rattle.std.proofs.Common.{rules}
use Rattle.pg_backend.proofs.script.shown.AuthDebug.fmt.Goals as goal

pub returns-in-Cleartext : goal.returns-in-Cleartext
returns-in-Cleartext g c = search rules
