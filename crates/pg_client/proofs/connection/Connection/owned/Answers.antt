use Rattle.std.proofs.Common.{rules}
use Rattle.pg_client.proofs.connection.Connection.owned.Goals as goal

pub returns-in_default : goal.returns-in_default
returns-in_default g c = search rules
