use Rattle.std.proofs.Common.{rules}
use Rattle.pg_client.proofs.settings.Settings.new.Goals as goal

pub returns-clause-limit : goal.returns-clause-limit
returns-clause-limit c = search rules
