use Rattle.std.proofs.Common.{rules}
use Rattle.pg_response.proofs.collected.Collected.add_error.Goals as goal

pub returns-then-is_none : goal.returns-then-is_none
returns-then-is_none c = search rules
