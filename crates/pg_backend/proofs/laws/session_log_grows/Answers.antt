use Rattle.pg_backend.proofs.Definitions.SessionGrows.{log_grows}
use Rattle.pg_backend.proofs.laws.session_log_grows.Goals as goal

pub returns : goal.returns
returns c = log_grows
