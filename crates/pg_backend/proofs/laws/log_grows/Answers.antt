use Rattle.pg_backend.proofs.Definitions.InputGrows.{logs_grow}
use Rattle.pg_backend.proofs.laws.log_grows.Goals as goal

pub returns : goal.returns
returns c = logs_grow
