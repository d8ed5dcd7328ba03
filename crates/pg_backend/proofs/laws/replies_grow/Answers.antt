use Rattle.pg_backend.proofs.Definitions.SessionGrows.{replies_grow}
use Rattle.pg_backend.proofs.laws.replies_grow.Goals as goal

pub returns : goal.returns
returns c = replies_grow
