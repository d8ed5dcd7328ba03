use Rattle.pg_backend.proofs.Definitions.DecidedStays.{verdict_more}
use Rattle.pg_backend.proofs.laws.verdict_stands.Goals as goal

pub returns : goal.returns
returns c = λ a ms more v is. verdict_more a ms more v is
