use Rattle.pg_pair.proofs.Readiness.{headline}
use Rattle.pg_pair.proofs.laws.headline.Goals as goal

pub returns : goal.returns
returns g c p t = headline c.known.ensures p t
