use Rattle.pg_backend.proofs.Carrying.{carried_on}
use Rattle.pg_backend.proofs.laws.answering_goes_on.Goals as goal

pub returns : goal.returns
returns g c = carried_on g.L.Source.gives g.L.Sink.takes g.L.Source.has_ended g.L.Source.failures g.L.Sink.failures
