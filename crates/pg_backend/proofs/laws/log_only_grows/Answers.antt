use Rattle.pg_backend.proofs.Growing.{log_grows}
use Rattle.pg_backend.proofs.laws.log_only_grows.Goals as goal

pub returns : goal.returns
returns g c = log_grows g.L.Source.gives g.L.Sink.takes g.L.Source.has_ended g.L.Source.failures g.L.Sink.failures
