use Rattle.pg_drive.proofs.Carrying.{driven_on, left_driven}
use Rattle.pg_drive.proofs.laws.driving_goes_on.Goals as goal

pub returns-clause-history : goal.returns-clause-history
returns-clause-history g c = driven_on g.L.Source.gives g.L.Sink.takes g.L.Source.has_ended g.L.Source.failures g.L.Sink.failures c.feeding_goes_on.ensures

pub returns-clause-left : goal.returns-clause-left
returns-clause-left g c = left_driven g.L.Source.gives g.L.Sink.takes g.L.Source.has_ended g.L.Source.failures g.L.Sink.failures c.feeding_goes_on.ensures
