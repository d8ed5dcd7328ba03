use Rattle.pg_drive.specs.Drive.{connected}
use Rattle.example_base.proofs.Asking.{starts_ready}
use Rattle.example_base.proofs.driver.connect.Goals as goal

pub returns-clause-ready : goal.returns-clause-ready
returns-clause-ready g c =
    let old = c.args.session.now in
    let new = c.start.new.self in
    starts_ready g.L.Source.gives g.L.Sink.takes g.L.Source.has_ended g.L.Source.failures g.L.Sink.failures c.driving_goes_on.ensures.history old.pieces (connected old.link old.client old.out.items) c.start.result (connected new.link new.client new.out.items) c.requires.0 c.requires.1
    c.start.ensures.start
