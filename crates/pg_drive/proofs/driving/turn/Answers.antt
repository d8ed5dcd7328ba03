use Rattle.pg_drive.proofs.Turning.{turn_ends, turn_sees}
use Rattle.pg_drive.proofs.driving.turn.Goals as goal

pub returns-in-Some : goal.returns-in-Some
returns-in-Some g c =
    turn_ends g.L.Source.gives g.L.Sink.takes g.L.Source.has_ended g.L.Source.failures g.L.Sink.failures c.args.began _ c.in_ok-loss.field-0 c.in-Some.loss _ c.in-Some.is c.in_ok-loss.ensures

pub returns : goal.returns
returns g c =
    turn_sees g.L.Source.gives g.L.Sink.takes g.L.Source.has_ended g.L.Source.failures g.L.Sink.failures _ _ c.in_ok-loss.field-0 _ _ c.in_default.is c.in_ok-loss.ensures c.look.ensures
