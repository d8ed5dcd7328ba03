use Rattle.std.proofs.Common.{inl}
use Rattle.std.proofs.lemmas.Result.{err_from_is_err_and}
use Rattle.pg_drive.proofs.LentTurning.{turn_fails, turn_finds, turn_pushes}
use Rattle.pg_drive.proofs.lent.turn.Goals as goal

pub returns-in_err-event : goal.returns-in_err-event
returns-in_err-event g c =
    let p = err_from_is_err_and c.from_residual.result c.from_residual.ensures.1 in
    rw (p.1, p.2) (inl c.in_err-event.ensures)

pub returns-in-Some : goal.returns-in-Some
returns-in-Some g c =
    turn_finds g.L.Source.gives g.L.Sink.takes g.L.Source.has_ended g.L.Source.failures g.L.Sink.failures _ c.in_ok-event.field-0 c.in-Some.event _ c.in-Some.is c.in_ok-event.ensures

pub returns-in_err-push_piece : goal.returns-in_err-push_piece
returns-in_err-push_piece g c =
    let p = err_from_is_err_and c.from_residual-in_err-push_piece.result c.from_residual-in_err-push_piece.ensures.1 in
    rw (p.1, p.2) (turn_fails g.L.Source.gives g.L.Sink.takes g.L.Source.has_ended g.L.Source.failures g.L.Sink.failures _ c.in_ok-event.field-0 c.hear.new.link c.hear.new.client c.hear.new.out.items _ c.push_piece.new.link c.push_piece.new.client c.in_default.is c.in_ok-event.ensures c.in_err-push_piece.ensures)

pub returns : goal.returns
returns g c =
    turn_pushes g.L.Source.gives g.L.Sink.takes g.L.Source.has_ended g.L.Source.failures g.L.Sink.failures _ c.in_ok-event.field-0 c.hear.new.link c.hear.new.client c.hear.new.out.items c.push_piece.new.link c.push_piece.new.client c.in_default.is c.in_ok-event.ensures c.in_ok-push_piece.ensures
