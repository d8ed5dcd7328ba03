use Rattle.std.proofs.Common.{◌≡◌, refl, arith}
use Rattle.std.proofs.lemmas.Result.{err_from_is_err_and}
use Rattle.pg_drive.proofs.Turning.{answers_in_turn, drives_so, went_more}
use Rattle.pg_drive.proofs.driving.drive.Goals as goal

pub returns-in_err-driven : goal.returns-in_err-driven
returns-in_err-driven g c =
    let p = err_from_is_err_and c.from_residual.result c.from_residual.ensures.1 in
    rw (p.1, p.2) (drives_so g.L.Source.gives g.L.Sink.takes g.L.Source.has_ended g.L.Source.failures g.L.Sink.failures _ _ _ _ _ _ _ _ c.phase-began.ensures c.in-Ok.ensures.sends.0 c.loop.invariant (c.loop-test.true, c.in_err-driven.ensures))

pub returns-in-Some : goal.returns-in-Some
returns-in-Some g c =
    drives_so g.L.Source.gives g.L.Sink.takes g.L.Source.has_ended g.L.Source.failures g.L.Sink.failures _ _ _ _ _ _ _ _ c.phase-began.ensures c.in-Ok.ensures.sends.0 c.loop.invariant
    (answers_in_turn g.L.Source.gives g.L.Sink.takes g.L.Source.has_ended g.L.Source.failures g.L.Sink.failures _ _ _ _ c.in_ok-driven.field-0 c.in-Some.driven _ c.loop-test.true c.in-Some.is c.in_ok-driven.ensures)

pub loop-preserved : goal.loop-preserved
loop-preserved g c =
    went_more g.L.Source.gives g.L.Sink.takes g.L.Source.has_ended g.L.Source.failures g.L.Sink.failures _ _ _ _ c.in_ok-driven.field-0 _ c.loop.invariant c.in_default-2.is c.in_ok-driven.ensures

pub returns : goal.returns
returns g c =
    let all : c.loop.counter ≡ c.args.turns = omega (arith, c.loop-test.false, c.loop.auto.counter-end) in
    drives_so g.L.Source.gives g.L.Sink.takes g.L.Source.has_ended g.L.Source.failures g.L.Sink.failures _ _ _ _ _ _ _ _ c.phase-began.ensures c.in-Ok.ensures.sends.0 c.loop.invariant (all, refl)
