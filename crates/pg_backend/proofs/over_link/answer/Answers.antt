use Rattle.std.proofs.Common.{◌≡◌, refl, arith}
use Rattle.std.proofs.lemmas.Result.{err_from_is_err_and}
use Rattle.pg_backend.proofs.Turning.{answers_in_turn, answers_so, went_more}
use Rattle.pg_backend.proofs.over_link.answer.Goals as goal

pub returns-in_err-answered : goal.returns-in_err-answered
returns-in_err-answered g c =
    let p = err_from_is_err_and c.from_residual.result c.from_residual.ensures.1 in
    rw (p.1, p.2) (answers_so g.L.Source.gives g.L.Sink.takes g.L.Source.has_ended g.L.Source.failures g.L.Sink.failures _ _ _ _ _ _ c.loop.invariant (c.loop-test.true, c.in_err-answered.ensures))

pub returns-in-Some : goal.returns-in-Some
returns-in-Some g c =
    answers_so g.L.Source.gives g.L.Sink.takes g.L.Source.has_ended g.L.Source.failures g.L.Sink.failures _ _ _ _ _ _ c.loop.invariant
    (answers_in_turn g.L.Source.gives g.L.Sink.takes g.L.Source.has_ended g.L.Source.failures g.L.Sink.failures _ _ _ c.in_ok-answered.field-0 c.in-Some.answered _ c.loop-test.true c.in-Some.is c.in_ok-answered.ensures)

pub loop-preserved : goal.loop-preserved
loop-preserved g c =
    went_more g.L.Source.gives g.L.Sink.takes g.L.Source.has_ended g.L.Source.failures g.L.Sink.failures _ _ _ c.in_ok-answered.field-0 _ c.loop.invariant c.in_default.is c.in_ok-answered.ensures

pub returns : goal.returns
returns g c =
    let all : c.loop.counter ≡ c.args.turns = omega (arith, c.loop-test.false, c.loop.auto.counter-end) in
    answers_so g.L.Source.gives g.L.Sink.takes g.L.Source.has_ended g.L.Source.failures g.L.Sink.failures _ _ _ _ _ _ c.loop.invariant (all, refl)
