use Rattle.std.proofs.Common.{◌≡◌, ◌≤◌, arith}
use Rattle.std.proofs.lemmas.Result.{err_from_is_err_and}
use Rattle.pg_drive.proofs.LentTurning.{fails_in_turn, fails_lent, finds_in_turn, finds_lent, gives_lent, used_lent, went_lent}
use Rattle.pg_drive.proofs.lent.next_event.Goals as goal

pub returns-in_err-event : goal.returns-in_err-event
returns-in_err-event g c =
    let p = err_from_is_err_and c.from_residual.result c.from_residual.ensures.1 in
    let within : c.loop.counter ≤ c.args.pieces = omega (arith, c.loop-test.true) in
    rw (p.1, p.2) (gives_lent g.L.Source.gives g.L.Sink.takes g.L.Source.has_ended g.L.Source.failures g.L.Sink.failures _ _ _ _ _ _ c.loop.invariant
    (fails_in_turn g.L.Source.gives g.L.Sink.takes g.L.Source.has_ended g.L.Source.failures g.L.Sink.failures _ _ _ _ _ c.loop-test.true within c.in_err-event.ensures))

pub returns-in-Some : goal.returns-in-Some
returns-in-Some g c =
    let within : c.loop.counter ≤ c.args.pieces = omega (arith, c.loop-test.true) in
    gives_lent g.L.Source.gives g.L.Sink.takes g.L.Source.has_ended g.L.Source.failures g.L.Sink.failures _ _ _ _ _ _ c.loop.invariant
    (finds_in_turn g.L.Source.gives g.L.Sink.takes g.L.Source.has_ended g.L.Source.failures g.L.Sink.failures _ _ _ c.in_ok-event.field-0 c.in-Some.event _ within c.in-Some.is c.in_ok-event.ensures)

pub loop-preserved : goal.loop-preserved
loop-preserved g c =
    went_lent g.L.Source.gives g.L.Sink.takes g.L.Source.has_ended g.L.Source.failures g.L.Sink.failures _ _ _ c.in_ok-event.field-0 _ c.loop.invariant c.in_default.is c.in_ok-event.ensures

pub returns-in_err-event-2 : goal.returns-in_err-event-2
returns-in_err-event-2 g c =
    let p = err_from_is_err_and c.from_residual-in_err-event-2.result c.from_residual-in_err-event-2.ensures.1 in
    let within : c.loop.counter ≤ c.args.pieces = omega (arith, c.loop-test.false, c.loop.auto.counter-end) in
    rw (p.1, p.2) (gives_lent g.L.Source.gives g.L.Sink.takes g.L.Source.has_ended g.L.Source.failures g.L.Sink.failures _ _ _ _ _ _ c.loop.invariant
    (fails_lent g.L.Source.gives g.L.Sink.takes g.L.Source.has_ended g.L.Source.failures g.L.Sink.failures _ _ _ _ _ within c.in_err-event-2.ensures))

pub returns-in-Some-2 : goal.returns-in-Some-2
returns-in-Some-2 g c =
    let within : c.loop.counter ≤ c.args.pieces = omega (arith, c.loop-test.false, c.loop.auto.counter-end) in
    gives_lent g.L.Source.gives g.L.Sink.takes g.L.Source.has_ended g.L.Source.failures g.L.Sink.failures _ _ _ _ _ _ c.loop.invariant
    (finds_lent g.L.Source.gives g.L.Sink.takes g.L.Source.has_ended g.L.Source.failures g.L.Sink.failures _ _ _ c.in_ok-event-2.field-0 c.in-Some-2.event _ within c.in-Some-2.is c.in_ok-event-2.ensures)

pub returns-in-None : goal.returns-in-None
returns-in-None g c =
    let all : c.loop.counter ≡ c.args.pieces = omega (arith, c.loop-test.false, c.loop.auto.counter-end) in
    gives_lent g.L.Source.gives g.L.Sink.takes g.L.Source.has_ended g.L.Source.failures g.L.Sink.failures _ _ _ _ _ _ c.loop.invariant
    (used_lent g.L.Source.gives g.L.Sink.takes g.L.Source.has_ended g.L.Source.failures g.L.Sink.failures _ _ _ c.in_ok-event-2.field-0 _ all c.in-None.is c.in_ok-event-2.ensures)
