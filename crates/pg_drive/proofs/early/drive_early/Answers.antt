use Rattle.std.proofs.Common.{◌≡◌, ◌≤◌, arith}
use Rattle.std.proofs.lemmas.Result.{err_from_is_err_and}
use Rattle.pg_drive.specs.Drive.{connected}
use Rattle.pg_drive.proofs.EarlyTurning.{drives_early_so, ends_early, fails_early, finds_early, found_none, used_early, went_early}
use Rattle.pg_drive.proofs.early.drive_early.Goals as goal

pub returns-in-Some : goal.returns-in-Some
returns-in-Some g c =
    let most : c.loop.counter ≤ c.args.turns = omega (arith, c.loop-test.true) in
    drives_early_so g.L.Source.gives g.L.Sink.takes g.L.Source.has_ended g.L.Source.failures g.L.Sink.failures c.phase-began.result c.args.turns c.loop.counter _ c.send_out.new.sink (connected c.loop.link c.loop.client c.loop.out.items) _ _ c.phase-began.ensures c.in-Ok.ensures.sends.0 c.loop.invariant
    (finds_early g.L.Source.gives g.L.Sink.takes g.L.Source.has_ended g.L.Source.failures g.L.Sink.failures c.phase-began.result c.args.turns c.loop.counter c.loop.link c.loop.client c.loop.out.items c.look.result c.in-Some.found c.look.new.client most c.in-Some.is c.look.ensures)

pub returns-in_err-loss : goal.returns-in_err-loss
returns-in_err-loss g c =
    let p = err_from_is_err_and c.from_residual.result c.from_residual.ensures.1 in
    rw (p.1, p.2) (drives_early_so g.L.Source.gives g.L.Sink.takes g.L.Source.has_ended g.L.Source.failures g.L.Sink.failures c.phase-began.result c.args.turns c.loop.counter _ c.send_out.new.sink (connected c.loop.link c.loop.client c.loop.out.items) _ _ c.phase-began.ensures c.in-Ok.ensures.sends.0 c.loop.invariant
    (fails_early g.L.Source.gives g.L.Sink.takes g.L.Source.has_ended g.L.Source.failures g.L.Sink.failures c.phase-began.result c.args.turns c.loop.counter c.loop.link c.loop.client c.loop.out.items _ _ c.loop-test.true (found_none g.L.Source.gives g.L.Sink.takes g.L.Source.has_ended g.L.Source.failures g.L.Sink.failures c.phase-began.result c.loop.link c.loop.client c.loop.out.items c.look.result c.look.new.client _ _ c.in_default-look.is c.look.ensures c.in_err-loss.ensures)))

pub returns-in-Some-2 : goal.returns-in-Some-2
returns-in-Some-2 g c =
    drives_early_so g.L.Source.gives g.L.Sink.takes g.L.Source.has_ended g.L.Source.failures g.L.Sink.failures c.phase-began.result c.args.turns c.loop.counter _ c.send_out.new.sink (connected c.loop.link c.loop.client c.loop.out.items) _ _ c.phase-began.ensures c.in-Ok.ensures.sends.0 c.loop.invariant
    (ends_early g.L.Source.gives g.L.Sink.takes g.L.Source.has_ended g.L.Source.failures g.L.Sink.failures c.phase-began.result c.args.turns c.loop.counter c.loop.link c.loop.client c.loop.out.items c.in_ok-loss.field-0 c.in-Some-2.loss _ c.loop-test.true c.in-Some-2.is (found_none g.L.Source.gives g.L.Sink.takes g.L.Source.has_ended g.L.Source.failures g.L.Sink.failures c.phase-began.result c.loop.link c.loop.client c.loop.out.items c.look.result c.look.new.client _ _ c.in_default-look.is c.look.ensures c.in_ok-loss.ensures))

pub loop-preserved : goal.loop-preserved
loop-preserved g c =
    went_early g.L.Source.gives g.L.Sink.takes g.L.Source.has_ended g.L.Source.failures g.L.Sink.failures c.phase-began.result _ c.loop.counter c.loop.link c.loop.client c.loop.out.items c.in_ok-loss.field-0 _ c.loop.invariant c.in_default-2.is (found_none g.L.Source.gives g.L.Sink.takes g.L.Source.has_ended g.L.Source.failures g.L.Sink.failures c.phase-began.result c.loop.link c.loop.client c.loop.out.items c.look.result c.look.new.client _ _ c.in_default-look.is c.look.ensures c.in_ok-loss.ensures)

pub returns-in-Some-look : goal.returns-in-Some-look
returns-in-Some-look g c =
    let most : c.loop.counter ≤ c.args.turns = omega (arith, c.loop-test.false, c.loop.auto.counter-end) in
    drives_early_so g.L.Source.gives g.L.Sink.takes g.L.Source.has_ended g.L.Source.failures g.L.Sink.failures c.phase-began.result c.args.turns c.loop.counter _ c.send_out.new.sink (connected c.loop.link c.loop.client c.loop.out.items) _ _ c.phase-began.ensures c.in-Ok.ensures.sends.0 c.loop.invariant
    (finds_early g.L.Source.gives g.L.Sink.takes g.L.Source.has_ended g.L.Source.failures g.L.Sink.failures c.phase-began.result c.args.turns c.loop.counter c.loop.link c.loop.client c.loop.out.items c.look-2.result c.in-Some-look.found c.look-2.new.client most c.in-Some-look.is c.look-2.ensures)

pub returns-in-None : goal.returns-in-None
returns-in-None g c =
    let all : c.loop.counter ≡ c.args.turns = omega (arith, c.loop-test.false, c.loop.auto.counter-end) in
    drives_early_so g.L.Source.gives g.L.Sink.takes g.L.Source.has_ended g.L.Source.failures g.L.Sink.failures c.phase-began.result c.args.turns c.loop.counter _ c.send_out.new.sink (connected c.loop.link c.loop.client c.loop.out.items) _ _ c.phase-began.ensures c.in-Ok.ensures.sends.0 c.loop.invariant
    (used_early g.L.Source.gives g.L.Sink.takes g.L.Source.has_ended g.L.Source.failures g.L.Sink.failures c.phase-began.result c.args.turns c.loop.counter c.loop.link c.loop.client c.loop.out.items c.look-2.result c.look-2.new.client all c.in-None.is c.look-2.ensures)
