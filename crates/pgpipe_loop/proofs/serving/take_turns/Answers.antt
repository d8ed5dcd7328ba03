use Rattle.std.proofs.lemmas.Result.{err_from_is_err_and}
use Rattle.pgpipe_loop.specs.Private.Turning.{serving}
use Rattle.pgpipe_loop.proofs.Turning.{turn_fails, turned_last, went_more, went_none}
use Rattle.pgpipe_loop.proofs.serving.take_turns.Goals as goal

pub loop-init : goal.loop-init
loop-init g c = went_none g.L.Source.gives g.L.Sink.takes g.L.Source.has_ended g.L.Source.failures g.L.Sink.failures g.K.Sink.takes g.K.Sink.failures (serving c.args.link.now c.args.backend.now c.args.sink.now)

pub returns-in_err-phase : goal.returns-in_err-phase
returns-in_err-phase g c =
    let p = err_from_is_err_and c.from_residual.result c.from_residual.ensures.1 in
    rw (p.1, p.2) (turn_fails g.L.Source.gives g.L.Sink.takes g.L.Source.has_ended g.L.Source.failures g.L.Sink.failures g.K.Sink.takes g.K.Sink.failures (serving c.args.link.now c.args.backend.now c.args.sink.now) (serving c.loop.link c.loop.backend c.loop.sink) (serving c.turn.new.link c.turn.new.backend c.turn.new.sink) c.loop.counter c.in_err-phase.field-0.0 c.loop.invariant c.in_err-phase.ensures)

pub returns-in-Some : goal.returns-in-Some
returns-in-Some g c =
    turned_last g.L.Source.gives g.L.Sink.takes g.L.Source.has_ended g.L.Source.failures g.L.Sink.failures g.K.Sink.takes g.K.Sink.failures (serving c.args.link.now c.args.backend.now c.args.sink.now) (serving c.loop.link c.loop.backend c.loop.sink) (serving c.turn.new.link c.turn.new.backend c.turn.new.sink) c.loop.counter c.in_ok-phase.field-0 c.in-Some.phase c.in-Some.is c.loop.invariant c.in_ok-phase.ensures

pub loop-preserved : goal.loop-preserved
loop-preserved g c =
    went_more g.L.Source.gives g.L.Sink.takes g.L.Source.has_ended g.L.Source.failures g.L.Sink.failures g.K.Sink.takes g.K.Sink.failures (serving c.args.link.now c.args.backend.now c.args.sink.now) (serving c.loop.link c.loop.backend c.loop.sink) (serving c.turn.new.link c.turn.new.backend c.turn.new.sink) c.loop.counter c.in_ok-phase.field-0 c.in_default.is c.loop.invariant c.in_ok-phase.ensures
