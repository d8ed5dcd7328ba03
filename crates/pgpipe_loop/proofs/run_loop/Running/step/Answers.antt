use Rattle.std.proofs.lemmas.Result.{err_from_is_err_and}
use Rattle.pgpipe_loop.specs.RunLoop.{most_times}
use Rattle.pg_pair.specs.declared.event.Event.TheVariants as event
use Rattle.pgpipe_loop.specs.Private.Running.{at}
use Rattle.pgpipe_loop.proofs.Loops.{next_fails}
use Rattle.pgpipe_loop.proofs.run_loop.Running.step.Goals as goal

pub returns-in_err-step_once : goal.returns-in_err-step_once
returns-in_err-step_once g c =
    let p = err_from_is_err_and c.from_residual.result c.from_residual.ensures.1 in
    rw (p.1, p.2) (next_fails g.C.Carry.carries c.args.trace g.K.Sink.takes g.K.Sink.failures (Unit {0}) most_times c.loop.counter event.Step (at c.args.self.now.pair c.args.self.now.carrier_failed c.args.sink.now) (at c.loop.self.pair c.loop.self.carrier_failed c.loop.sink)
    (at c.step_once.new.self.pair c.step_once.new.self.carrier_failed c.step_once.new.sink) c.in_err-step_once.field-0.0 c.loop-test.true c.loop.invariant c.in_err-step_once.ensures)
