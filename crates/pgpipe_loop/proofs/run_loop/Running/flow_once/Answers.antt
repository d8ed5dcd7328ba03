use Rattle.std.proofs.Common.{◌++◌, Err}
use Rattle.std.proofs.lemmas.Result.{err_from_is_err_and}
use Rattle.pg_pair.specs.declared.event.Event.TheVariants as event
use Rattle.pgpipe_loop.specs.RunLoop.{times, most_times}
use Rattle.pgpipe_loop.specs.Private.Running.{at}
use Rattle.pgpipe_loop.proofs.Loops.{after, fails_before}
use Rattle.pgpipe_loop.proofs.run_loop.Running.flow_once.Goals as goal

pub returns-in_err-deliver : goal.returns-in_err-deliver
returns-in_err-deliver g c =
    let p = err_from_is_err_and c.from_residual.result c.from_residual.ensures.1 in
    rw (p.1, p.2) (fails_before g.C.Carry.carries c.args.trace g.K.Sink.takes g.K.Sink.failures (times most_times (event.ToBackend c.args.cut)) (times most_times event.Step ++ times most_times (event.ToClient c.args.cut))
    (at c.args.self.now.pair c.args.self.now.carrier_failed c.args.sink.now) (at c.deliver.new.self.pair c.deliver.new.self.carrier_failed c.deliver.new.sink) c.in_err-deliver.field-0.0 c.in_err-deliver.ensures)

pub returns-in_err-step : goal.returns-in_err-step
returns-in_err-step g c =
    let p = err_from_is_err_and c.from_residual-in_err-step.result c.from_residual-in_err-step.ensures.1 in
    rw (p.1, p.2) (after g.C.Carry.carries c.args.trace g.K.Sink.takes g.K.Sink.failures (times most_times (event.ToBackend c.args.cut)) (times most_times event.Step ++ times most_times (event.ToClient c.args.cut))
    (at c.args.self.now.pair c.args.self.now.carrier_failed c.args.sink.now) (at c.deliver.new.self.pair c.deliver.new.self.carrier_failed c.deliver.new.sink) (at c.step.new.self.pair c.step.new.self.carrier_failed c.step.new.sink) (Err c.in_err-step.field-0.0) c.in_ok-deliver.ensures
    (fails_before g.C.Carry.carries c.args.trace g.K.Sink.takes g.K.Sink.failures (times most_times event.Step) (times most_times (event.ToClient c.args.cut))
    (at c.deliver.new.self.pair c.deliver.new.self.carrier_failed c.deliver.new.sink) (at c.step.new.self.pair c.step.new.self.carrier_failed c.step.new.sink) c.in_err-step.field-0.0 c.in_err-step.ensures))
