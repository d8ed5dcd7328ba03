use Rattle.std.proofs.lemmas.Result.{err_from_is_err_and}
use Rattle.pgpipe_loop.specs.RunLoop.{flow_once}
use Rattle.pgpipe_loop.specs.Private.Running.{at}
use Rattle.pgpipe_loop.proofs.Loops.{fails_before, event_fails, one_event}
use Rattle.pgpipe_loop.proofs.run_loop.Running.line.Goals as goal

pub returns-in_err-apply-in-Event : goal.returns-in_err-apply-in-Event
returns-in_err-apply-in-Event g c =
    let p = err_from_is_err_and c.from_residual.result c.from_residual.ensures.1 in
    rw (c.in-Event.is, p.1, p.2) (event_fails g.C.Carry.carries c.args.trace g.K.Sink.takes g.K.Sink.failures c.in-Event.event (at c.args.self.now.pair c.args.self.now.carrier_failed c.args.sink.now) (at c.apply.new.self.pair c.apply.new.self.carrier_failed c.apply.new.sink) c.in_err-apply-in-Event.field-0.0 c.in_err-apply-in-Event.ensures)

pub returns-in-Event : goal.returns-in-Event
returns-in-Event g c =
    rw (c.in-Event.is) (one_event g.C.Carry.carries c.args.trace g.K.Sink.takes g.K.Sink.failures c.in-Event.event (at c.args.self.now.pair c.args.self.now.carrier_failed c.args.sink.now) (at c.apply.new.self.pair c.apply.new.self.carrier_failed c.apply.new.sink) c.in_ok-apply-in-Event.field-0 c.in_ok-apply-in-Event.ensures)

pub returns-in_err-flow_once-in-Flow : goal.returns-in_err-flow_once-in-Flow
returns-in_err-flow_once-in-Flow g c =
    let p = err_from_is_err_and c.from_residual-in_err-flow_once-in-Flow.result c.from_residual-in_err-flow_once-in-Flow.ensures.1 in
    rw (c.in-Flow.is, p.1, p.2) (fails_before g.C.Carry.carries c.args.trace g.K.Sink.takes g.K.Sink.failures (flow_once c.args.cut) (flow_once c.args.cut)
    (at c.args.self.now.pair c.args.self.now.carrier_failed c.args.sink.now) (at c.flow_once.new.self.pair c.flow_once.new.self.carrier_failed c.flow_once.new.sink) c.in_err-flow_once-in-Flow.field-0.0 c.in_err-flow_once-in-Flow.ensures)
