use Rattle.std.proofs.Common.{sym}
use Rattle.std.proofs.lemmas.Result.{err_from_is_err_and}
use Rattle.pgpipe_loop.specs.declared.run_loop.Ran.TheVariants.{CarrierFailed, Whole}
use Rattle.pgpipe_loop.specs.RunLoop.{planned_events}
use Rattle.pgpipe_loop.specs.Private.Running.{at}
use Rattle.pgpipe_loop.proofs.LoopEnds.{closed, not_closed, not_done}
use Rattle.pgpipe_loop.proofs.run_loop.Running.run.Goals as goal

pub returns-in_err-lines : goal.returns-in_err-lines
returns-in_err-lines g c = λ start begun all stands.
    let p = err_from_is_err_and c.from_residual.result c.from_residual.ensures.1 in
    rw (p.1, p.2) (not_done g.C.Carry.carries c.args.trace g.K.Sink.takes g.K.Sink.failures start begun all (planned_events c.args.cut c.args.lines) (at c.args.self.now.pair c.args.self.now.carrier_failed c.args.sink.now) (at c.lines.new.self.pair c.lines.new.self.carrier_failed c.lines.new.sink) stands c.in_err-lines.field-0.0 c.in_err-lines.ensures)

pub returns-in_err-close : goal.returns-in_err-close
returns-in_err-close g c = λ start begun all stands.
    let p = err_from_is_err_and c.from_residual-in_err-close.result c.from_residual-in_err-close.ensures.1 in
    rw (p.1, p.2) (not_closed g.C.Carry.carries c.args.trace g.K.Sink.takes g.K.Sink.failures start begun all (planned_events c.args.cut c.args.lines) (at c.args.self.now.pair c.args.self.now.carrier_failed c.args.sink.now) (at c.lines.new.self.pair c.lines.new.self.carrier_failed c.lines.new.sink) stands c.in_err-close.field-0.0 c.close.new.sink c.in_ok-lines.ensures c.in_err-close.ensures)

pub returns-then-self : goal.returns-then-self
returns-then-self g c = λ start begun all stands.
    closed g.C.Carry.carries c.args.trace g.K.Sink.takes g.K.Sink.failures start begun all (planned_events c.args.cut c.args.lines) (at c.args.self.now.pair c.args.self.now.carrier_failed c.args.sink.now) (at c.lines.new.self.pair c.lines.new.self.carrier_failed c.lines.new.sink) stands CarrierFailed c.close.new.sink (sym c.if-self.true) c.in_ok-lines.ensures c.in_ok-close.ensures

pub returns-else-self : goal.returns-else-self
returns-else-self g c = λ start begun all stands.
    closed g.C.Carry.carries c.args.trace g.K.Sink.takes g.K.Sink.failures start begun all (planned_events c.args.cut c.args.lines) (at c.args.self.now.pair c.args.self.now.carrier_failed c.args.sink.now) (at c.lines.new.self.pair c.lines.new.self.carrier_failed c.lines.new.sink) stands Whole c.close.new.sink (sym c.if-self.false) c.in_ok-lines.ensures c.in_ok-close.ensures
