use Rattle.std.proofs.Common.{refl}
use Rattle.std.proofs.lemmas.Result.{err_from_is_err_and}
use Rattle.pgpipe_loop.specs.Private.Running.{at}
use Rattle.pgpipe_loop.proofs.Loops.{delivered, undelivered}
use Rattle.pgpipe_loop.proofs.run_loop.Running.deliver_once.Goals as goal

pub returns-in_err-apply : goal.returns-in_err-apply
returns-in_err-apply g c =
    let p = err_from_is_err_and c.from_residual.result c.from_residual.ensures.1 in
    let old = at c.args.self.now.pair c.args.self.now.carrier_failed c.args.sink.now in
    let new = at c.apply.new.self.pair c.apply.new.self.carrier_failed c.apply.new.sink in
    rw (p.1, p.2) (undelivered g.C.Carry.carries c.args.trace g.K.Sink.takes g.K.Sink.failures c.args.way c.args.count c.delivery.result old new c.in_err-apply.field-0.0 c.delivery.ensures c.in_err-apply.ensures)

pub returns : goal.returns
returns g c =
    let old = at c.args.self.now.pair c.args.self.now.carrier_failed c.args.sink.now in
    let new = at c.apply.new.self.pair c.apply.new.self.carrier_failed c.apply.new.sink in
    delivered g.C.Carry.carries c.args.trace g.K.Sink.takes g.K.Sink.failures c.args.way c.args.count c.delivery.result old new _ _ c.delivery.ensures c.in_ok-apply.ensures (rw (c.reached.ensures.value, c.reached-before.ensures.value) refl)
