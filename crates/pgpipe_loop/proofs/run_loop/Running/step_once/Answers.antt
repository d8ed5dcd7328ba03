use Rattle.std.proofs.lemmas.Result.{err_from_is_err_and}
use Rattle.pg_pair.specs.declared.event.Event.TheVariants as event
use Rattle.pgpipe_loop.specs.RunLoop.{left_to_happen}
use Rattle.pgpipe_loop.specs.Private.Running.{at}
use Rattle.pgpipe_loop.proofs.Loops.{once, not_once}
use Rattle.pgpipe_loop.proofs.run_loop.Running.step_once.Goals as goal

pub returns-in_err-answer : goal.returns-in_err-answer
returns-in_err-answer g c =
    let p = err_from_is_err_and c.from_residual.result c.from_residual.ensures.1 in
    let old = at c.args.self.now.pair c.args.self.now.carrier_failed c.args.sink.now in
    let new = at c.apply.new.self.pair c.apply.new.self.carrier_failed c.apply.new.sink in
    rw (p.1, p.2) (λ n. not_once g.C.Carry.carries c.args.trace g.K.Sink.takes g.K.Sink.failures (λ nothing. left_to_happen nothing (record { event = event.Step; again = n })) event.Step n old new c.in_err-answer.field-0.0 c.in_err-answer.ensures)

pub returns : goal.returns
returns g c =
    let old = at c.args.self.now.pair c.args.self.now.carrier_failed c.args.sink.now in
    let new = at c.apply.new.self.pair c.apply.new.self.carrier_failed c.apply.new.sink in
    once g.C.Carry.carries c.args.trace g.K.Sink.takes g.K.Sink.failures event.Step old new c.in_ok-answer.answer c.is_nothing.result c.in_ok-answer.ensures c.is_nothing.ensures
