use Rattle.std.proofs.Common.{◌-◌, Ok}
use Rattle.pg_pair.specs.declared.event.Event.TheVariants as event
use Rattle.pgpipe_loop.specs.RunLoop.{times, most_times}
use Rattle.pgpipe_loop.specs.Private.Running.{at, Does}
use Rattle.pgpipe_loop.proofs.run_loop.Running.step.Given as goal

abbrev pub invariant-loop : goal.invariant-loop
invariant-loop g l =
    let old = at l.initial.self.pair l.initial.self.carrier_failed l.initial.sink in
    let now = at l.self.pair l.self.carrier_failed l.sink in
    Does {A = Unit {0}} g.C.Carry.carries l.trace g.K.Sink.takes g.K.Sink.failures (times most_times (event.Step)) (λ x. times (most_times - l.counter) (event.Step)) old (Ok tt) now
