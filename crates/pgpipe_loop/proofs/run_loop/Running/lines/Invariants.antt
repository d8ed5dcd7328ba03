use Rattle.std.proofs.Common.{Ok}
use Rattle.pgpipe_loop.specs.RunLoop.{planned_events}
use Rattle.pgpipe_loop.specs.Private.Running.{at, DoesAll}
use Rattle.pgpipe_loop.proofs.run_loop.Running.lines.Given as goal

-- what was yielded is done
abbrev pub invariant-loop-line : goal.invariant-loop-line
invariant-loop-line g l =
    DoesAll {A = Unit {0}} g.C.Carry.carries l.trace g.K.Sink.takes g.K.Sink.failures (planned_events l.cut l.yielded) (at l.initial.self.pair l.initial.self.carrier_failed l.initial.sink) (Ok tt) (at l.self.pair l.self.carrier_failed l.sink)
