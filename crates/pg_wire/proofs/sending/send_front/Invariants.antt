use Rattle.std.proofs.Common.{length, take, ◌-◌, ◌≤◌}
use Rattle.pg_wire.specs.Sending.{Sends}
use Rattle.pg_wire.proofs.sending.send_front.Given as goal

abbrev pub invariant-loop-sent : goal.invariant-loop-sent
invariant-loop-sent g l = (l.sent ≤ length l.bytes)
    × Sends g.K.Sink.takes g.K.Sink.failures l.initial.sink (take l.sent l.bytes) l.sink

abbrev pub decreases-loop-sent : goal.decreases-loop-sent
decreases-loop-sent g l = length l.bytes - l.sent
