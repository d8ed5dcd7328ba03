use Rattle.std.proofs.Common.{map, take}
use Rattle.pg_wire.specs.Segment.{step_message}
use Rattle.pg_client.specs.Private.Sending.{ArePut}
use Rattle.pg_client.proofs.sending.put_steps.Given as goal

abbrev pub invariant-loop-step : goal.invariant-loop-step
invariant-loop-step l = ArePut (map step_message (take l.step-index l.steps)) l.initial.out.items l.starved l.out.items
