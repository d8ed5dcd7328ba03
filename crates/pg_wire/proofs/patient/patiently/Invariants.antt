-- So far each call was interrupted.
use Rattle.std.proofs.Common.{◌≤◌}
use Rattle.pg_wire.specs.Private.Patience.{Interruptions}
use Rattle.pg_wire.specs.declared.patient.TheConstants.{PATIENCE}
use Rattle.pg_wire.proofs.patient.patiently.Given as goal

abbrev pub invariant-loop : goal.invariant-loop
invariant-loop g l = Interruptions g.A.Attempt.gives l.counter l.fn.attempt l.attempt × (l.counter ≤ PATIENCE)
