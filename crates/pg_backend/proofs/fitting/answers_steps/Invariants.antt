use Rattle.std.proofs.Common.{◌≡◌, drop}
use Rattle.pg_backend.specs.Fitting.{answers_steps}
use Rattle.pg_backend.proofs.fitting.answers_steps.Given as goal

abbrev pub invariant-loop-i : goal.invariant-loop-i
invariant-loop-i l = answers_steps l.fn.error l.fn.steps l.fn.parts ≡ answers_steps l.fn.error (drop l.i l.fn.steps) (drop l.i l.fn.parts)
