-- What a step of the backend does to a pair.
use Rattle.std.specs.Prelude.{◌≡◌, ℕ, Bool, true, false, List, Result, Ok, Err}
use Rattle.pg_backend.specs.declared.phase.BackPhase.{BackPhase}
use Rattle.pg_backend.specs.declared.phase.BackPhase.TheVariants as back
use Rattle.pg_backend.specs.declared.fault.BackendFault.{BackendFault}
use Rattle.pg_backend.specs.Backend.{BackendState, Steps, CarriesStep}
use Rattle.pg_pair.specs.declared.event.Applied.{Applied}
use Rattle.pg_pair.specs.declared.event.Applied.TheVariants as applied
use Rattle.pg_pair.specs.View.{DoesNothing, PairView}

-- One `step` of the backend, with its result. `before` is all that was sent to the client until
-- then, and `after` what was sent with it. Each history of the backend is carried on.
pub record BackendSteps (old : BackendState) (before : List ℕ)
    (answer : Result Bool BackendFault) (new : BackendState) (after : List ℕ) : Type 0 where
  pub call : Steps old before answer new after
  pub history : CarriesStep old before answer new after

-- what the event comes to, by what `step` returned: Done where a packet or message was handled,
-- Nothing where no whole one waits, or the backend's fault
abbrev pub step_applied : Result Bool BackendFault → Applied
step_applied (Ok true) = applied.Done
step_applied (Ok false) = applied.Nothing
step_applied (Err f) = applied.Backend f

-- The backend makes one step, and the bytes that it appends are sent to the client.
pub record StepsOnce {C : Type 0} (p : PairView C) (result : Applied)
    (q : PairView C) : Type 0 where
  pub answer : Result Bool BackendFault
  pub step : BackendSteps p.backend p.to_client.sent answer q.backend q.to_client.sent
  pub result_is : result ≡ step_applied answer
  pub rest : q ≡ record p {
    backend = q.backend;
    to_client = record p.to_client { sent = q.to_client.sent };
  }

-- A step event, by the backend's phase: a closed backend makes no step.
abbrev pub StepsUnlessClosed : {C : Type 0}
    → BackPhase → PairView C → Applied → PairView C → Type 0
StepsUnlessClosed back.Closed p result q = DoesNothing p result q
StepsUnlessClosed _ p result q = StepsOnce p result q
