-- What the calls of a backend do.
use Rattle.std.specs.Prelude.{ℕ, ◌≡◌, ◌<◌, Bool, true, false, List, ◌++◌, length, Result, Ok, Err}
use Rattle.pg_wire.specs.message.FrontMessage.{FrontMessage}
use Rattle.pg_wire.specs.Frontend.{frontend}
use Rattle.pg_backend.specs.declared.phase.BackPhase.TheVariants as phase
use Rattle.pg_backend.specs.Input.{Input, is_started, IsFaultyRest, IsOpenRest, HandlesNext, IsStray}
use Rattle.pg_backend.specs.Lists.{IsPrefix}
use Rattle.pg_backend.specs.declared.fault.BackendFault.{BackendFault}
use Rattle.pg_backend.specs.declared.fault.BackendFault.TheVariants as faults
use Rattle.pg_backend.specs.declared.stage.ClosedBy.TheVariants as closed_by
use Rattle.pg_backend.specs.declared.stage.BackStage.TheVariants as stage
-- A backend's stage and its histories.
pub use Rattle.pg_backend.specs.Stage.{BackendState, awaited_end, phase_of, had_memory, was_lost}
pub use Rattle.pg_backend.specs.Stage.{phase_by, IsWaiting, HasFaultyRest, WantsMemory}
pub use Rattle.pg_backend.specs.Stage.{IsSound, stored, lost_stage}
pub use Rattle.pg_backend.specs.History.{History, IsHistoryOf, HasHandled, Carries, blank}
pub use Rattle.pg_backend.specs.History.{unchanged, with_pushed, with_handled, with_message}
pub use Rattle.pg_backend.specs.History.{with_fault}

-- The backend is closed.
abbrev pub IsClosed : BackendState → Type 0
IsClosed b = phase_of b.stage ≡ phase.Closed

-- A push stores the whole piece, or rejects it and changes nothing: where the backend is closed, or
-- where memory ran out, which a piece without bytes never meets.
abbrev pub Stores : BackendState → List ℕ → Result Unit BackendFault → BackendState → Type 0
Stores old piece (Ok x) new = (IsClosed old → ⊥)
    × (new ≡ record old { stage = stored old.stage piece })
Stores old piece (Err faults.Memory) new = (IsClosed old → ⊥) × (0 < length piece) × (new ≡ old)
Stores old piece (Err faults.Closed) new = IsClosed old × (new ≡ old)
Stores old piece (Err f) new = ⊥

-- A step that took a packet or a message leaves script and limit as they were. Where the backend is
-- closed by it, that is for its input, neither because memory ran out nor because the connection was lost.
pub record PlaysOn (old new : BackendState) : Type 0 where
  pub script_is : new.script ≡ old.script
  pub limit_is : new.limit ≡ old.limit
  pub not_starved : had_memory new.stage ≡ true
  pub not_lost : was_lost new.stage ≡ false

-- What `step` returns: false where nothing whole waits; true for a packet or message that may stand
-- in its place; K4 for one that may not, K1 for a faulty rest and K2 where memory ran out, each of
-- which closes; K3 where it was closed. K2 appends and logs nothing.
abbrev pub Steps : BackendState → List ℕ
    → Result Bool BackendFault → BackendState → List ℕ → Type 0
Steps old before (Ok false) new after = IsWaiting old.stage × (new ≡ old) × (after ≡ before)
Steps old before (Ok true) new after = (IsClosed old → ⊥)
    × PlaysOn old new × IsPrefix old.log new.log × IsPrefix before after
Steps old before (Err (faults.Unexpected t)) new after = (IsClosed old → ⊥)
    × PlaysOn old new × IsClosed new × (new.log ≡ old.log) × IsPrefix before after
Steps old before (Err (faults.Wire f)) new after = HasFaultyRest old.stage f
    × (new ≡ record old { stage = stage.Closed closed_by.Input }) × IsPrefix before after
Steps old before (Err faults.Memory) new after = WantsMemory old.stage
    × (new ≡ record old { stage = stage.Closed closed_by.Memory }) × (after ≡ before)
Steps old before (Err faults.Closed) new after = IsClosed old × (new ≡ old) × (after ≡ before)

-- How a step with this result, which has sent `added`, carries the history h on: by the packet or
-- message that it took (true, K4), by the fault of the rest (K1), or by nothing.
abbrev pub Handles : History → List ℕ
    → BackendState → Result Bool BackendFault → BackendState → Type 0
Handles h added old (Ok false) new = IsOpenRest (is_started h.input.packets) old.limit h.rest
    × IsHistoryOf h new
Handles h added old (Ok true) new = (i : Input) × (rest : List ℕ)
    × HandlesNext old.limit h.input h.rest i rest × (IsStray old.script i → ⊥)
    × IsHistoryOf (with_handled i rest added h) new
Handles h added old (Err (faults.Unexpected t)) new = (m : FrontMessage) × (rest : List ℕ)
    × (frontend.tag m ≡ t)
    × HandlesNext old.limit h.input h.rest (with_message m h.input) rest
    × IsStray old.script (with_message m h.input)
    × IsHistoryOf (with_handled (with_message m h.input) rest added h) new
Handles h added old (Err (faults.Wire f)) new =
    IsFaultyRest (is_started h.input.packets) old.limit h.rest f
    × IsHistoryOf (with_handled (with_fault h.input) h.rest added h) new
Handles h added old (Err faults.Memory) new = IsHistoryOf h new
Handles h added old (Err faults.Closed) new = IsHistoryOf h new

-- From this history a step has appended `added` to what was sent, and has handled what its result
-- says.
abbrev pub StepsFrom : History → BackendState → List ℕ
    → Result Bool BackendFault → BackendState → List ℕ → Type 0
StepsFrom h old before answer new after = (added : List ℕ) × (after ≡ before ++ added)
    × Handles h added old answer new

-- A step carries each history of the old backend on, as StepsFrom says. `before` and `after` are
-- all that was sent, before the step and after it.
abbrev pub CarriesStep : BackendState → List ℕ
    → Result Bool BackendFault → BackendState → List ℕ → Type 0
CarriesStep old before answer new after = (h : History)
    → IsHistoryOf h old → StepsFrom h old before answer new after
