-- The stage of a backend: at first packets, at messages, or closed.
use Rattle.std.specs.Prelude.{ℕ, ◌≡◌, Bool, true, false, List, ◌++◌, None}
use Rattle.pg_wire.specs.declared.fault.WireFault.{WireFault}
use Rattle.pg_wire.specs.First.{IsFaultyPacket, IsOpenPacket}
use Rattle.pg_wire.specs.Frontend.{frontend}
use Rattle.pg_wire.specs.Stream.{IsFaulty, IsOpen}
use Rattle.pg_backend.specs.declared.phase.BackPhase.{BackPhase}
use Rattle.pg_backend.specs.declared.phase.BackPhase.TheVariants as phase
use Rattle.pg_backend.specs.declared.script.Answer.{Answer}
use Rattle.pg_backend.specs.declared.script.Logged.{Logged}
use Rattle.pg_backend.specs.declared.script.Script.{Script}
use Rattle.pg_backend.specs.Session.{Copying, place_after}
use Rattle.pg_backend.specs.Input.{End, Asking, At, end_phase}
use Rattle.pg_backend.specs.declared.stage.Awaits.{Awaits}
use Rattle.pg_backend.specs.declared.stage.Awaits.TheVariants as awaits
use Rattle.pg_backend.specs.declared.stage.ClosedBy.TheVariants as closed_by
use Rattle.pg_backend.specs.declared.stage.BackStage.{BackStage}
use Rattle.pg_backend.specs.declared.stage.BackStage.TheVariants as stage

-- a backend as its callers see it: its script, the limit of a message's length field, the answers
-- that no decided request has used up, its stage, and its log
pub record BackendState : Type 0 where
  pub script : Script
  pub limit : ℕ
  pub left : List Answer
  pub stage : BackStage
  pub log : List Logged

-- ---- the phase

-- where the input ends, by what the backend awaits: its client's password, a request with these
-- steps so far, or the data of a copy
abbrev pub awaited_end : Awaits → End
awaited_end (awaits.Password expected) = Asking
awaited_end (awaits.Request steps) = At (place_after steps)
awaited_end (awaits.Data c) = At Copying

-- the phase of a backend at this stage
abbrev pub phase_of : BackStage → BackPhase
phase_of (stage.First d) = phase.First
phase_of (stage.Open d a) = end_phase (awaited_end a)
phase_of (stage.Closed by) = phase.Closed

-- No step of the backend ran out of memory: such a step would have closed it, and nothing opens a
-- closed backend.
abbrev pub had_memory : BackStage → Bool
had_memory (stage.Closed closed_by.Memory) = false
had_memory s = true

-- whether it was the loss of its connection that closed the backend
abbrev pub was_lost : BackStage → Bool
was_lost (stage.Closed closed_by.Lost) = true
was_lost s = false

-- the phase at this stage, where the input leads to the phase `p`: Closed where running out of memory or
-- the loss of the connection has closed the backend, and else p
abbrev pub phase_by : BackStage → BackPhase → BackPhase
phase_by (stage.Closed closed_by.Memory) p = phase.Closed
phase_by (stage.Closed closed_by.Lost) p = phase.Closed
phase_by s p = p

-- ---- the rest

-- No whole packet or message waits, and the rest is open. A closed backend awaits nothing.
abbrev pub IsWaiting : BackStage → Type 0
IsWaiting (stage.First d) = IsOpenPacket d.kept
IsWaiting (stage.Open d a) = IsOpen frontend d.limit d.kept
IsWaiting (stage.Closed by) = ⊥

-- The rest is faulty, for this reason. That of a closed backend isn't looked at.
abbrev pub HasFaultyRest : BackStage → WireFault → Type 0
HasFaultyRest (stage.First d) f = IsFaultyPacket d.kept f
HasFaultyRest (stage.Open d a) f = IsFaulty frontend d.limit d.kept f
HasFaultyRest (stage.Closed by) f = ⊥

-- Where a step may run out of memory: the rest is not open, so a whole packet or message waits, or
-- the rest is faulty. In a closed backend never.
abbrev pub WantsMemory : BackStage → Type 0
WantsMemory (stage.Closed by) = ⊥
WantsMemory s = IsWaiting s → ⊥

-- While a backend is open, its decoder has found no fault and has the backend's limit; before the
-- Startup more first packets may come.
abbrev pub IsSound : ℕ → BackStage → Type 0
IsSound limit (stage.First d) = (d.fault ≡ None) × (d.ended ≡ false)
IsSound limit (stage.Open d a) = (d.fault ≡ None) × (d.limit ≡ limit)
IsSound limit (stage.Closed by) = Unit {0}

-- ---- what moves it

-- the stage once `push` has stored a piece; a closed backend stores nothing
abbrev pub stored : BackStage → List ℕ → BackStage
stored (stage.First d) piece = stage.First (record d { kept = d.kept ++ piece })
stored (stage.Open d a) piece = stage.Open (record d { kept = d.kept ++ piece }) a
stored (stage.Closed by) piece = stage.Closed by

-- the stage after `lost`: closed as lost, unless the backend was closed before
abbrev pub lost_stage : BackStage → BackStage
lost_stage (stage.Closed by) = stage.Closed by
lost_stage s = stage.Closed closed_by.Lost
