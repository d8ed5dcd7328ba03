-- Turns, clients and lines, by their results.
use Rattle.std.specs.Prelude.{◌≡◌, ℕ, ◌⊎◌, List, [], Option, Result, Ok, Err}
use Rattle.pg_copy.specs.Row.{Row}
use Rattle.pg_wire.specs.declared.link.LinkFault.{LinkFault}
use Rattle.pg_backend.specs.Stage.{BackendState, phase_of}
use Rattle.pg_backend.specs.declared.phase.BackPhase.{BackPhase}
use Rattle.pg_backend.specs.declared.script.Script.{Script}
use Rattle.pg_backend.specs.declared.answered.AnswerFault.{AnswerFault}
use Rattle.pg_backend.specs.declared.answered.Answered.{Answered}
use Rattle.pg_backend.specs.OverLink.{Answers, Connection, connected}
use Rattle.pgpipe_base.specs.declared.fault.ToolFault.{ToolFault}
use Rattle.pgpipe_base.specs.declared.fault.ToolFault.TheVariants as tool
use Rattle.pgpipe_base.specs.Outbox.{Puts}
use Rattle.pgpipe_files.specs.ScriptFile.{script_of}
use Rattle.pgpipe_loop.specs.Serving.{AreCutOff, AreSent, IsOver, IsServed, Turns, left_in, turn_rows}
use Rattle.pgpipe_loop.specs.Clients.{IsNextInPart, IsNextSoFar}

-- a backend over the link to its client, and the sink for the lines
pub record Serving (L K : Type 0) : Type 0 where
  pub connection : Connection L
  pub sink : K

-- this backend over this link, and this sink
abbrev pub serving : {L K : Type 0} → L → BackendState → K → Serving L K
serving link backend sink = record { connection = connected link backend; sink = sink }

-- Text is sent, all of it or, where the sink failed, a prefix.
abbrev pub SendsLines : {K : Type 0} → (K → List ℕ → K → Type 0) → (K → ℕ) → K → List ℕ
    → Result Unit ToolFault → K → Type 0
SendsLines sends failures sink text (Ok x) sink' =
    Puts {A = Unit {0}} sends failures [] sink text (Ok tt) [] sink'
SendsLines sends failures sink text (Err tool.Memory) sink' = ⊥
SendsLines sends failures sink text (Err tool.Device) sink' = (failed : LinkFault)
    × Puts {A = Unit {0}} sends failures [] sink text (Err failed) [] sink'

module _ {L K : Type 0} (gives takes : L → List ℕ → L → Type 0) (has_ended : L → Type 0)
    (receive_failures send_failures : L → ℕ) (sends : K → List ℕ → K → Type 0)
    (failures : K → ℕ) where
  -- One turn, by its result: its lines were sent, and the connection goes on or is over; or memory
  -- ran out for the lines, and nothing was sent; or the sink failed in them.
  abbrev pub TakesTurn : Serving L K → Result (Option BackPhase) ToolFault → Serving L K → Type 0
  TakesTurn old (Ok left) new = (answer : Result Answered AnswerFault)
      × Answers gives takes has_ended receive_failures send_failures 1 old.connection answer
      new.connection
      × (left ≡ left_in (phase_of old.connection.backend.stage) answer
      (phase_of new.connection.backend.stage))
      × AreSent sends failures old.sink (turn_rows old.connection answer new.connection) new.sink
  TakesTurn old (Err tool.Memory) new = new.sink ≡ old.sink
  TakesTurn old (Err tool.Device) new = (answer : Result Answered AnswerFault)
      × Answers gives takes has_ended receive_failures send_failures 1 old.connection answer
      new.connection
      × AreCutOff sends failures old.sink (turn_rows old.connection answer new.connection) new.sink

  -- Turns were taken, and of their lines, as rows, this holds.
  pub record HasTurned (start : Serving L K) (count : ℕ) (now : Connection L)
      (left : Option BackPhase) (holds : List Row → Type 0) : Type 0 where
    pub rows : List Row
    pub turns : Turns gives takes has_ended receive_failures send_failures start.connection count
        now rows left
    pub told : holds rows

  -- All turns, by the result: the connection is over; or memory ran out for lines; or the sink
  -- failed.
  abbrev pub TakesAllTurns : Serving L K → Result BackPhase ToolFault → Serving L K → Type 0
  TakesAllTurns old (Ok phase) new = (count : ℕ) × (left : Option BackPhase)
      × HasTurned old count new.connection left
      (λ rows. AreSent sends failures old.sink rows new.sink)
      × IsOver gives takes has_ended receive_failures send_failures count new.connection left phase
  TakesAllTurns old (Err tool.Memory) new = (count : ℕ) × (now : Connection L)
      × (left : Option BackPhase)
      × HasTurned old count now left (λ rows. AreSent sends failures old.sink rows new.sink)
  TakesAllTurns old (Err tool.Device) new = (count : ℕ) × (now : Connection L)
      × (left : Option BackPhase)
      × HasTurned old count now left (λ rows. AreCutOff sends failures old.sink rows new.sink)

module _ {L C K : Type 0} (gives takes : L → List ℕ → L → Type 0) (has_ended : L → Type 0)
    (receive_failures send_failures : L → ℕ) (brings : C → L → C → Type 0) (fails : C → C → Type 0)
    (sends : K → List ℕ → K → Type 0) (failures : K → ℕ) (bytes : List ℕ) where
  -- One client more, by the result: it was served; or memory ran out; or it couldn't be had, or
  -- the sink failed.
  abbrev pub ServesNext : C → K → Result Unit ToolFault → C → K → Type 0
  ServesNext clients sink (Ok x) clients' sink' = (link : L) × (link' : L) × (script : Script)
      × (rows : List Row) × brings clients link clients' × (script_of bytes ≡ Ok script)
      × IsServed gives takes has_ended receive_failures send_failures script link link' rows
      × AreSent sends failures sink rows sink'
  ServesNext clients sink (Err tool.Memory) clients' sink' = (rows : List Row)
      × IsNextInPart gives takes has_ended receive_failures send_failures brings fails bytes clients
      rows
      × AreSent sends failures sink rows sink'
  ServesNext clients sink (Err tool.Device) clients' sink' =
      (fails clients clients' × (sink' ≡ sink))
      ⊎ ((rows : List Row)
      × IsNextSoFar gives takes has_ended receive_failures send_failures brings fails bytes clients
      rows
      × AreCutOff sends failures sink rows sink')
