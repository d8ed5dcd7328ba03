-- What `serve` does: turn by turn a backend answers over a link, to the end of the connection, and the
-- lines of each turn are sent.
use Rattle.std.specs.Prelude.{◌≡◌, ℕ, ◌+◌, ◌-◌, ◌^◌, ◌⊎◌, List, [], ◌++◌, length, drop, Option, Some, None, Result, Ok, Err}
use Rattle.pg_copy.specs.Row.{Row}
use Rattle.pg_wire.specs.declared.link.LinkFault.{LinkFault}
use Rattle.pg_backend.specs.History.{IsHistoryOf, blank}
use Rattle.pg_backend.specs.Stage.{BackendState, phase_of}
use Rattle.pg_backend.specs.declared.phase.BackPhase.{BackPhase}
use Rattle.pg_backend.specs.declared.script.Script.{Script}
use Rattle.pg_client.specs.declared.phase.Cause.TheVariants as cause
use Rattle.pg_client.specs.declared.phase.Phase.TheVariants as client
use Rattle.pg_pair.specs.declared.event.Applied.{Applied}
use Rattle.pg_pair.specs.declared.event.Applied.TheVariants as applied
use Rattle.pg_backend.specs.declared.answered.AnswerFault.{AnswerFault}
use Rattle.pg_backend.specs.declared.answered.AnswerFault.TheVariants as fault
use Rattle.pg_backend.specs.declared.answered.Answered.{Answered}
use Rattle.pg_backend.specs.declared.answered.Answered.TheVariants as answered
use Rattle.pg_backend.specs.OverLink.{Answers, Connection, connected}
use Rattle.pgpipe_base.specs.declared.fault.ToolFault.{ToolFault}
use Rattle.pgpipe_base.specs.declared.fault.ToolFault.TheVariants as tool
use Rattle.pgpipe_base.specs.Outbox.{Puts}
use Rattle.pgpipe_loop.specs.Lines.{closing_rows, decided_rows, text_lines}

-- ---- what is sent

module _ {K : Type 0} (sends : K → List ℕ → K → Type 0) (failures : K → ℕ) where
  -- The lines of these rows were sent, and the sink didn't fail.
  abbrev pub AreSent : K → List Row → K → Type 0
  AreSent sink rows sink' =
      Puts {A = Unit {0}} sends failures [] sink (text_lines rows) (Ok tt) [] sink'

  -- A prefix of the lines of these rows was sent, and then the sink failed.
  abbrev pub AreCutOff : K → List Row → K → Type 0
  AreCutOff sink rows sink' = (failed : LinkFault)
      × Puts {A = Unit {0}} sends failures [] sink (text_lines rows) (Err failed) [] sink'

-- ---- a turn

-- what is answered in a turn, as what an event of a loop comes to: a fault or nothing
abbrev pub applied_of : Result Answered AnswerFault → Applied
applied_of (Ok answer) = applied.Done
applied_of (Err (fault.Backend f)) = applied.Backend f
applied_of (Err fault.Link) = applied.Carrier

-- In which phase the last turn of a connection leaves the backend, by its phases before and after the
-- turn; None where the connection goes on. Where client or link were found to be gone, it is the phase
-- before.
abbrev pub left_in : BackPhase → Result Answered AnswerFault → BackPhase → Option BackPhase
left_in before (Ok answered.TurnsUsed) after = None
left_in before (Ok answered.Lost) after = Some before
left_in before (Ok answered.Closed) after = Some after
left_in before (Err fault.Link) after = Some before
left_in before (Err (fault.Backend f)) after = Some after

-- the lines of a turn, as rows: what was decided in it, and its fault
abbrev pub turn_rows : {L : Type 0} → Connection L → Result Answered AnswerFault → Connection L
    → List Row
turn_rows old answer new =
    decided_rows (drop (length old.backend.log) new.backend.log) (applied_of answer)

-- ---- a connection

-- the most turns of a connection
abbrev pub most_turns : ℕ
most_turns = 2 ^ 64 - 1

-- `gives`, `has_ended` and `receive_failures` are those of the link as a source, `takes` and
-- `send_failures` as a sink.
module _ {L : Type 0} (gives takes : L → List ℕ → L → Type 0) (has_ended : L → Type 0)
    (receive_failures send_failures : L → ℕ) where
  -- From a connection on so many turns were taken, one after the other, and it went on after each
  -- but the last, and maybe after that. They led to this connection, these are their lines, as
  -- rows, and in this phase the backend was left: None where the connection still goes on.
  pub data Turns (begun : Connection L) : ℕ → Connection L → List Row → Option BackPhase
      → Type 0 where
    at_first : Turns begun 0 begun [] None
    one_more : (count : ℕ) (old new : Connection L) (rows : List Row)
        (answer : Result Answered AnswerFault)
        → Turns begun count old rows None
        → Answers gives takes has_ended receive_failures send_failures 1 old answer new
        → Turns begun (count + 1) new (rows ++ turn_rows old answer new)
        (left_in (phase_of old.backend.stage) answer (phase_of new.backend.stage))

  -- A new backend of this script took turns over this link, with these lines, as rows.
  pub record TakesTurns (script : Script) (link : L) (count : ℕ) (now : Connection L)
      (rows : List Row) (left : Option BackPhase) : Type 0 where
    pub begun : BackendState
    pub is_blank : IsHistoryOf blank begun
    pub script_is : begun.script ≡ script
    pub turns : Turns (connected link begun) count now rows left

  -- The connection is over, and its backend was left in this phase; or all turns of a connection
  -- are used up, and then it is over too.
  abbrev pub IsOver : ℕ → Connection L → Option BackPhase → BackPhase → Type 0
  IsOver count now (Some left) phase = phase ≡ left
  IsOver count now None phase = (count ≡ most_turns) × (phase ≡ phase_of now.backend.stage)

  -- A client was served from this script over a link, which is `link'` at the end, with these
  -- lines, as rows: those of all turns of its connection, and the closing ones.
  pub record IsServed (script : Script) (link link' : L) (rows : List Row) : Type 0 where
    pub count : ℕ
    pub over : Connection L
    pub before : List Row
    pub left : Option BackPhase
    pub phase : BackPhase
    pub turns : TakesTurns script link count over before left
    pub is_over : IsOver count over left phase
    pub link_is : link' ≡ over.link
    pub rows_are : rows ≡ before ++ closing_rows over.backend.log (client.Closed cause.Lost) phase

  -- These are the lines of some turns of a client that is served, as rows.
  pub record IsServedInPart (script : Script) (link : L) (rows : List Row) : Type 0 where
    pub count : ℕ
    pub now : Connection L
    pub left : Option BackPhase
    pub turns : TakesTurns script link count now rows left

  -- These are the lines of a client that is served, as rows, so far: of some turns, or all.
  abbrev pub IsServedSoFar : Script → L → List Row → Type 0
  IsServedSoFar script link rows = IsServedInPart script link rows
      ⊎ ((link' : L) × IsServed script link link' rows)

  module _ {K : Type 0} (sends : K → List ℕ → K → Type 0) (failures : K → ℕ) where
    -- What `serve` comes to, by its result. Ok: the client was served, and all lines were sent.
    -- Memory: lines were sent up to the turn where memory ran out for them. Device: the sink
    -- failed.
    abbrev pub Serves : Script → L → K → Result Unit ToolFault → L → K → Type 0
    Serves script link sink (Ok x) link' sink' =
        (rows : List Row) × IsServed script link link' rows × AreSent sends failures sink rows sink'
    Serves script link sink (Err tool.Memory) link' sink' =
        (rows : List Row) × IsServedInPart script link rows × AreSent sends failures sink rows sink'
    Serves script link sink (Err tool.Device) link' sink' =
        (rows : List Row) × IsServedSoFar script link rows
        × AreCutOff sends failures sink rows sink'
