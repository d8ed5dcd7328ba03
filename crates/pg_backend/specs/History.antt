-- What a backend went through, from its beginning. It is a value, which no backend stores, and
-- which each call carries on.
use Rattle.std.specs.Prelude.{ℕ, ◌≡◌, true, false, List, [], ◌∷◌, ◌++◌}
use Rattle.std.specs.List.{AllByRecursion}
use Rattle.pg_wire.specs.message.FrontMessage.{FrontMessage}
use Rattle.pg_wire.specs.Decoder.{HasTaken}
use Rattle.pg_wire.specs.First.{IsBeginning}
use Rattle.pg_wire.specs.FirstDecoder.{HasBegun}
use Rattle.pg_wire.specs.Frontend.{frontend}
use Rattle.pg_backend.specs.declared.script.Answer.{Answer}
use Rattle.pg_backend.specs.declared.script.Script.{Script}
use Rattle.pg_backend.specs.Input.{Input, is_started, IsInput, transcript, output, IsSpelled, input_log, input_phase}
use Rattle.pg_backend.specs.declared.stage.BackStage.{BackStage}
use Rattle.pg_backend.specs.declared.stage.BackStage.TheVariants as stage
use Rattle.pg_backend.specs.Awaited.{AwaitsAt}
use Rattle.pg_backend.specs.Stage.{BackendState, phase_of, phase_by}

-- what was done with a backend, and what it did, from its beginning to some time
pub record History : Type 0 where
  -- the bytes that it was given, by `push`
  pub pushed : List ℕ
  -- the packets and messages that it has handled of them, and the rest, of which it has handled
  -- nothing
  pub input : Input
  pub rest : List ℕ
  -- the bytes that its steps have appended
  pub sent : List ℕ

-- ---- the histories of a backend

-- The stage is what this history leads to: its decoder was given the history's bytes, has given its
-- packets and messages, and keeps its rest. Of a closed backend only the other clauses speak.
abbrev pub StandsAt : Script → List Answer → History → BackStage → Type 0
StandsAt s left h (stage.First d) = HasBegun d h.pushed h.input.packets × (d.kept ≡ h.rest)
    × (h.input.messages ≡ []) × (h.input.faulty ≡ false) × (left ≡ s.answers)
StandsAt s left h (stage.Open d a) = (after_packets : List ℕ)
    × IsBeginning h.pushed h.input.packets true after_packets
    × HasTaken frontend d after_packets h.input.messages × (d.kept ≡ h.rest)
    × (h.input.faulty ≡ false) × (is_started h.input.packets ≡ true)
    × AwaitsAt s left h.input.packets h.input.messages a
StandsAt s left h (stage.Closed by) = Unit {0}

-- By this history the backend came to be what it is. Nothing of it is stored.
pub record IsHistoryOf (h : History) (b : BackendState) : Type 0 where
  -- the bytes are the packets, the messages and the rest
  pub input : IsInput b.limit h.pushed h.input h.rest
  -- what was sent is the transcript of the input, all spelled
  pub sent_is : h.sent ≡ output b.script h.input
  pub spelled : AllByRecursion IsSpelled (transcript b.script h.input)
  -- the log is that of the input
  pub log_is : b.log ≡ input_log b.script h.input
  -- the phase is the one that the input leads to, unless a step ran out of memory or the
  -- connection was lost
  pub phase_is : phase_of b.stage ≡ phase_by b.stage (input_phase b.script h.input)
  pub stands : StandsAt b.script b.left h b.stage

-- By some history the backend was given the bytes `pushed`, has handled this input of them, with
-- this rest, and its steps have sent `sent`.
abbrev pub HasHandled : BackendState → List ℕ → Input → List ℕ → List ℕ → Type 0
HasHandled b pushed i rest sent =
    IsHistoryOf (record { pushed = pushed; input = i; rest = rest; sent = sent }) b

-- ---- how a call carries it on

-- A call carries histories on: each of the old backend, with what `append` adds, is one of the new.
abbrev pub Carries : BackendState → BackendState → (History → History) → Type 0
Carries old new append = (h : History) → IsHistoryOf h old → IsHistoryOf (append h) new

-- the history of a new backend
abbrev pub blank : History
blank = record {
  pushed = [];
  input = record { packets = []; messages = []; faulty = false };
  rest = [];
  sent = [];
}

-- a history to which nothing is added
abbrev pub unchanged : History → History
unchanged h = h

-- a history with one more piece pushed, nothing of which is handled
abbrev pub with_pushed : List ℕ → History → History
with_pushed piece h = record h { pushed = h.pushed ++ piece; rest = h.rest ++ piece }

-- a history whose handled input is now this one, with this rest after it, and to whose output
-- `added` was appended
abbrev pub with_handled : Input → List ℕ → List ℕ → History → History
with_handled input rest added h =
    record h { input = input; rest = rest; sent = h.sent ++ added }

-- an input with this message more, as its last
abbrev pub with_message : FrontMessage → Input → Input
with_message m i = record i { messages = i.messages ++ m ∷ [] }

-- an input that a faulty rest has ended
abbrev pub with_fault : Input → Input
with_fault i = record i { faulty = true }
