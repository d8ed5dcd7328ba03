-- What a backend has handled of the bytes that it was given, and what follows from it: its output,
-- its log, its phase.
use Rattle.std.specs.Prelude.{◌≡◌, ℕ, Bool, true, false, List, [], ◌∷◌, ◌++◌, if◌then◌else◌}
use Rattle.std.specs.List.{flat_map}
use Rattle.pg_wire.specs.declared.fault.WireFault.{WireFault}
use Rattle.pg_wire.specs.message.BackMessage.TheVariants as back
use Rattle.pg_wire.specs.message.First.{First}
use Rattle.pg_wire.specs.message.First.TheVariants as first
use Rattle.pg_wire.specs.message.FrontMessage.{FrontMessage}
use Rattle.pg_wire.specs.Backend.{backend}
use Rattle.pg_wire.specs.Direction.{spelling, HasSpelling}
use Rattle.pg_wire.specs.First.{IsPacket, packet, IsBeginning, IsFaultyPacket, IsOpenPacket}
use Rattle.pg_wire.specs.Frontend.{frontend}
use Rattle.pg_wire.specs.Stream.{IsWithin, IsStream, IsFaulty, IsOpen}
use Rattle.pg_backend.specs.declared.phase.BackPhase.{BackPhase}
use Rattle.pg_backend.specs.declared.phase.BackPhase.TheVariants as phase
use Rattle.pg_backend.specs.declared.script.Logged.{Logged}
use Rattle.pg_backend.specs.declared.script.Script.{Script}
use Rattle.pg_backend.specs.OwnError.{fatal_bad}
use Rattle.pg_backend.specs.Session.{Place, Between, Grouping, Copying, Terminated, Stray, session, log_of}
use Rattle.pg_backend.specs.Opening.{Sent, No, Says, sent_for, user_from, Admission, Refused, Awaited, Stopped, Admitted, admission}

-- ---- the input

-- what a backend has handled: first packets, the messages after the Startup, and whether it has
-- then found the rest faulty
pub record Input : Type 0 where
  pub packets : List First
  pub messages : List FrontMessage
  pub faulty : Bool

-- whether a Startup is among the packets, after which messages follow
abbrev pub is_started : List First → Bool
is_started [] = false
is_started (first.Startup pairs ∷ packets) = true
is_started (p ∷ packets) = is_started packets

-- The bytes are these first packets, then these messages, then a rest. Messages come after a
-- Startup alone.
pub record IsInput (limit : ℕ) (bytes : List ℕ) (i : Input) (rest : List ℕ) : Type 0 where
  pub after_packets : List ℕ
  pub ended : Bool
  pub packets : IsBeginning bytes i.packets ended after_packets
  pub messages : IsStream frontend limit after_packets i.messages rest
  pub started : is_started i.packets ≡ false → i.messages ≡ []

-- ---- the rest, after first packets that may go on (false), or after a Startup (true)

-- The rest is faulty for this reason, as first packets before the Startup (false) or as messages
-- after it (true).
abbrev pub IsFaultyRest : Bool → ℕ → List ℕ → WireFault → Type 0
IsFaultyRest false limit rest f = IsFaultyPacket rest f
IsFaultyRest true limit rest f = IsFaulty frontend limit rest f

-- The rest is open: no whole packet (false) or message (true) waits, and with more bytes there may
-- be one.
abbrev pub IsOpenRest : Bool → ℕ → List ℕ → Type 0
IsOpenRest false limit rest = IsOpenPacket rest
IsOpenRest true limit rest = IsOpen frontend limit rest

-- From an input and its rest, one packet or message more is handled: the next input and its rest.
pub data HandlesNext (limit : ℕ) : Input → List ℕ → Input → List ℕ → Type 0 where
  packet_taken : (ps : List First) (p : First) (rest : List ℕ)
      → is_started ps ≡ false → IsPacket p
      → HandlesNext limit
      (record { packets = ps; messages = []; faulty = false }) (packet p ++ rest)
      (record { packets = ps ++ p ∷ []; messages = []; faulty = false }) rest
  message_taken : (ps : List First) (ms : List FrontMessage) (m : FrontMessage) (rest : List ℕ)
      → is_started ps ≡ true → IsWithin frontend limit m
      → HandlesNext limit
      (record { packets = ps; messages = ms; faulty = false }) (spelling frontend m ++ rest)
      (record { packets = ps; messages = ms ++ m ∷ []; faulty = false }) rest

-- ---- the transcript: all that is sent for the input

-- the ErrorResponse that is sent last, where the rest was found faulty
abbrev pub last_word : Bool → List Sent
last_word false = []
last_word true = Says (back.ErrorResponse fatal_bad) ∷ []

-- all that a backend sends for this input, in order
abbrev pub transcript : Script → Input → List Sent
transcript s i = sent_for s i.packets i.messages ++ last_word i.faulty

-- its bytes: `N`, or the message's spelling
abbrev pub sent_bytes : Sent → List ℕ
sent_bytes No = 78 ∷ []
sent_bytes (Says m) = spelling backend m

-- the bytes of all that a backend sends for this input
abbrev pub output : Script → Input → List ℕ
output s i = flat_map sent_bytes (transcript s i)

-- If this is a message, it has a spelling.
abbrev pub IsSpelled : Sent → Type 0
IsSpelled No = Unit {0}
IsSpelled (Says m) = HasSpelling backend m

-- ---- the log and the phase

-- the log by what became of a client: its requests, if it was let in, and else nothing
abbrev pub admission_log : Script → Admission → List Logged
admission_log s (Refused fields) = []
admission_log s Awaited = []
admission_log s (Stopped place) = []
admission_log s (Admitted ms) = log_of s.answers ms

-- the log by these first packets and the messages after them
abbrev pub packets_log : Script → List First → List FrontMessage → List Logged
packets_log s [] ms = []
packets_log s (first.Startup pairs ∷ packets) ms =
    admission_log s (admission s.auth (user_from [] pairs) ms)
packets_log s (p ∷ packets) ms = packets_log s packets ms

-- the log of a backend that has handled this input
abbrev pub input_log : Script → Input → List Logged
input_log s i = packets_log s i.packets i.messages

-- where an input ends: among first packets (Opening); before the password (Asking); at a Cancel or
-- a client that was rejected (Refusal); or at this place of the messages after the Startup
pub data End : Type 0 where
  Opening : End
  Asking : End
  Refusal : End
  At : (place : Place) → End

-- where an input ends, by what became of its client
abbrev pub admission_end : Script → Admission → End
admission_end s (Refused fields) = Refusal
admission_end s Awaited = Asking
admission_end s (Stopped place) = At place
admission_end s (Admitted ms) = At (session s.answers ms).place

-- where an input of these first packets and the messages after them ends
abbrev pub packets_end : Script → List First → List FrontMessage → End
packets_end s [] ms = Opening
packets_end s (first.Startup pairs ∷ packets) ms =
    admission_end s (admission s.auth (user_from [] pairs) ms)
packets_end s (first.Cancel process secret ∷ packets) ms = Refusal
packets_end s (p ∷ packets) ms = packets_end s packets ms

-- where the input ends, of a backend with this script
abbrev pub input_end : Script → Input → End
input_end s i = packets_end s i.packets i.messages

-- the phase of a backend whose messages end at this place
abbrev pub place_phase : Place → BackPhase
place_phase Between = phase.Ready
place_phase (Grouping steps) = phase.Grouping
place_phase Copying = phase.CopyIn
place_phase Terminated = phase.Closed
place_phase Stray = phase.Closed

-- the phase of a backend whose input ends so
abbrev pub end_phase : End → BackPhase
end_phase Opening = phase.First
end_phase Asking = phase.Password
end_phase Refusal = phase.Closed
end_phase (At place) = place_phase place

-- the phase that this input leads to, if neither running out of memory nor the loss of the connection
-- closes the backend
abbrev pub input_phase : Script → Input → BackPhase
input_phase s i = if i.faulty then phase.Closed else end_phase (input_end s i)

-- Some message of the input may not stand in its place. What comes after it isn't read.
abbrev pub IsStray : Script → Input → Type 0
IsStray s i = input_end s i ≡ At Stray
