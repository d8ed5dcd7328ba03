-- What a client sends, turn by turn. A turn is a request and the copy messages that the client
-- sends for it, before its next request.
use Rattle.std.specs.Prelude.{◌≡◌, ℕ, ◌≤◌, List, [], ◌∷◌, ◌++◌, length, map, filter_map, Option, Some, None}
use Rattle.std.specs.List.{flat_map}
use Rattle.pg_wire.specs.message.BackMessage.{BackMessage}
use Rattle.pg_wire.specs.message.First.TheVariants.{Startup}
use Rattle.pg_wire.specs.message.FrontMessage.{FrontMessage}
use Rattle.pg_wire.specs.message.FrontMessage.TheVariants as front
use Rattle.pg_wire.specs.Direction.{spelling}
use Rattle.pg_wire.specs.First.{packet}
use Rattle.pg_wire.specs.Frontend.{frontend}
use Rattle.pg_wire.specs.Segment.{without_asides}
use Rattle.pg_wire.specs.Turns.{Turn, turn_messages}
use Rattle.pg_client.specs.declared.settings.Settings.{Settings}
use Rattle.pg_client.specs.declared.call.Call.{Call}
use Rattle.pg_client.specs.declared.call.Call.TheVariants as call
use Rattle.pg_client.specs.Session.{Happening, Did, Came, messages_in, requests_in}
use Rattle.pg_client.specs.Sent.{startup_pairs, answer_to}

-- The copy messages that these calls send before the next request: CopyData, CopyDone and CopyFail
-- ("COPY Operations").
abbrev pub copies_of : List Call → List FrontMessage
copies_of [] = []
copies_of (call.Request r ∷ cs) = []
copies_of (call.Chunk bytes ∷ cs) = front.CopyData bytes ∷ copies_of cs
copies_of (call.Done ∷ cs) = front.CopyDone ∷ copies_of cs
copies_of (call.Fail reason ∷ cs) = front.CopyFail reason ∷ copies_of cs
copies_of (c ∷ cs) = copies_of cs

-- The turns of these calls, one for each request, in order.
abbrev pub turns_of : List Call → List Turn
turns_of [] = []
turns_of (call.Request r ∷ cs) = record { request = r; copies = copies_of cs } ∷ turns_of cs
turns_of (c ∷ cs) = turns_of cs

-- The call of an event; None where the event is a message that came.
abbrev pub call_of : Happening → Option Call
call_of (Did c) = Some c
call_of (Came m) = None

-- The calls among the events, in order.
abbrev pub calls_in : List Happening → List Call
calls_in hs = filter_map call_of hs

-- What is sent before all messages: the startup packet ("Start-up"). Without a call nothing is
-- sent, and the first call is start.
abbrev pub greeting : Settings → List Call → List ℕ
greeting settings [] = []
greeting settings (c ∷ cs) = packet (Startup (startup_pairs settings))

-- The PasswordMessages that are sent for the messages that came: one for each question for a
-- password.
abbrev pub passwords : Settings → List BackMessage → List FrontMessage
passwords settings heard = flat_map (answer_to settings) heard

-- What is sent for the first of these messages, if there is one.
abbrev pub first_answer : Settings → List BackMessage → List FrontMessage
first_answer settings [] = []
first_answer settings (m ∷ ms) = answer_to settings m

-- What is sent after the last turn: a Terminate if terminate was called, and else nothing
-- ("Termination").
abbrev pub farewell : List Call → List FrontMessage
farewell [] = []
farewell (call.Terminate ∷ cs) = front.Terminate ∷ []
farewell (c ∷ cs) = farewell cs

-- All messages that are sent after the startup packet, in order: the password if it was asked for,
-- the turns, and the Terminate if terminate was called.
abbrev pub messages_after : Settings → List BackMessage → List Call → List FrontMessage
messages_after settings heard cs =
    passwords settings heard ++ (flat_map turn_messages (turns_of cs) ++ farewell cs)

-- What went out is the startup packet and then these messages, in this order. At most one password
-- went out, and it answers the first message that is no aside.
pub record InTurns (settings : Settings) (hs : List Happening) (sent : List ℕ) : Type 0 where
  pub sent_is : sent ≡ greeting settings (calls_in hs)
      ++ flat_map (spelling frontend) (messages_after settings (messages_in hs) (calls_in hs))
  pub one_password : length (passwords settings (messages_in hs)) ≤ 1
  pub first_answered : passwords settings (messages_in hs)
      ≡ first_answer settings (without_asides (messages_in hs))
  -- the turns are those of the requests, in order
  pub requests : map (λ t. t.request) (turns_of (calls_in hs)) ≡ requests_in hs
