-- A client and a server take turns: a request is made once all requests before it are answered.
use Rattle.std.specs.Prelude.{◌≡◌, ℕ, suc, ◌≤◌, List, [], ◌∷◌, ◌++◌, length, map, take, IsSome}
use Rattle.std.specs.List.{AllByRecursion}
use Rattle.pg_wire.specs.message.BackMessage.TheVariants as back
use Rattle.pg_wire.specs.value.CopyHead.{CopyHead}
use Rattle.pg_wire.specs.message.FrontMessage.{FrontMessage}
use Rattle.pg_wire.specs.message.FrontMessage.TheVariants as front
use Rattle.pg_wire.specs.declared.session.Request.{Request}
use Rattle.pg_wire.specs.Segment.{aside_of}
use Rattle.pg_client.specs.declared.phase.Phase.TheVariants as phase
use Rattle.pg_client.specs.declared.settled.Settled.{Settled}
use Rattle.pg_client.specs.declared.call.Call.{Call}
use Rattle.pg_client.specs.declared.call.Call.TheVariants as call
use Rattle.pg_client.specs.Session.{Happening, Did, Came, messages_in, requests_in, rest_in, groups_in}
use Rattle.pg_client.specs.View.{ClientView, phase_of}
use Rattle.pg_client.specs.Client.{History, happenings}
use Rattle.pg_wire.specs.Turns.{Turn, AreCopies, copies_begun}
use Rattle.pg_client.specs.Turns.{turns_of, calls_in}

-- The calls, without how many bytes had been fed before each.
abbrev pub calls_of : List (Call × ℕ) → List Call
calls_of cs = map (λ c. c.0) cs

-- The turns among these events: one for each request, with the copy messages that were sent for it.
abbrev pub turns_in : List Happening → List Turn
turns_in hs = turns_of (calls_in hs)

-- ---- a history

-- The events of a history are its calls and the messages that the client has handled, each in their
-- order. The requests among them are those of the turns.
pub record KeepsOrder {G : Type 0} (h : History G) : Type 0 where
  pub calls : calls_in (happenings h) ≡ calls_of h.calls
  pub messages : messages_in (happenings h) ≡ h.heard
  pub requests : requests_in (happenings h) ≡ map (λ t. t.request) (turns_of (calls_of h.calls))

-- ---- one call more

-- The turns after one more copy message is sent: it belongs to the last turn.
abbrev pub with_copy : FrontMessage → List Turn → List Turn
with_copy m [] = []
with_copy m (t ∷ []) = record { request = t.request; copies = t.copies ++ m ∷ [] } ∷ []
with_copy m (t ∷ u ∷ us) = t ∷ with_copy m (u ∷ us)

-- The turns after one more call. A request begins a turn; copy_chunk, copy_done and copy_fail send
-- a message of the last one ("COPY Operations"). start and terminate belong to no turn.
abbrev pub turns_with : List Turn → Call → List Turn
turns_with turns (call.Request r) = turns ++ record { request = r; copies = [] } ∷ []
turns_with turns (call.Chunk bytes) = with_copy (front.CopyData bytes) turns
turns_with turns call.Done = with_copy front.CopyDone turns
turns_with turns (call.Fail reason) = with_copy (front.CopyFail reason) turns
turns_with turns _ = turns

-- ---- while copying in

-- The copy messages of the last turn; none where there is no turn.
abbrev pub last_copies : List Turn → List FrontMessage
last_copies [] = []
last_copies (t ∷ []) = t.copies
last_copies (t ∷ u ∷ us) = last_copies (u ∷ us)

-- How many copies the client has ended with these messages, by CopyDone or CopyFail ("COPY
-- Operations").
abbrev pub copies_ended : List FrontMessage → ℕ
copies_ended [] = 0
copies_ended (front.CopyDone ∷ ms) = suc (copies_ended ms)
copies_ended (front.CopyFail reason ∷ ms) = suc (copies_ended ms)
copies_ended (_ ∷ ms) = copies_ended ms

-- The event is a call of copy_chunk, or an aside that came.
abbrev pub IsChunkOrAside : Happening → Type 0
IsChunkOrAside (Did (call.Chunk bytes)) = Unit {0}
IsChunkOrAside (Did _) = ⊥
IsChunkOrAside (Came m) = IsSome (aside_of m)

-- A CopyInResponse came, and since then only chunks were sent, and only asides came.
pub record IsCopyingSince (hs : List Happening) : Type 0 where
  pub before : List Happening
  pub head : CopyHead
  pub later : List Happening
  pub since : hs ≡ before ++ Came (back.CopyIn head) ∷ later
  pub chunks : AllByRecursion IsChunkOrAside later

-- ---- what holds of a history

-- The call sends a copy message: a CopyData, a CopyDone or a CopyFail ("COPY Operations").
abbrev pub IsCopyCall : Call → Type 0
IsCopyCall (call.Chunk bytes) = Unit {0}
IsCopyCall call.Done = Unit {0}
IsCopyCall (call.Fail reason) = Unit {0}
IsCopyCall _ = ⊥

-- At most one request isn't answered, and no segment comes without a request.
pub record IsInTurn (hs : List Happening) : Type 0 where
  pub one_at_most : length (turns_in hs) ≤ suc (length (groups_in hs))
  pub none_ahead : length (groups_in hs) ≤ length (turns_in hs)

-- Requests never overlap: at each time during these events at most one is outstanding. The groups
-- are those that were settled, taken or waiting.
pub record TakesTurns (hs : List Happening) (settled : List Settled)
    (client : ClientView) : Type 0 where
  pub in_turn : (before later : List Happening) → hs ≡ before ++ later → IsInTurn before
  -- a request is made once all turns before it are answered
  pub asked : (before : List Happening) (r : Request) (later : List Happening)
      → hs ≡ before ++ Did (call.Request r) ∷ later
      → length (groups_in before) ≡ length (turns_in before)
  -- copy_chunk, copy_done and copy_fail are called only while a turn isn't answered
  pub copied : (before : List Happening) (c : Call) (later : List Happening)
      → IsCopyCall c → hs ≡ before ++ Did c ∷ later
      → length (turns_in before) ≡ suc (length (groups_in before))
  pub copies : AllByRecursion (λ t. AreCopies t.copies) (turns_in hs)
  -- the settled groups are those of the first turns, one for each whole segment
  pub settled_all : length settled ≡ length (groups_in hs)
  pub settled_first : map (λ s. s.request) settled
      ≡ take (length settled) (map (λ t. t.request) (turns_in hs))
  pub ready : phase_of client ≡ phase.Ready → length settled ≡ length (turns_in hs)
  -- In phase CopyingIn only chunks were sent since the last CopyInResponse, and each copy that the
  -- client has ended before had a CopyInResponse of its own. So where the segment has a single
  -- CopyInResponse, chunks are all that was sent for the last request.
  pub copying : phase_of client ≡ phase.CopyingIn → IsCopyingSince hs
  pub ended : phase_of client ≡ phase.CopyingIn
      → suc (copies_ended (last_copies (turns_in hs))) ≤ copies_begun (rest_in hs)

-- ---- what settles as bytes come

-- What settles as bytes are fed. `given` are the groups that were taken before, and `was` and `now`
-- are those waiting before and after. At most one group more waits: it is that of the last of all
-- requests that were made, and then all of them are settled.
pub record SettlesLast (asked : List Request) (given was now : List Settled) : Type 0 where
  pub fresh : List Settled
  -- the groups that waited before still do, with the fresh one after them
  pub appended : now ≡ was ++ fresh
  pub one_at_most : length fresh ≤ 1
  pub last : (t : Settled) → fresh ≡ t ∷ []
      → asked ≡ map (λ s. s.request) (given ++ was) ++ t.request ∷ []

-- These are the settled groups of all requests that were made, in order.
abbrev pub AllSettled : List Request → List Settled → Type 0
AllSettled asked settled = map (λ s. s.request) settled ≡ asked
