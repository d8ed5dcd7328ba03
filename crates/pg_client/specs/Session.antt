-- A session as its client sees it: the calls and the messages that came, in order, which messages
-- may come, and which calls are allowed (Frontend/Backend Protocol, "Message Flow").
use Rattle.std.specs.Prelude.{◌≡◌, ℕ, ℤ, suc, ◌≤◌, Bool, true, false, List, [], ◌∷◌, ◌++◌, length, map, drop, filter_map, Option, Some, None, IsSome, ◌⊎◌}
use Rattle.std.specs.List.{AllByRecursion}
use Rattle.pg_wire.specs.message.BackMessage.{BackMessage}
use Rattle.pg_wire.specs.message.BackMessage.TheVariants.{AuthOk, AuthCleartext, AuthMd5, KeyData, Ready, CommandComplete}
use Rattle.pg_wire.specs.message.BackMessage.TheVariants as back
use Rattle.pg_wire.specs.value.CopyHead.{CopyHead}
use Rattle.pg_wire.specs.value.Status.{Status}
use Rattle.pg_wire.specs.declared.session.Outcome.{Outcome}
use Rattle.pg_wire.specs.declared.session.Request.{Request}
use Rattle.pg_wire.specs.Segment.{aside_of, without_asides, Fits, Begins, segments}
use Rattle.pg_client.specs.declared.call.Call.{Call}
use Rattle.pg_client.specs.declared.call.Call.TheVariants as call

-- ---- calls and messages

-- One event of a session, as its client sees it: a call that was accepted (Did), or a message that
-- came from the server (Came). A list of events is a session so far, in order.
pub data Happening : Type 0 where
  Did : Call → Happening
  Came : BackMessage → Happening

-- The messages among these events, in order. Of a history they are those that were handled.
abbrev pub messages_in : List Happening → List BackMessage
messages_in [] = []
messages_in (Came m ∷ hs) = m ∷ messages_in hs
messages_in (Did c ∷ hs) = messages_in hs

-- The request that was made by an event; None for a message, and for a call that makes none.
abbrev pub request_of : Happening → Option Request
request_of (Did (call.Request r)) = Some r
request_of _ = None

-- The requests that the client made, in order.
abbrev pub requests_in : List Happening → List Request
requests_in hs = filter_map request_of hs

-- The whole segments: the server's messages, cut after each ReadyForQuery. The first segment is the
-- startup's, and then there is one for each request that was answered, in order.
abbrev pub whole_in : List Happening → List (List BackMessage)
whole_in hs = (segments (messages_in hs)).whole

-- The whole segments of requests, in order: all whole segments but the startup's. There are as many
-- as requests that were answered.
abbrev pub groups_in : List Happening → List (List BackMessage)
groups_in hs = drop 1 (whole_in hs)

-- The messages since the last ReadyForQuery, or all if none came: the segment that isn't whole.
abbrev pub rest_in : List Happening → List BackMessage
rest_in hs = (segments (messages_in hs)).rest

-- ---- the startup ("Start-up")

-- Whether the message asks for a password, as it is or as an MD5 text: AuthenticationCleartextPassword
-- or AuthenticationMD5Password ("Start-up").
abbrev pub asks_password : BackMessage → Bool
asks_password AuthCleartext = true
asks_password (AuthMd5 salt) = true
asks_password _ = false

-- There is no message, or a single one, which asks for a password.
abbrev pub AtMostOneQuestion : List BackMessage → Type 0
AtMostOneQuestion [] = Unit {0}
AtMostOneQuestion (m ∷ []) = asks_password m ≡ true
AtMostOneQuestion (m ∷ n ∷ ms) = ⊥

-- These messages are the whole segment of a startup ("Start-up"). Asides left out, it is perhaps a
-- question for a password, then AuthenticationOk, then any number of BackendKeyData, and a
-- ReadyForQuery at the end. No ErrorResponse is in it: an error ends the session there.
pub record IsStartup (segment : List BackMessage) : Type 0 where
  pub body : List BackMessage
  pub status : Status
  pub closed : segment ≡ body ++ Ready status ∷ []
  pub questions : List BackMessage
  pub one_question : AtMostOneQuestion questions
  -- each a process id and a secret key
  pub keys : List (ℤ × ℤ)
  pub reads : without_asides body ≡ questions ++ AuthOk ∷ map (λ k. KeyData k.0 k.1) keys

-- ---- what may come

-- A server may send this for these requests ("Message Flow"). The arguments are the requests, the
-- whole segments, and the messages since the last of these. Each segment fits its request, with
-- some outcome, and there is no segment without a request. The messages since then begin an answer
-- to the next request. Where there is no next request, they are asides alone ("Asynchronous
-- Operations").
abbrev pub FitAll : List Request → List (List BackMessage) → List BackMessage → Type 0
FitAll [] [] rest = without_asides rest ≡ []
FitAll (r ∷ rs) [] rest = Begins r rest
FitAll [] (s ∷ ss) rest = ⊥
FitAll (r ∷ rs) (s ∷ ss) rest = ((outcome : Outcome) × Fits r s outcome) × FitAll rs ss rest

-- A server may send this in a session with these requests: a startup, and then an answer to each
-- request. The arguments are the requests, the whole segments, and the messages of the segment that
-- isn't whole. Until a segment is whole, these messages begin a startup: with some more they are one
-- ("Message Flow").
abbrev pub IsSession : List Request → List (List BackMessage) → List BackMessage → Type 0
IsSession requests [] rest = (more : List BackMessage) × IsStartup (rest ++ more)
IsSession requests (s ∷ ss) rest = IsStartup s × FitAll requests ss rest

-- The event is anything but a CopyInResponse that came.
abbrev pub IsNoCopyIn : Happening → Type 0
IsNoCopyIn (Came (back.CopyIn head)) = ⊥
IsNoCopyIn _ = Unit {0}

-- This call was made for the last copy from the client: no CopyInResponse came after the call
-- ("COPY Operations").
pub record IsCalledForLastCopy (c : Call) (hs : List Happening) : Type 0 where
  pub before : List Happening
  pub since : List Happening
  pub called : hs ≡ before ++ Did c ∷ since
  pub for_the_last : AllByRecursion IsNoCopyIn since

-- The last message that is no aside is a CopyInResponse: the server waits for the data of a copy
-- ("COPY Operations").
abbrev pub EndInCopyIn : List BackMessage → Type 0
EndInCopyIn messages = (before : List BackMessage) × (head : CopyHead)
    × (without_asides messages ≡ before ++ back.CopyIn head ∷ [])

-- The client was started: the call of start is among these events.
abbrev pub IsStarted : List Happening → Type 0
IsStarted [] = ⊥
IsStarted (Did call.Start ∷ hs) = Unit {0}
IsStarted (_ ∷ hs) = IsStarted hs

-- The client has made the call that this message needs. The events are all those before the
-- message.
pub record IsAfterItsCall (before : List Happening) (m : BackMessage) : Type 0 where
  -- any message needs start
  pub started : IsStarted before
  -- an aside, which a server may send at any time, needs no more; any other is of the startup's
  -- segment, or of that of a request which was made
  pub asked_for : IsSome (aside_of m) ⊎ (length (whole_in before) ≤ length (requests_in before))
  -- a CommandComplete that ends a copy from the client needs copy_done for that copy
  pub copy_ended : (tag : List ℕ) → m ≡ CommandComplete tag → EndInCopyIn (rest_in before)
      → IsCalledForLastCopy call.Done before

-- The server's messages may come in this order among the calls of a client that has this password
-- or none.
pub record Expected (password : Option (List ℕ)) (hs : List Happening) : Type 0 where
  -- the segments are a startup, and answers to the requests
  pub session : IsSession (requests_in hs) (whole_in hs) (rest_in hs)
  -- each message comes after the call that it needs
  pub after : (before : List Happening) (m : BackMessage) (later : List Happening)
      → hs ≡ before ++ Came m ∷ later → IsAfterItsCall before m
  -- no password is asked for where the client has none
  pub answerable : password ≡ None
      → AllByRecursion (λ m. asks_password m ≡ false) (messages_in hs)

-- ---- where a session stands, and which calls are allowed there

-- The client has ended the session: the call of terminate is among these events ("Termination").
abbrev pub IsTerminated : List Happening → Type 0
IsTerminated [] = ⊥
IsTerminated (Did call.Terminate ∷ hs) = Unit {0}
IsTerminated (_ ∷ hs) = IsTerminated hs

-- The client was started, and no ReadyForQuery has come ("Start-up").
abbrev pub IsStarting : List Happening → Type 0
IsStarting hs = IsStarted hs × (whole_in hs ≡ [])

-- The ReadyForQuery of the startup was handled, and one for each request: none is outstanding.
abbrev pub IsReady : List Happening → Type 0
IsReady hs = length (whole_in hs) ≡ suc (length (requests_in hs))

-- The server waits for the data of a copy, and the client hasn't ended the data: the last message
-- that is no aside is a CopyInResponse, and neither copy_done nor copy_fail was called since it
-- came ("COPY Operations").
abbrev pub IsCopyingIn : List Happening → Type 0
IsCopyingIn hs = EndInCopyIn (rest_in hs) × (IsCalledForLastCopy call.Done hs → ⊥)
    × ((reason : List ℕ) → IsCalledForLastCopy (call.Fail reason) hs → ⊥)

-- At least one request was made.
abbrev pub HasRequest : List Happening → Type 0
HasRequest hs = requests_in hs ≡ [] → ⊥

-- The session is where this call may be made. start: where it wasn't called before. request: where
-- the startup is over and no request is outstanding. copy_chunk, copy_done and copy_fail: while the
-- server waits for the data of a copy that a request began ("COPY Operations"). terminate: at any
-- time after start.
abbrev pub MayBeCalled : List Happening → Call → Type 0
MayBeCalled before call.Start = IsStarted before → ⊥
MayBeCalled before (call.Request r) = IsStarted before × IsReady before
MayBeCalled before (call.Chunk bytes) = HasRequest before × IsCopyingIn before
MayBeCalled before call.Done = HasRequest before × IsCopyingIn before
MayBeCalled before (call.Fail reason) = HasRequest before × IsCopyingIn before
MayBeCalled before call.Terminate = IsStarted before

-- After these events the call is allowed: the session is where it may be made, and the client
-- hasn't ended the session.
pub record IsAllowed (before : List Happening) (c : Call) : Type 0 where
  pub in_place : MayBeCalled before c
  pub not_terminated : IsTerminated before → ⊥

-- Each call among these events was allowed when it was made.
abbrev pub AreAllowed : List Happening → Type 0
AreAllowed hs = (before : List Happening) (c : Call) (later : List Happening)
    → hs ≡ before ++ Did c ∷ later → IsAllowed before c
