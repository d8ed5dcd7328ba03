-- What a client promises, to be read from top to bottom: what it went through (its history), which
-- histories it may have, and what its calls, feed and lost do to them. No client stores its
-- history. Contracts speak of it as a value, and say how each call carries it on. The words for
-- events are in Session, what a contract sees of a client in View, the words for faults in Closed,
-- and what push and next_lent do in Lent. What each history means for a user is the page Facts, by
-- the law facts_of_a_run (src/laws.rt). proofs/Rows works some of these words out on short
-- sessions.
use Rattle.std.specs.Prelude.{ℕ, ◌+◌, List, [], ◌∷◌, ◌++◌, length, Bool, true, false, cond, nat_lt, map, ◌≡◌, ◌≢◌, ℤ, Option, Some, None, Result, Ok, Err, ◌<◌, is_some}
use Rattle.std.specs.List.{list_any, slice_get}
use Rattle.pg_wire.specs.message.BackMessage.{BackMessage}
use Rattle.pg_wire.specs.Backend.{backend}
use Rattle.pg_wire.specs.Direction.{spelling}
use Rattle.pg_wire.specs.Stream.{IsStream, IsFaulty, IsOpen}
use Rattle.pg_wire.specs.message.First.TheVariants.{Cancel}
use Rattle.pg_wire.specs.First.{packet}
use Rattle.pg_wire.specs.Segment.{error_of}
use Rattle.pg_wire.specs.fault.EncodeFault.TheVariants as encoding
use Rattle.pg_client.specs.declared.settings.Settings.{Settings}
use Rattle.pg_client.specs.declared.call.Call.{Call}
use Rattle.pg_client.specs.Session.{Happening, Did, Came, Expected, requests_in, rest_in, groups_in}
use Rattle.pg_client.specs.Sent.{sent_by, call_fault}
use Rattle.pg_client.specs.View.{View, phase_of, IsOpenPhase}
use Rattle.pg_client.specs.declared.stand.Stand.{Stand}
use Rattle.pg_client.specs.declared.phase.Phase.{Phase}
use Rattle.pg_client.specs.declared.fault.CallFault.{CallFault}
use Rattle.pg_client.specs.declared.phase.Cause.{Cause}
use Rattle.pg_client.specs.declared.fault.FeedFault.{FeedFault}
use Rattle.pg_client.specs.Closed.{cause_of, IsRefusedAt}
use Rattle.pg_client.specs.declared.settled.Loss.{Loss}
use Rattle.pg_client.specs.declared.phase.Phase.TheVariants as phase
use Rattle.pg_client.specs.declared.fault.CallFault.TheVariants as fault
use Rattle.pg_client.specs.declared.phase.Cause.TheVariants as cause
use Rattle.pg_client.specs.declared.fault.FeedFault.TheVariants as feeding

-- ---- what a client went through

-- What a client went through: what it was given, what of that it has handled, what was taken from
-- it, and what it has put out.
pub record History (G : Type 0) : Type 0 where
  -- the calls that were accepted, in order, each with its place: how many bytes the client had been
  -- fed before it
  pub calls : List (Call × ℕ)
  -- the bytes that the client was fed
  pub fed : List ℕ
  -- the messages that it has handled of those bytes
  pub heard : List BackMessage
  -- the bytes after these messages
  pub rest : List ℕ
  -- what was taken from it: settled groups, or items
  pub given : List G
  -- the bytes that it has put out
  pub sent : List ℕ
  -- whether lost was called, which hands back the outstanding request, if there is one
  pub handed_back : Bool

-- ---- what happened, in order

-- The calls made before the client had been fed `end` bytes, as events. The calls are in order, so
-- these are the first ones.
abbrev pub made_before : ℕ → List (Call × ℕ) → List Happening
made_before end [] = []
made_before end (c ∷ cs) = cond (nat_lt c.1 end) (Did c.0 ∷ made_before end cs) []

-- The calls made when the client had been fed `end` bytes or more: all but the first ones.
abbrev pub made_since : ℕ → List (Call × ℕ) → List (Call × ℕ)
made_since end [] = []
made_since end (c ∷ cs) = cond (nat_lt c.1 end) (made_since end cs) (c ∷ cs)

-- The events of these calls and messages, in order. Each message has its end, counted in bytes fed.
-- A call comes before each message whose last byte was fed after the call was made.
abbrev pub merged : List (Call × ℕ) → List (BackMessage × ℕ) → List Happening
merged cs [] = map (λ c. Did c.0) cs
merged cs (m ∷ ms) = made_before m.1 cs ++ Came m.0 ∷ merged (made_since m.1 cs) ms

-- Each message with its end, counted in bytes from the beginning. `at` is where the first one
-- begins.
abbrev pub with_ends : ℕ → List BackMessage → List (BackMessage × ℕ)
with_ends at [] = []
with_ends at (m ∷ ms) =
    (m, at + length (spelling backend m)) ∷ with_ends (at + length (spelling backend m)) ms

-- The events of a history: its calls and the messages that the client has handled, in order.
abbrev pub happenings : {G : Type 0} → History G → List Happening
happenings h = merged h.calls (with_ends 0 h.heard)

-- ---- how it goes on

-- The history of a new client: nothing has happened.
abbrev pub blank : {G : Type 0} → History G
blank =
    record {
      calls = [];
      fed = [];
      heard = [];
      rest = [];
      given = [];
      sent = [];
      handed_back = false;
    }

-- The history after one more call, which was accepted: it stands after all bytes fed, and what it
-- sends went out.
abbrev pub with_call : {G : Type 0} → Settings → Call → History G → History G
with_call settings c h = record h {
  calls = h.calls ++ (c, length h.fed) ∷ [];
  sent = h.sent ++ sent_by settings c;
}

-- The history after one thing more was taken.
abbrev pub with_given : {G : Type 0} → G → History G → History G
with_given t h = record h { given = h.given ++ t ∷ [] }

-- The history after lost was called.
abbrev pub with_handed_back : {G : Type 0} → History G → History G
with_handed_back h = record h { handed_back = true }

-- The history after one more piece was fed, of which nothing was handled yet.
abbrev pub with_fed : {G : Type 0} → List ℕ → History G → History G
with_fed piece h = record h { fed = h.fed ++ piece; rest = h.rest ++ piece }

-- The history after these messages were handled. The arguments are these messages, the bytes left
-- after them, and the bytes that were put out.
abbrev pub with_heard : {G : Type 0} → List BackMessage → List ℕ → List ℕ → History G → History G
with_heard more rest added h = record h {
  heard = h.heard ++ more;
  rest = rest;
  sent = h.sent ++ added;
}

-- ---- which histories a client may have

-- What a kind of keeper has to do with what happened. It is the `way` of clauses, which a client's
-- keeper has.
pub record Keeps (K : Type 0) : Type 1 where
  -- what is taken from a client that has it
  pub Given : Type 0
  -- the keeper holds all that is to be kept of these events where the client stands, but for what
  -- was given
  pub tells : K → Stand → List Given → List Happening → Type 0
  -- what holds between a client that has it and a history of that client
  pub agrees : History Given → View K → Type 0

-- The client, as it is now, may have gone through this history.
pub record IsHistoryOf {K : Type 0} (way : Keeps K) (h : History way.Given)
    (client : View K) : Type 0 where
  -- the bytes fed are the messages and the bytes left, within the limit of a message's length
  pub stream : IsStream backend client.settings.limit h.fed h.heard h.rest
  -- each message that was handled is one that this client may get after the events before it
  pub expected : Expected client.settings.password (happenings h)
  -- what the client knows, keeps and has put out is what these events give, as facts_of_a_run says
  pub agrees : way.agrees h client

-- The client, as it is now, keeps these bytes last of all, and has handled none of them, since they
-- were pushed. But for them it may have gone through this history.
pub record IsHistoryBefore {K : Type 0} (way : Keeps K) (unread : List ℕ) (h : History way.Given)
    (client : View K) : Type 0 where
  -- the bytes kept before them; in those of an open client no message is whole
  pub first : List ℕ
  pub kept : client.kept ≡ first ++ unread
  pub history : IsHistoryOf way h (record client { kept = first })

-- What the client went through now is `append` of what it went through before, whichever bytes it
-- is still to hear: from each history of the old client it makes one of the new client.
abbrev pub Carries : {K : Type 0} → (way : Keeps K) → View K → View K
    → (History way.Given → History way.Given) → Type 0
Carries way old new append = (unread : List ℕ) (h : History way.Given)
    → IsHistoryBefore way unread h old → IsHistoryBefore way unread (append h) new

-- ---- calls

-- The call is accepted. What it sends stands after what was in the output before, and the call is
-- added to each history. Of the client only two things change: where it stands, and why it is
-- closed.
pub record Accepts {K : Type 0} (way : Keeps K) (c : Call) (old new : View K)
    (before after : List ℕ) : Type 0 where
  pub settings : new.settings ≡ old.settings
  pub others : new ≡ record old {
    known = record old.known { stand = new.known.stand };
    closed = new.closed;
  }
  pub put : after ≡ before ++ sent_by old.settings c
  pub history : Carries way old new (with_call old.settings c)

-- Why the bytes of a call can't be sent: for the fault that the call has, or, where it has none, as
-- memory ran out (Memory).
abbrev pub IsRefusedBy : Settings → Call → CallFault → Type 0
IsRefusedBy settings c (fault.Encode encoding.Memory) = call_fault settings c ≡ None
IsRefusedBy settings c (fault.Encode f) = call_fault settings c ≡ Some f
IsRefusedBy settings c _ = ⊥

-- Why a call is rejected that is allowed in the wanted phase alone: the client is in another phase,
-- or is in that one and the bytes can't be sent.
abbrev pub RefusesUnless : {K : Type 0} → Phase → View K → Call → CallFault → Type 0
RefusesUnless wanted old c (fault.NotReady p) = (p ≡ phase_of old) × (p ≢ wanted)
RefusesUnless wanted old c (fault.Encode f) = (phase_of old ≡ wanted)
    × IsRefusedBy old.settings c (fault.Encode f)
RefusesUnless wanted old c _ = ⊥

-- Why copy_chunk, copy_done or copy_fail is rejected: the client isn't in phase CopyingIn, or is
-- and the bytes can't be sent ("COPY Operations").
abbrev pub RefusesCopy : {K : Type 0} → View K → Call → CallFault → Type 0
RefusesCopy old c (fault.NotCopying p) = (p ≡ phase_of old) × (p ≢ phase.CopyingIn)
RefusesCopy old c (fault.Encode f) = (phase_of old ≡ phase.CopyingIn)
    × IsRefusedBy old.settings c (fault.Encode f)
RefusesCopy old c _ = ⊥

-- Why terminate is rejected: the client wasn't started or is closed, or memory ran out. A
-- Terminate always has a spelling ("Termination").
abbrev pub RefusesEnd : {K : Type 0} → View K → CallFault → Type 0
RefusesEnd old (fault.NotReady p) = (p ≡ phase_of old) × (IsOpenPhase p → ⊥)
RefusesEnd old (fault.Encode f) = IsOpenPhase (phase_of old) × (f ≡ encoding.Memory)
RefusesEnd old _ = ⊥

-- What cancel_packet does with the last key of the server. It appends the CancelRequest of that key
-- ("Canceling Requests in Progress"), or appends nothing, as memory ran out or the server has
-- sent no key. The arguments are the key, the output before, the result, and the output after.
abbrev pub Cancels : Option (ℤ × ℤ) → List ℕ → Result Unit CallFault → List ℕ → Type 0
Cancels (Some key) before (Ok x) after = after ≡ before ++ packet (Cancel key.0 key.1)
Cancels (Some key) before (Err (fault.Encode f)) after = (f ≡ encoding.Memory) × (after ≡ before)
Cancels None before (Err fault.NoKey) after = after ≡ before
Cancels _ before _ after = ⊥

-- ---- feed

-- What feed returns for a client that was open. The arguments are the settings, the events after
-- the feed, the bytes left, the piece, the result, and why the client is closed then. Ok: it stays
-- open, and in the bytes left no message is whole. Wire: the bytes left are no message and can't
-- become one. Memory: memory ran out; a piece without bytes takes none. Closed isn't returned then.
-- Any other fault: the bytes left begin with a message that may not come.
abbrev pub FeedAnswers : Settings → List Happening → List ℕ → List ℕ → Result Unit FeedFault
    → Option Cause → Type 0
FeedAnswers settings hs rest piece (Ok x) closed = IsOpen backend settings.limit rest
    × (closed ≡ None)
FeedAnswers settings hs rest piece (Err (feeding.Wire f)) closed =
    IsFaulty backend settings.limit rest f × (closed ≡ Some cause.Wire)
FeedAnswers settings hs rest piece (Err feeding.Memory) closed = (0 < length piece)
    × (closed ≡ Some cause.Memory)
FeedAnswers settings hs rest piece (Err feeding.Closed) closed = ⊥
FeedAnswers settings hs rest piece (Err f) closed = IsRefusedAt settings hs rest f
    × (closed ≡ cause_of f)

-- A client with this history, to which the piece belongs already, handles some more messages, puts
-- the added bytes out, and returns a result as FeedAnswers says.
pub record Hears {K : Type 0} (way : Keeps K) (h : History way.Given) (piece added : List ℕ)
    (result : Result Unit FeedFault) (new : View K) : Type 0 where
  -- the messages that it handles now
  pub more : List BackMessage
  -- the bytes left after these
  pub rest : List ℕ
  pub history : IsHistoryOf way (with_heard more rest added h) new
  pub answers : FeedAnswers new.settings (happenings (with_heard more rest added h)) rest piece
      result new.closed

-- What feed does to a client that is open: it takes in the whole piece, after the bytes that were
-- still to be heard, and appends to the output what it has to send for the messages that it
-- handles. The last two arguments are the output before and after.
pub record FeedsOpen {K : Type 0} (way : Keeps K) (old : View K) (piece : List ℕ)
    (result : Result Unit FeedFault) (new : View K) (before after : List ℕ) : Type 0 where
  pub added : List ℕ
  pub put : after ≡ before ++ added
  -- the same bytes are added whatever history the client has
  pub hears : (unread : List ℕ) (h : History way.Given) → IsHistoryBefore way unread h old
      → Hears way (with_fed (unread ++ piece) h) (unread ++ piece) added result new

-- What feed does to a client that is closed for this reason, or open (None). A closed one returns
-- Closed, and nothing changes. An open one that is fed no bytes returns Ok, and nothing changes, even
-- where pushed bytes are still to be heard.
abbrev pub FeedsByCause : {K : Type 0} → Keeps K → Option Cause → View K → List ℕ
    → Result Unit FeedFault → View K → List ℕ → List ℕ → Type 0
FeedsByCause way (Some c) old piece result new before after = (result ≡ Err feeding.Closed)
    × (new ≡ old) × (after ≡ before)
FeedsByCause way None old [] result new before after = (result ≡ Ok tt) × (new ≡ old)
    × (after ≡ before)
FeedsByCause way None old (b ∷ bs) result new before after =
    FeedsOpen way old (b ∷ bs) result new before after

-- What feed does. The arguments are the client before, the piece, the result, the client after, and
-- the output before and after.
abbrev pub Feeds : {K : Type 0} → Keeps K → View K → List ℕ → Result Unit FeedFault → View K
    → List ℕ → List ℕ → Type 0
Feeds way old piece result new before after =
    FeedsByCause way old.closed old piece result new before after

-- ---- lost

-- Why a client is closed after one more closing, for this cause: a first cause stays.
abbrev pub first_cause : Option Cause → Cause → Cause
first_cause None c = c
first_cause (Some first) c = first

-- Whether one of the messages is an ErrorResponse.
abbrev pub has_error : List BackMessage → Bool
has_error ms = list_any (λ m. is_some (error_of m)) ms

-- What lost returns after these events. The request that isn't settled is the first one without a
-- whole segment, if there is one: the server may have answered it, in bytes that weren't handled.
-- seen_error is whether an ErrorResponse was handled since the last ReadyForQuery. One that closed
-- the client (StartupError, ServerEnd) wasn't handled. Where lost was called before (true), nothing
-- is handed back.
abbrev pub Loses : Bool → List Happening → Loss → Type 0
Loses false hs loss = (loss.unsettled ≡ slice_get (requests_in hs) (length (groups_in hs)))
    × (loss.seen_error ≡ has_error (rest_in hs))
Loses true hs loss = (loss.unsettled ≡ None) × (loss.seen_error ≡ false)

-- What lost returns is right by each history of the client, whichever bytes it is still to hear.
abbrev pub HandsBack : {K : Type 0} → (way : Keeps K) → View K → Loss → Type 0
HandsBack way old loss = (unread : List ℕ) (h : History way.Given)
    → IsHistoryBefore way unread h old → Loses h.handed_back (happenings h) loss

-- `lost` was called and returned this: the client is closed, with the cause Lost unless it had one
-- before, and handed back the request that isn't settled, if there is one. What it keeps of the
-- messages stays.
pub record IsLost {K : Type 0} (way : Keeps K) (old : View K) (loss : Loss)
    (new : View K) : Type 0 where
  pub settings : new.settings ≡ old.settings
  pub closed : new.closed ≡ Some (first_cause old.closed cause.Lost)
  pub keeper : new.known.keeper ≡ old.known.keeper
  pub says : HandsBack way old loss
  pub history : Carries way old new with_handed_back
