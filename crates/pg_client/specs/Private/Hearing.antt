-- What one message does to a client, and what holds between two messages.
use Rattle.std.specs.Prelude.{◌≡◌, ◌≢◌, ℕ, ◌+◌, ◌≤◌, ◌<◌, List, [], ◌∷◌, ◌++◌, length, Bool, true, false, bytes_eq, cond, Option, Some, None, Result, Ok, Err}
use Rattle.std.specs.List.{flat_map, AllByRecursion}
use Rattle.std.specs.declared.alloc.AllocError.{AllocError}
use Rattle.pg_wire.specs.declared.fault.WireFault.{WireFault}
use Rattle.pg_wire.specs.declared.fault.WireFault.TheVariants as wire
use Rattle.pg_wire.specs.declared.session.Aside.{Aside}
use Rattle.pg_wire.specs.declared.session.Aside.TheVariants as aside
use Rattle.pg_wire.specs.declared.session.Request.{Request}
use Rattle.pg_wire.specs.lent.Lent.{Lent}
use Rattle.pg_wire.specs.lent.Lent.TheVariants as lents
use Rattle.pg_wire.specs.message.BackMessage.{BackMessage}
use Rattle.pg_wire.specs.message.BackMessage.TheVariants as back
use Rattle.pg_wire.specs.value.Status.{Status}
use Rattle.pg_wire.specs.Backend.{backend}
use Rattle.pg_wire.specs.Direction.{spelling}
use Rattle.pg_wire.specs.Segment.{asked, status_of}
use Rattle.pg_wire.specs.Stream.{IsStream, IsWithin, IsOpen, IsFaulty}
use Rattle.pg_response.specs.declared.mark.Mark.{Mark}
use Rattle.pg_response.specs.declared.place.Place.{Place}
use Rattle.pg_response.specs.Collected.{RowValues}
use Rattle.pg_response.specs.Place.{goes, mark_of, may_end}
use Rattle.pg_client.specs.declared.connection.feed.Heard.{Heard}
use Rattle.pg_client.specs.declared.connection.feed.Heard.TheVariants as heard
use Rattle.pg_client.specs.declared.fault.FeedFault.{FeedFault}
use Rattle.pg_client.specs.declared.fault.FeedFault.TheVariants as feeding
use Rattle.pg_client.specs.declared.known.Known.{Known}
use Rattle.pg_client.specs.declared.settings.Settings.{Settings}
use Rattle.pg_client.specs.declared.stand.CopyAnswer.{CopyAnswer}
use Rattle.pg_client.specs.declared.stand.Stand.{Stand}
use Rattle.pg_client.specs.declared.stand.Stand.TheVariants.{New, Idle, Busy}
use Rattle.pg_client.specs.declared.startup.Welcome.{Welcome}
use Rattle.pg_client.specs.View.{View, key_said, option_or, row_at, value_of, value_said}
use Rattle.pg_client.specs.Closed.{cause_of}
use Rattle.pg_client.specs.Client.{Hears, happenings, History, with_heard, Keeps}
use Rattle.pg_client.specs.Private.Agreeing.{AreOrdered, IsLedBy, MayHappen}
use Rattle.pg_client.specs.Private.Sending.{PutsAnswer}
use Rattle.pg_client.specs.Session.{Happening, Came, IsTerminated}
use Rattle.pg_client.specs.Stand.{answer_after, fault_at, hear, hear_with, Stands, welcome_fault}
use Rattle.pg_client.specs.Startup.{greet}

-- ---- what is kept

-- It has kept one message more, which led a client from where it stood to where it stands.
abbrev pub KeepsOne : {K : Type 0} → Keeps K → Stand → BackMessage → Stand → K → K → Type 0
KeepsOne way stand m now old new = (given : List way.Given) (hs : List Happening)
    → Stands hs stand → way.tells old stand given hs → way.tells new now given (hs ++ Came m ∷ [])

-- A client stands so after its startup.
abbrev pub IsPastStartup : Stand → Type 0
IsPastStartup Idle = Unit {0}
IsPastStartup (Busy request place answer) = Unit {0}
IsPastStartup _ = ⊥

-- It has kept such a message, which changes nothing of where a client stands after its startup.
abbrev pub KeepsAside : {K : Type 0} → Keeps K → (BackMessage → Type 0) → K → K → Type 0
KeepsAside way IsIt old new = (m : BackMessage) (stand : Stand) → IsIt m → IsPastStartup stand
    → KeepsOne way stand m stand old new

-- It has kept a message of the response to this request, which came at this place.
abbrev pub KeepsPart : {K : Type 0} → Keeps K → Request → Place → BackMessage → K → K → Type 0
KeepsPart way request place m old new = (next : Place) (was is : CopyAnswer)
    → goes (asked request) place (mark_of m) ≡ Some next
    → KeepsOne way (Busy request place was) m (Busy request next is) old new

-- It has kept that this request is settled.
abbrev pub KeepsEnd : {K : Type 0} → Keeps K → Request → Status → K → K → Type 0
KeepsEnd way request status old new = (place : Place) (answer : CopyAnswer)
    → may_end (asked request) place ≡ true
    → KeepsOne way (Busy request place answer) (back.Ready status) Idle old new

-- The values of parameters after a ParameterStatus of this name and value: the value is that of the
-- parameter where the message was taken in, and nothing changes where there was a fault.
abbrev pub SetsParameter : List ℕ → List ℕ → Result Unit AllocError → List (List ℕ × List ℕ)
    → List (List ℕ × List ℕ) → Type 0
SetsParameter name value (Ok s) old new = (n : List ℕ)
    → value_of n new ≡ cond (bytes_eq name n) (Some value) (value_of n old)
SetsParameter name value (Err f) old new = new ≡ old

-- ---- one message

-- The tag of the message that is this aside: N, S or A ("Message Formats").
abbrev pub tag_of_aside : Aside → ℕ
tag_of_aside (aside.Notice fields) = 78
tag_of_aside (aside.Parameter name value) = 83
tag_of_aside (aside.Notification process channel payload) = 65

-- The message that is this aside.
abbrev pub aside_message : Aside → BackMessage
aside_message (aside.Notice fields) = back.NoticeResponse fields
aside_message (aside.Parameter name value) = back.ParameterStatus name value
aside_message (aside.Notification process channel payload) =
    back.Notification process channel payload

-- Where a client stands that a message with this mark has led to this place.
abbrev pub led_to : Stand → Place → Mark → Stand
led_to (Busy request place answer) next m = Busy request next (answer_after answer m)
led_to stand next m = stand

-- How far the startup has come after a message of the authentication, or its fault.
abbrev pub Greets : Welcome → BackMessage → Result Welcome FeedFault → Type 0
Greets old m (Ok new) = greet old m ≡ Some new
Greets old m (Err f) = (greet old m ≡ None) × (f ≡ welcome_fault old m)

-- What a client knows at first.
pub record IsFirst {K : Type 0} (way : Keeps K) (first : Known K) : Type 0 where
  pub stand : first.stand ≡ New
  pub tells : way.tells first.keeper New [] []
  pub status : first.status ≡ None
  pub parameters : first.parameters ≡ []
  pub key : first.key ≡ None

-- The client has heard the message: it stands where that leads, knows what it carries, and has kept
-- it.
pub record HearsOne {K : Type 0} (way : Keeps K) (password : Option (List ℕ)) (m : BackMessage)
    (old new : Known K) : Type 0 where
  pub led : hear_with password old.stand m ≡ Some new.stand
  pub status : new.status ≡ option_or (status_of m) old.status
  pub parameters : (name : List ℕ)
      → value_of name new.parameters ≡ option_or (value_said name m) (value_of name old.parameters)
  pub key : new.key ≡ option_or (key_said m) old.key
  pub keeps : KeepsOne way old.stand m new.stand old.keeper new.keeper

-- What a client does with a message. Ok: it hears the message, and appends what is sent for it.
-- Memory: memory ran out. Another fault: the message may not come there. After a fault nothing has
-- changed. The lists are the output before and after.
abbrev pub HearsMessage : {K : Type 0} → Keeps K → Settings → BackMessage → Known K
    → Result Unit FeedFault → Known K → List ℕ → List ℕ → Type 0
HearsMessage way settings m old (Ok x) new before after = HearsOne way settings.password m old new
    × PutsAnswer settings m before after
HearsMessage way settings m old (Err feeding.Memory) new before after = (new ≡ old)
    × (after ≡ before)
HearsMessage way settings m old (Err f) new before after =
    (hear_with settings.password old.stand m ≡ None)
    × (f ≡ fault_at old.stand m) × (new ≡ old) × (after ≡ before)

-- The same of a message for which nothing is sent, whatever the password.
abbrev pub HearsAlone : {K : Type 0} → Keeps K → BackMessage → Known K → Result Unit FeedFault
    → Known K → Type 0
HearsAlone way m old (Ok x) new = (password : Option (List ℕ)) → HearsOne way password m old new
HearsAlone way m old (Err feeding.Memory) new = new ≡ old
HearsAlone way m old (Err f) new = (hear old.stand m ≡ None) × (f ≡ fault_at old.stand m)
    × (new ≡ old)

-- A row leads the client on, and isn't kept; or it may not come.
abbrev pub PassesRow : {K : Type 0} → Known K → Result Unit FeedFault → Known K → Type 0
PassesRow old (Ok x) new = ((row : RowValues) → hear old.stand (back.DataRow row) ≡ Some new.stand)
    × (new ≡ record old { stand = new.stand })
PassesRow old (Err f) new = ((row : RowValues) → hear old.stand (back.DataRow row) ≡ None)
    × (f ≡ feeding.Unexpected 68) × (new ≡ old)

-- ---- the next message

-- The fault that feed answers to a fault of the bytes.
abbrev pub of_wire : WireFault → FeedFault
of_wire wire.Memory = feeding.Memory
of_wire f = feeding.Wire f

-- The message that is lent, as a message of its own; None of a row, where rows stay lent, or where
-- none is lent; or memory ran out.
abbrev pub Owns : Bool → Option Lent → Result (Option BackMessage) FeedFault → Type 0
Owns lends (Some (lents.Error fields)) (Ok owned) = owned ≡ Some (back.ErrorResponse fields)
Owns lends (Some (lents.Notice fields)) (Ok owned) = owned ≡ Some (back.NoticeResponse fields)
Owns false (Some (lents.Row row)) (Ok owned) = owned ≡ Some (back.DataRow row)
Owns lends _ (Ok owned) = owned ≡ None
Owns lends held (Err f) = f ≡ feeding.Memory

-- The bytes that a client keeps begin with this message, which isn't longer than the limit allows.
pub record Cuts {K : Type 0} (old : View K) (m : BackMessage) (rest : List ℕ) : Type 0 where
  pub within : IsWithin backend old.settings.limit m
  pub begins : old.kept ≡ spelling backend m ++ rest

-- Why a client is closed that has cut off no message more, or one that it doesn't hear: it knows what
-- it knew. Wire: the bytes are no message and can't become one. Memory: memory ran out for the first
-- message. Another fault: that may not come there.
abbrev pub IsRefused : {K : Type 0} → View K → FeedFault → Type 0
IsRefused old (feeding.Wire f) = IsFaulty backend old.settings.limit old.kept f
IsRefused old feeding.Memory = (m : BackMessage) × (rest : List ℕ) × Cuts old m rest
IsRefused old f = (m : BackMessage) × (rest : List ℕ) × Cuts old m rest
    × (hear_with old.settings.password old.known.stand m ≡ None)
    × (f ≡ fault_at old.known.stand m)

-- The client was closed for this fault, and knows what it knew.
pub record Closes {K : Type 0} (old : View K) (f : FeedFault) (new : View K) : Type 0 where
  pub refused : IsRefused old f
  pub settings : new.settings ≡ old.settings
  pub known : new.known ≡ old.known
  pub closed : new.closed ≡ cause_of f

-- What a client that is open does with the bytes that it keeps, where rows stay lent (true) or not.
-- Nothing: no message is whole there. Message: it cuts the first one off and hears it. Row: it cuts a
-- row off, which stays lent and is still to be heard. The last two arguments are the output before
-- and after.
abbrev pub HearsNext : {K : Type 0} → Keeps K → Bool → View K → Result Heard FeedFault → View K
    → List ℕ → List ℕ → Type 0
HearsNext way lends old (Ok heard.Nothing) new before after =
    IsOpen backend old.settings.limit old.kept × (new ≡ record old { held = None })
    × (after ≡ before)
HearsNext way lends old (Ok heard.Row) new before after = (row : RowValues)
    × (new ≡ record old { kept = new.kept; held = Some (lents.Row row) })
    × Cuts old (back.DataRow row) new.kept × (after ≡ before) × (lends ≡ true)
HearsNext way lends old (Ok heard.Message) new before after = (m : BackMessage)
    × (lends ≡ true → (row : RowValues) → m ≢ back.DataRow row) × Cuts old m new.kept
    × (new ≡ record old { kept = new.kept; held = new.held; known = new.known })
    × (lends ≡ true → row_at None new.held ≡ None)
    × HearsOne way old.settings.password m old.known new.known
    × PutsAnswer old.settings m before after
HearsNext way lends old (Err f) new before after = Closes old f new × (after ≡ before)

-- ---- all messages

-- What holds of an open client between two messages of a piece. The history has the whole piece as
-- fed. `before` is how many bytes had been fed before it, and no message that is left was whole by
-- then.
pub record IsHearing {K : Type 0} (way : Keeps K) (before : ℕ) (h : History way.Given)
    (client : View K) : Type 0 where
  pub stream : IsStream backend client.settings.limit h.fed h.heard client.kept
  -- no call was made since the piece was fed
  pub places : AllByRecursion (λ c. c.1 ≤ before) h.calls
  pub ordered : AreOrdered h.calls
  pub happened : MayHappen client.settings (happenings h) h.sent
  pub within : before ≤ length h.fed
  -- the next message, if one is whole, ends in this piece
  pub late : (m : BackMessage) (more : List ℕ) → IsWithin backend client.settings.limit m
      → client.kept ≡ spelling backend m ++ more
      → before < length (flat_map (spelling backend) h.heard) + length (spelling backend m)
  pub is_open : client.closed ≡ None
  pub not_handed_back : h.handed_back ≡ false
  pub not_terminated : IsTerminated (happenings h) → ⊥
  pub led : IsLedBy way.tells h client

-- The client has gone on from message to message, and what was added to the output is what has to be
-- sent for them.
pub record GoesOn {K : Type 0} (way : Keeps K) (old now : View K)
    (start out : List ℕ) : Type 0 where
  pub settings : now.settings ≡ old.settings
  pub added : List ℕ
  pub put : out ≡ start ++ added
  pub history : (before : ℕ) (past : History way.Given) → IsHearing way before past old
      → (more : List BackMessage) × IsHearing way before (with_heard more now.kept added past) now

-- What handling all whole messages does to a client that was fed a piece.
pub record HearsAll {K : Type 0} (way : Keeps K) (old : View K) (result : Result Unit FeedFault)
    (new : View K) (before after : List ℕ) : Type 0 where
  pub added : List ℕ
  pub put : after ≡ before ++ added
  pub hears : (place : ℕ) (h : History way.Given) (piece : List ℕ)
      → length h.fed ≡ place + length piece → IsHearing way place h old
      → Hears way h piece added result new
