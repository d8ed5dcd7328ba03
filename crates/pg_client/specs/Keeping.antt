-- What a client keeps of the messages that come in the segments of its requests. There are two
-- kinds: one collects them until they are settled, and one has an item for each.
use Rattle.std.specs.Prelude.{◌≡◌, List, [], ◌∷◌, ◌++◌, map, None, ◌↔◌}
use Rattle.pg_wire.specs.message.BackMessage.{BackMessage}
use Rattle.pg_wire.specs.message.BackMessage.TheVariants as back
use Rattle.pg_wire.specs.value.Status.{Status}
use Rattle.pg_wire.specs.declared.session.Request.{Request}
use Rattle.pg_wire.specs.Segment.{asides_of, asked, Fits, status_of, without_asides}
use Rattle.pg_response.specs.declared.place.Place.{Place}
use Rattle.pg_response.specs.Collected.{CollectedView, Holds, nothing_collected}
use Rattle.pg_response.specs.Place.{start}
use Rattle.pg_client.specs.declared.call.Call.{Call}
use Rattle.pg_client.specs.declared.call.Call.TheVariants as call
use Rattle.pg_client.specs.declared.item.Item.{Item}
use Rattle.pg_client.specs.declared.item.Item.TheVariants as item
use Rattle.pg_client.specs.declared.settled.Settled.{Settled}
use Rattle.pg_client.specs.declared.stand.CopyAnswer.{CopyAnswer}
use Rattle.pg_client.specs.declared.stand.CopyAnswer.TheVariants.{Awaited}
use Rattle.pg_client.specs.declared.stand.Stand.{Stand}
use Rattle.pg_client.specs.declared.stand.Stand.TheVariants.{New, Starting, Idle, Busy}
use Rattle.pg_client.specs.declared.startup.Welcome.{Welcome}
use Rattle.pg_client.specs.declared.startup.Welcome.TheVariants.{Fresh}
use Rattle.pg_client.specs.Session.{Happening, Did, Came, groups_in, requests_in, rest_in, whole_in}
use Rattle.pg_client.specs.View.{View}
use Rattle.pg_client.specs.Client.{History, Keeps}
use Rattle.pg_client.specs.Stand.{Stands}
use Rattle.pg_client.specs.Private.Agreeing.{Agrees}
pub use Rattle.pg_client.specs.View.{CollectingView}

-- ---- until it is settled

-- For each of these requests there is one segment and one settled group, in order. The group has
-- that request, and the outcome that the segment fits.
abbrev pub EachSettled : List Request → List (List BackMessage) → List Settled → Type 0
EachSettled [] [] [] = Unit {0}
EachSettled (r ∷ rs) (s ∷ ss) (t ∷ ts) = (t.request ≡ r) × Fits r s t.outcome × EachSettled rs ss ts
EachSettled _ _ _ = ⊥

-- All but the last request are settled, as these groups, and this was collected of the messages
-- since: their asides, and the parts of which they consist.
pub record CollectsBusy (requests : List Request) (groups : List (List BackMessage))
    (rest : List BackMessage) (settled : List Settled) (c : CollectedView) (request : Request)
    (place : Place) : Type 0 where
  pub earlier : List Request
  pub last : requests ≡ earlier ++ request ∷ []
  pub settled_as : EachSettled earlier groups settled
  pub asides_are : asides_of rest ≡ c.asides
  pub holds : Holds (asked request) (without_asides rest) place c

-- What is settled and was collected, where a client stands that has made these requests, and these
-- are the segments of requests that are whole, and the messages since the last ReadyForQuery.
abbrev pub CollectsAt : Stand → List Request → List (List BackMessage) → List BackMessage
    → List Settled → CollectedView → Type 0
CollectsAt (Busy request place answer) requests groups rest settled c =
    CollectsBusy requests groups rest settled c request place
CollectsAt Idle requests groups rest settled c = EachSettled requests groups settled
    × (c ≡ record nothing_collected { asides = asides_of rest })
CollectsAt _ requests groups rest settled c = (settled ≡ []) × (c ≡ nothing_collected)

-- What has come of these events is settled, and was given or waits, or was collected.
abbrev pub collects : CollectingView → Stand → List Settled → List Happening → Type 0
collects k stand given hs =
    CollectsAt stand (requests_in hs) (groups_in hs) (rest_in hs) (given ++ k.settled) k.collected

-- A client that collects what comes until it is settled.
abbrev pub collecting : Keeps CollectingView
collecting =
    record {
      Given = Settled;
      tells = collects;
      agrees = λ h client. Agrees collects h client;
    }

-- ---- as it comes

-- The item of a message in the segment of this request: a ReadyForQuery, which is the last one,
-- settles the request, and any other is Early.
abbrev pub item_for : Request → BackMessage → Item
item_for request (back.Ready status) = item.Settled request status
item_for request m = item.Early m

-- The items of these whole segments, and then of the messages of the segment that isn't whole,
-- which are all Early. Segment k belongs to request k.
abbrev pub items_of : List Request → List (List BackMessage) → List BackMessage → List Item
items_of requests [] rest = map item.Early rest
items_of [] (s ∷ ss) rest = []
items_of (r ∷ rs) (s ∷ ss) rest = map (item_for r) s ++ items_of rs ss rest

-- The items of these segments, the first of which is that of the startup and has no items
-- ("Start-up"). The messages of a segment that isn't whole come last.
abbrev pub items_after_startup : List Request → List (List BackMessage) → List BackMessage
    → List Item
items_after_startup requests [] rest = []
items_after_startup requests (startup ∷ groups) rest = items_of requests groups rest

-- All items of these events: for each request's segment its messages but the last, then that the
-- request is settled. An aside that came while no request was outstanding is in the segment of the
-- next one.
abbrev pub items_in : List Happening → List Item
items_in hs = items_after_startup (requests_in hs) (whole_in hs) (rest_in hs)

-- The items that were given and those that wait are all that there are of these events.
abbrev pub queues : List Item → Stand → List Item → List Happening → Type 0
queues waiting stand given hs = given ++ waiting ≡ items_in hs

-- A client that has an item for each message.
abbrev pub queueing : Keeps (List Item)
queueing =
    record { Given = Item; tells = queues; agrees = λ h client. Agrees queues h client }

-- ---- what it isn't told of

-- What holds between a client and a history is what the code of every client goes by.
abbrev pub AgreesAs : {K : Type 0} → Keeps K → Type 0
AgreesAs {K} way = (h : History way.Given) (client : View K)
    → way.agrees h client ↔ Agrees way.tells h client

-- What is so of each keeper: a client that has it agrees with a history as the code goes by, and
-- nothing is kept of calls, nor of the startup.
pub record IsSilent {K : Type 0} (way : Keeps K) : Type 0 where
  pub agrees_as : AgreesAs way
  pub started : (k : K) (given : List way.Given) → way.tells k New given []
      → way.tells k (Starting Fresh) given (Did call.Start ∷ [])
  pub asked : (k : K) (given : List way.Given) (hs : List Happening) (r : Request)
      → Stands hs Idle → way.tells k Idle given hs
      → way.tells k (Busy r start Awaited) given (hs ++ Did (call.Request r) ∷ [])
  -- any other call, where the client stays, but for what was called for a copy
  pub called : (k : K) (given : List way.Given) (hs : List Happening) (c : Call)
      → requests_in (Did c ∷ []) ≡ [] → (was stand : Stand) → Stands hs was
      → way.tells k stand given hs
      → way.tells k stand given (hs ++ Did c ∷ [])
  pub answered : (k : K) (given : List way.Given) (hs : List Happening) (r : Request)
      (place : Place) (was is : CopyAnswer) → way.tells k (Busy r place was) given hs
      → way.tells k (Busy r place is) given hs
  pub welcomed : (k : K) (given : List way.Given) (hs : List Happening) (w v : Welcome)
      (m : BackMessage) → Stands hs (Starting w) → status_of m ≡ None
      → way.tells k (Starting w) given hs → way.tells k (Starting v) given (hs ++ Came m ∷ [])
  pub let_in : (k : K) (given : List way.Given) (hs : List Happening) (w : Welcome)
      (status : Status) → Stands hs (Starting w) → way.tells k (Starting w) given hs
      → way.tells k Idle given (hs ++ Came (back.Ready status) ∷ [])
