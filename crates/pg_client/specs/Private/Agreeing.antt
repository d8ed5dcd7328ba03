-- What holds between a client and a history of it, all that its code goes by. The laws say what a
-- user may rely on of that, in the words of the protocol.
use Rattle.std.specs.Prelude.{◌≡◌, ◌≢◌, ℕ, ◌≤◌, List, [], ◌∷◌, length, Bool, true, false, Some, None, ◌↔◌}
use Rattle.std.specs.List.{AllByRecursion}
use Rattle.pg_wire.specs.Backend.{backend}
use Rattle.pg_wire.specs.Stream.{IsStream}
use Rattle.pg_client.specs.declared.call.Call.{Call}
use Rattle.pg_client.specs.declared.stand.Stand.{Stand}
use Rattle.pg_client.specs.declared.stand.Stand.TheVariants.{New}
use Rattle.pg_client.specs.declared.settings.Settings.{Settings}
use Rattle.pg_client.specs.declared.phase.Cause.TheVariants as cause
use Rattle.pg_client.specs.Session.{Happening, Expected, IsTerminated, AreAllowed}
use Rattle.pg_client.specs.View.{KnowsLast, View}
use Rattle.pg_client.specs.Client.{happenings, History}
use Rattle.pg_client.specs.Sent.{sent_in, IsSpelledAt}
use Rattle.pg_client.specs.Closed.{Ends}
use Rattle.pg_client.specs.Stand.{Stands}

-- The calls are in the order of their places: none was fed fewer bytes than the call before it.
abbrev pub AreOrdered : List (Call × ℕ) → Type 0
AreOrdered [] = Unit {0}
AreOrdered (c ∷ []) = Unit {0}
AreOrdered (c ∷ d ∷ cs) = (c.1 ≤ d.1) × AreOrdered (d ∷ cs)

-- What happened may happen, and this went out for it.
pub record MayHappen (settings : Settings) (hs : List Happening) (sent : List ℕ) : Type 0 where
  -- each call was allowed when it was made
  pub allowed : AreAllowed hs
  -- the server has kept to the protocol in all that was handled
  pub expected : Expected settings.password hs
  -- what went out is what the events send, each with a spelling
  pub sent_is : sent ≡ sent_in settings hs
  pub spelled : AllByRecursion (IsSpelledAt settings) hs

-- Where the client stands, by where its events have led it. One of which `lost` was called (true) is
-- closed, and stands New again: it has nothing more to hand back.
abbrev pub shown : Bool → Stand → Stand
shown false was = was
shown true was = New

-- Where the events have led the client, and that it has kept what came of them.
pub record IsLedBy {K G : Type 0} (tells : K → Stand → List G → List Happening → Type 0)
    (h : History G) (client : View K) : Type 0 where
  pub was : Stand
  pub stands : Stands (happenings h) was
  pub now : client.known.stand ≡ shown h.handed_back was
  pub kept : tells client.known.keeper was h.given (happenings h)
  pub knows : KnowsLast h.heard client.known.status client.known.parameters client.known.key

-- The client, as it is now, may have gone through this history.
pub record Agrees {K G : Type 0} (tells : K → Stand → List G → List Happening → Type 0)
    (h : History G) (client : View K) : Type 0 where
  -- the bytes fed are the messages and the bytes left, within the limit of a message's length
  pub stream : IsStream backend client.settings.limit h.fed h.heard h.rest
  -- no call has a place after the bytes fed, and the calls are in the order of their places
  pub places : AllByRecursion (λ c. c.1 ≤ length h.fed) h.calls
  pub ordered : AreOrdered h.calls
  -- what happened may happen, and what went out is what it sends
  pub happened : MayHappen client.settings (happenings h) h.sent
  pub led : IsLedBy tells h client
  -- why no message was handled after these
  pub ends : Ends client.settings (happenings h) h.rest client.kept client.closed
  -- it is closed as Terminated where terminate was called, and closed where lost was called
  pub terminated : IsTerminated (happenings h) ↔ (client.closed ≡ Some cause.Terminated)
  pub lost : h.handed_back ≡ true → client.closed ≢ None
