-- What holds of a client after its calls and the messages that came, in the words of the protocol
-- alone.
use Rattle.std.specs.Prelude.{◌≡◌, List, [], ◌∷◌, ◌++◌, Option, Some, None, ◌↔◌}
use Rattle.pg_wire.specs.message.BackMessage.{BackMessage}
use Rattle.pg_wire.specs.declared.session.Request.{Request}
use Rattle.pg_wire.specs.Segment.{Fits}
use Rattle.pg_client.specs.declared.phase.Cause.{Cause}
use Rattle.pg_client.specs.declared.phase.Phase.{Phase}
use Rattle.pg_client.specs.declared.phase.Phase.TheVariants as phase
use Rattle.pg_client.specs.declared.item.Item.{Item}
use Rattle.pg_client.specs.declared.settled.Settled.{Settled}
use Rattle.pg_client.specs.Session.{AreAllowed, Happening, requests_in, Expected, IsStarted, IsStarting, IsReady, IsCopyingIn, groups_in}
use Rattle.pg_client.specs.Closed.{Ends}
use Rattle.pg_client.specs.View.{ClientView, EarlyView, groups_waiting, items_waiting, KnowsLast, phase_of, View}
use Rattle.pg_client.specs.Client.{happenings, History}
use Rattle.pg_client.specs.Sent.{sent_in}
use Rattle.pg_client.specs.Keeping.{items_in}

-- For each segment there is one settled group, in order. It has the request of that segment, and
-- the outcome that the segment fits. Requests after these have no segment, and aren't settled.
abbrev pub FirstSettled : List Request → List (List BackMessage) → List Settled → Type 0
FirstSettled requests [] [] = Unit {0}
FirstSettled (r ∷ rs) (s ∷ ss) (t ∷ ts) = (t.request ≡ r) × Fits r s t.outcome
    × FirstSettled rs ss ts
FirstSettled _ _ _ = ⊥

-- What each phase means, after these events. The client is closed for this reason, or open (None).
-- New: it wasn't started. Starting: it was, and the startup's ReadyForQuery wasn't handled. Ready:
-- that ReadyForQuery was handled, and no request is outstanding. CopyingIn: the server waits for
-- the data of a copy. Busy: none of these. Closed: with the cause for which it is closed.
abbrev pub IsPhase : List Happening → Option Cause → Phase → Type 0
IsPhase hs (Some c) p = p ≡ phase.Closed c
IsPhase hs None phase.New = IsStarted hs → ⊥
IsPhase hs None phase.Starting = IsStarting hs
IsPhase hs None phase.Ready = IsReady hs
IsPhase hs None phase.CopyingIn = IsCopyingIn hs
IsPhase hs None phase.Busy = ((IsStarted hs → ⊥) → ⊥) × (IsStarting hs → ⊥) × (IsReady hs → ⊥)
    × (IsCopyingIn hs → ⊥)
IsPhase hs None (phase.Closed c) = ⊥

-- What a user of a client with this history may rely on.
pub record Facts {K G : Type 0} (h : History G) (client : View K) : Type 0 where
  -- each message that was handled is one that this client may get after the events before it, and
  -- each call was allowed when it was made
  pub expected : Expected client.settings.password (happenings h)
  pub allowed : AreAllowed (happenings h)
  -- the client is in that phase of which IsPhase holds
  pub phase : (p : Phase) → (phase_of client ≡ p) ↔ IsPhase (happenings h) client.closed p
  -- what it has put out is what its calls and the questions for a password send
  pub sent : h.sent ≡ sent_in client.settings (happenings h)
  -- why it handles no further message
  pub ends : Ends client.settings (happenings h) h.rest client.kept client.closed
  -- its status, its key and its values of parameters are the last that came
  pub knows : KnowsLast h.heard client.known.status client.known.parameters client.known.key

-- The same of a client of which settled groups are taken: those that were taken and those that wait are
-- those of the first requests, each with the outcome that its segment fits.
pub record ClientFacts (h : History Settled) (client : ClientView) : Type 0 where
  pub facts : Facts h client
  pub in_order : FirstSettled (requests_in (happenings h)) (groups_in (happenings h))
      (h.given ++ groups_waiting client)

-- The same of a client of which each message is taken: the items that were given and those that wait
-- are all those of the events.
pub record EarlyFacts (h : History Item) (client : EarlyView) : Type 0 where
  pub facts : Facts h client
  pub items : h.given ++ items_waiting client ≡ items_in (happenings h)
