-- What a history means.
use Rattle.std.proofs.Common.{◌≡◌, List, [], ◌∷◌, ◌++◌, drop, Bool, true, false, Option, Some, None, refl, sym, subst, ◌∙◌}
use Rattle.std.specs.Prelude.{◌↔◌, ◌≢◌}
use Rattle.pg_client.specs.declared.phase.Cause.{Cause}
use Rattle.pg_client.specs.declared.phase.Phase.{Phase}
use Rattle.pg_client.specs.declared.phase.Phase.TheVariants as phase
use Rattle.pg_response.specs.declared.place.Open.{Open}
use Rattle.pg_response.specs.declared.place.Open.TheVariants as opened
use Rattle.pg_client.specs.declared.stand.CopyAnswer.{CopyAnswer}
use Rattle.pg_client.specs.declared.stand.CopyAnswer.TheVariants.{Awaited}
use Rattle.pg_client.specs.declared.stand.Stand.{Stand}
use Rattle.pg_client.specs.declared.stand.Stand.TheVariants.{New, Starting, Idle, Busy}
use Rattle.pg_client.specs.Session.{Happening, groups_in, requests_in, rest_in, IsStarted, IsStarting, IsReady, IsCopyingIn}
use Rattle.pg_client.specs.View.{ClientView, EarlyView, groups_waiting, View, stand_phase, busy_phase_of, phase_with}
use Rattle.pg_client.specs.Client.{happenings, IsHistoryOf, History, Keeps}
use Rattle.pg_client.specs.Private.Agreeing.{Agrees, shown}
use Rattle.pg_client.specs.Keeping.{collecting, CollectsAt, EachSettled, queueing}
use Rattle.pg_wire.specs.message.BackMessage.{BackMessage}
use Rattle.pg_wire.specs.declared.session.Request.{Request}
use Rattle.pg_response.specs.Collected.{CollectedView}
use Rattle.pg_client.specs.declared.item.Item.{Item}
use Rattle.pg_client.specs.declared.settled.Settled.{Settled}
use Rattle.pg_client.specs.Facts.{ClientFacts, EarlyFacts, FirstSettled, IsPhase, Facts}
use Rattle.pg_client.specs.Stand.{Stands}
use Rattle.pg_client.proofs.Standing.Agreeing.{answer_is_said}
use Rattle.pg_client.proofs.Standing.FactsHold.{StandFacts, stand_facts}
use Rattle.pg_client.proofs.Standing.Said.{AnswerIsSaid, copying_in, copy_awaited}

never_closed : (stand : Stand) (c : Cause) → stand_phase stand ≡ phase.Closed c → ⊥
never_closed New c e = cc
never_closed (Starting w) c e = cc
never_closed Idle c e = cc
never_closed (Busy request place answer) c e = by place.opened answer e
  where
    by : (o : Open) (a : CopyAnswer) → busy_phase_of o a ≡ phase.Closed c → ⊥
    by opened.CopyIn Awaited k = cc
    by _ _ k = cc

-- the phase of an open client is the one that its conditions name
module _ (hs : List Happening) (p : Phase)
    (new : (p ≡ phase.New) ↔ (IsStarted hs → ⊥)) (starting : (p ≡ phase.Starting) ↔ IsStarting hs) (ready : (p ≡ phase.Ready) ↔ IsReady hs) (copying : (p ≡ phase.CopyingIn) ↔ IsCopyingIn hs) (no_cause : (c : Cause) → p ≡ phase.Closed c → ⊥) where
  busy_then : p ≡ phase.Busy → IsPhase hs None phase.Busy
  busy_then e = (
    λ n. (let k : phase.Busy ≡ phase.New = sym e ∙ new.1 n in cc),
    λ s. (let k : phase.Busy ≡ phase.Starting = sym e ∙ starting.1 s in cc),
    λ s. (let k : phase.Busy ≡ phase.Ready = sym e ∙ ready.1 s in cc),
    λ s. (let k : phase.Busy ≡ phase.CopyingIn = sym e ∙ copying.1 s in cc),
  )

  busy_only : (q : Phase) → p ≡ q → IsPhase hs None phase.Busy → q ≡ phase.Busy
  busy_only phase.New e h = absurd (h.0 (new.0 e))
  busy_only phase.Starting e h = absurd (h.1 (starting.0 e))
  busy_only phase.Ready e h = absurd (h.2 (ready.0 e))
  busy_only phase.CopyingIn e h = absurd (h.3 (copying.0 e))
  busy_only phase.Busy e h = refl
  busy_only (phase.Closed c) e h = absurd (no_cause c e)

  open_phase : (q : Phase) → (p ≡ q) ↔ IsPhase hs None q
  open_phase phase.New = new
  open_phase phase.Starting = starting
  open_phase phase.Ready = ready
  open_phase phase.CopyingIn = copying
  open_phase phase.Busy = (busy_then, λ h. busy_only p refl h)
  open_phase (phase.Closed c) = (no_cause c, λ h. absurd h)

phase_by : (hs : List Happening) (was now : Stand) (closed : Option Cause) → AnswerIsSaid hs → StandFacts hs was → (closed ≡ None → now ≡ was) → (p : Phase) → (phase_with closed now ≡ p) ↔ IsPhase hs closed p
phase_by hs was now (Some c) same f shows p = (λ e. sym e, λ e. sym e)
phase_by hs was now None same f shows p =
    subst (λ (s : Stand). (stand_phase s ≡ p) ↔ IsPhase hs None p) (sym (shows refl)) (open_phase hs (stand_phase was) f.new f.starting f.ready (λ e. copying_in hs same (f.copying.0 e), λ k. f.copying.1 (copy_awaited hs same k)) (never_closed was) p)

-- an open client stands where its events have led it
pub open_stand : (was now : Stand) (closed : Option Cause) (handed_back : Bool) → now ≡ shown handed_back was → (handed_back ≡ true → closed ≢ None) → closed ≡ None → now ≡ was
open_stand was now closed false is lost none = is
open_stand was now closed true is lost none = absurd (lost refl none)

module _ {K : Type 0} (way : Keeps K) (h : History way.Given) (client : View K) (r : Agrees way.tells h client) where
  pub history_facts : Facts h client
  history_facts = record {
    expected = r.happened.expected;
    allowed = r.happened.allowed;
    sent = r.happened.sent_is;
    ends = r.ends;
    knows = r.led.knows;
    phase = phase_by (happenings h) r.led.was client.known.stand client.closed (answer_is_said (happenings h) r.happened.expected.after r.happened.allowed) (stand_facts (happenings h) r.led.was r.led.stands)
        (open_stand r.led.was client.known.stand client.closed h.handed_back r.led.now r.lost);
  }

-- ---- what is settled

in_order_all : (rs : List Request) (ss : List (List BackMessage)) (ts : List Settled) → EachSettled rs ss ts → FirstSettled rs ss ts
in_order_all [] [] [] h = tt
in_order_all (r ∷ rs) (s ∷ ss) (t ∷ ts) h = (h.0, h.1, in_order_all rs ss ts h.2)
in_order_all _ _ _ h = absurd h

in_order_first : (rs : List Request) (r : Request) (ss : List (List BackMessage)) (ts : List Settled) → EachSettled rs ss ts → FirstSettled (rs ++ r ∷ []) ss ts
in_order_first [] r [] [] h = tt
in_order_first (q ∷ rs) r (s ∷ ss) (t ∷ ts) h = (h.0, h.1, in_order_first rs r ss ts h.2)
in_order_first _ r _ _ h = absurd h

-- where nothing was asked of the segments yet, nothing is settled
none_in_order : (rs : List Request) (ts : List Settled) → ts ≡ [] → FirstSettled rs [] ts
none_in_order rs ts e = subst (FirstSettled rs []) (sym e) tt

settled_in_order : (hs : List Happening) (stand : Stand) (settled : List Settled) (c : CollectedView) → Stands hs stand → CollectsAt stand (requests_in hs) (groups_in hs) (rest_in hs) settled c → FirstSettled (requests_in hs) (groups_in hs) settled
settled_in_order hs New settled c there h = subst (λ (x : List Happening). FirstSettled (requests_in x) (groups_in x) settled) (sym there) (none_in_order [] settled h.0)
settled_in_order hs (Starting w) settled c there h = subst (λ (x : List (List BackMessage)). FirstSettled (requests_in hs) (drop 1 x) settled) (sym there.1.no_segment) (none_in_order (requests_in hs) settled h.0)
settled_in_order hs Idle settled c there h = in_order_all (requests_in hs) (groups_in hs) settled h.0
settled_in_order hs (Busy request place answer) settled c there h = subst (λ (rs : List Request). FirstSettled rs (groups_in hs) settled) (sym h.last) (in_order_first h.earlier request (groups_in hs) settled h.settled_as)

pub in_order : (h : History Settled) (client : ClientView) → IsHistoryOf collecting h client → FirstSettled (requests_in (happenings h)) (groups_in (happenings h)) (h.given ++ groups_waiting client)
in_order h client r = settled_in_order (happenings h) r.agrees.led.was (h.given ++ groups_waiting client) client.known.keeper.collected r.agrees.led.stands r.agrees.led.kept

pub client_facts : (h : History Settled) (client : ClientView) → IsHistoryOf collecting h client → ClientFacts h client
client_facts h client r = record { facts = history_facts collecting h client r.agrees; in_order = in_order h client r }

pub early_facts : (h : History Item) (client : EarlyView) → IsHistoryOf queueing h client → EarlyFacts h client
early_facts h client r = record { facts = history_facts queueing h client r.agrees; items = r.agrees.led.kept }
