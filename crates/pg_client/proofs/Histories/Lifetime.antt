-- How a history begins, what is taken of it, and how the connection is lost.
use Rattle.std.proofs.Common.{◌≡◌, ℕ, List, [], ◌∷◌, ◌++◌, Bool, true, false, Option, Some, None, refl, sym, ap, subst, ◌∙◌, arith}
use Rattle.std.specs.Prelude.{unwrap_or, ◌↔◌}
use Rattle.pg_wire.specs.declared.fault.WireFault.{WireFault}
use Rattle.pg_wire.specs.declared.fault.WireFault.TheVariants as wire
use Rattle.pg_wire.specs.Backend.{backend}
use Rattle.pg_wire.specs.Stream.{IsOpen, IsFaulty}
use Rattle.pg_client.specs.declared.phase.Cause.{Cause}
use Rattle.pg_client.specs.declared.phase.Cause.TheVariants as cause
use Rattle.pg_client.specs.declared.stand.Stand.{Stand}
use Rattle.pg_client.specs.declared.stand.Stand.TheVariants.{New}
use Rattle.pg_client.specs.declared.settings.Settings.{Settings}
use Rattle.pg_client.specs.declared.settled.Loss.{Loss}
use Rattle.pg_client.specs.Session.{Happening, IsTerminated, AreAllowed}
use Rattle.pg_client.specs.View.{loss_at, View}
use Rattle.pg_client.specs.Closed.{Ends}
use Rattle.pg_client.specs.Client.{happenings, IsHistoryBefore, IsHistoryOf, with_given, with_handed_back, Carries, blank, Keeps, Loses, first_cause, HandsBack, IsLost}
use Rattle.pg_client.specs.Private.Agreeing.{Agrees, shown}
use Rattle.pg_client.specs.Keeping.{AgreesAs}
use Rattle.pg_client.specs.Private.Hearing.{IsFirst}
use Rattle.pg_client.proofs.Histories.Seen.{agreeing, seen}
use Rattle.pg_client.proofs.Standing.FactsHold.{StandFacts, stand_facts}
use Rattle.pg_client.proofs.Events.Happening.{expected_nothing}

-- ---- the beginning

-- more bytes are to come of nothing
pub nothing_is_open : (limit : ℕ) → IsOpen backend limit []
nothing_is_open limit = record { no_message = λ m more w e. cc; no_fault = no_fault }
  where
    no_fault : (f : WireFault) → IsFaulty backend limit [] f → ⊥
    no_fault (wire.UnknownTag t) h = omega (arith, h.1.there)
    no_fault (wire.ShortLength n) h = omega (arith, h.1.there)
    no_fault (wire.LongLength n) h = omega (arith, h.1.there)
    no_fault (wire.BadBody t) h = omega (arith, h.1.head.there)
    no_fault (wire.BadFirst c) h = absurd h
    no_fault wire.Memory h = absurd h

none_allowed : AreAllowed []
none_allowed [] c later e = absurd cc
none_allowed (b ∷ before) c later e = absurd cc

terminated_by : (hs : List Happening) (closed : Option Cause) → IsTerminated hs ↔ (closed ≡ Some cause.Terminated) → IsTerminated hs ↔ (Some (first_cause closed cause.Lost) ≡ Some cause.Terminated)
terminated_by hs None h = (λ t. absurd (let e : None ≡ Some cause.Terminated = h.0 t in cc), λ e. absurd cc)
terminated_by hs (Some c) h = h

ends_by : (settings : Settings) (hs : List Happening) (rest kept : List ℕ) (closed : Option Cause) → Ends settings hs rest kept closed → Ends settings hs rest kept (Some (first_cause closed cause.Lost))
ends_by settings hs rest kept None h = h
ends_by settings hs rest kept (Some c) h = h

module _ {K : Type 0} (way : Keeps K) (law : AgreesAs way) where
  pub blank_begins : (v : View K) → v.kept ≡ [] → v.closed ≡ None → IsFirst way v.known → IsHistoryOf way blank v
  blank_begins v kept closed first = seen way law blank v (record {
    stream = record { whole = refl; each = tt };
    places = tt;
    ordered = tt;
    happened = record { allowed = none_allowed; expected = expected_nothing v.settings.password; sent_is = refl; spelled = tt };
    led = record {
      was = New;
      stands = refl;
      now = first.stand;
      kept = first.tells;
      knows = record { status = first.status; parameters = λ name. rw first.parameters refl; key = first.key };
    };
    ends = subst (Ends v.settings [] [] v.kept) (sym closed) (record { kept_is = kept; is_open = nothing_is_open v.settings.limit });
    terminated = (λ t. absurd t, λ e. absurd (let k : None ≡ Some cause.Terminated = sym closed ∙ e in cc));
    lost = λ yes. cc;
  })

  -- ---- something is taken of what was kept

  -- where the rest is the same, and what was kept tells of the same with one thing more given
  pub taken : (old new : View K) (t : way.Given) → new ≡ record old { known = record old.known { keeper = new.known.keeper } }
      → ((stand : Stand) (given : List way.Given) (hs : List Happening) → way.tells old.known.keeper stand given hs → way.tells new.known.keeper stand (given ++ t ∷ []) hs) → Carries way old new (with_given t)
  taken old new t same tells unread h r =
      let a = agreeing way law h (record old { kept = r.first }) r.history in
      subst (IsHistoryBefore way unread (with_given t h)) (sym same) (record {
        first = r.first;
        kept = r.kept;
        history = seen way law (with_given t h) (record old { kept = r.first; known = record old.known { keeper = new.known.keeper } }) (record {
          stream = a.stream;
          places = a.places;
          ordered = a.ordered;
          happened = a.happened;
          led = record { was = a.led.was; stands = a.led.stands; now = a.led.now; kept = tells a.led.was h.given (happenings h) a.led.kept; knows = a.led.knows };
          ends = a.ends;
          terminated = a.terminated;
          lost = a.lost;
        });
      })

  -- ---- the connection is lost

  pub loses : (old : View K) (loss : Loss) → loss ≡ loss_at old.known.stand → HandsBack way old loss
  loses old loss is unread h r = by h.handed_back a.led.now
    where
      a : Agrees way.tells h (record old { kept = r.first })
      a = agreeing way law h (record old { kept = r.first }) r.history

      f : StandFacts (happenings h) a.led.was
      f = stand_facts (happenings h) a.led.was a.led.stands

      by : (b : Bool) → old.known.stand ≡ shown b a.led.was → Loses b (happenings h) loss
      by false e =
          let all = is ∙ (ap loss_at e ∙ f.loss) in
          (ap (λ (l : Loss). l.unsettled) all, ap (λ (l : Loss). l.seen_error) all)
      by true e =
          let all = is ∙ ap loss_at e in
          (ap (λ (l : Loss). l.unsettled) all, ap (λ (l : Loss). l.seen_error) all)

  pub lost_carries : (old new : View K) → new ≡ record old { known = record old.known { stand = New }; closed = Some (first_cause old.closed cause.Lost) } → Carries way old new with_handed_back
  lost_carries old new same unread h r =
      let a = agreeing way law h (record old { kept = r.first }) r.history in
      subst (IsHistoryBefore way unread (with_handed_back h)) (sym same) (record {
        first = r.first;
        kept = r.kept;
        history = seen way law (with_handed_back h) (record old { kept = r.first; known = record old.known { stand = New }; closed = Some (first_cause old.closed cause.Lost) }) (record {
          stream = a.stream;
          places = a.places;
          ordered = a.ordered;
          happened = a.happened;
          led = record { was = a.led.was; stands = a.led.stands; now = refl; kept = a.led.kept; knows = a.led.knows };
          ends = ends_by old.settings (happenings h) h.rest r.first old.closed a.ends;
          terminated = terminated_by (happenings h) old.closed a.terminated;
          lost = λ yes e. (let k : Some (first_cause old.closed cause.Lost) ≡ None = e in cc);
        });
      })

  -- by the fields of a value that was opened
  pub is_lost : (v old : View K) → v ≡ old → (stand : Stand) (c : Cause) (loss : Loss) → stand ≡ New → c ≡ first_cause v.closed cause.Lost → loss ≡ loss_at v.known.stand → IsLost way old loss (record v { known = record v.known { stand = stand }; closed = Some c })
  is_lost v old same stand c loss at first is =
      let new : View K = record v { known = record v.known { stand = stand }; closed = Some c } in
      subst (λ (x : View K). IsLost way x loss new) same (record {
        settings = refl;
        closed = ap (λ (x : Cause). Some x) first;
        keeper = refl;
        says = loses v loss is;
        history = lost_carries v new (ap (λ (s : Stand). record v { known = record v.known { stand = s }; closed = Some c }) at ∙ ap (λ (x : Cause). record v { known = record v.known { stand = New }; closed = Some x }) first);
      })

-- the first cause, as it is computed
pub first_is : (o : Option Cause) → unwrap_or o cause.Lost ≡ first_cause o cause.Lost
first_is None = refl
first_is (Some c) = refl
