-- Where the client stands after what happened, the facts hold.
use Rattle.std.proofs.Common.{◌≡◌, ℕ, suc, List, [], ◌∷◌, ◌++◌, length, drop, Bool, true, false, ◌||◌, Option, Some, None, is_some, refl, sym, ap, subst, ◌∙◌, arith, length-append}
use Rattle.std.specs.Prelude.{IfSome, ◌↔◌}
use Rattle.std.specs.List.{slice_get, list_any}
use Rattle.std.specs.Option.{option_map}
use Rattle.std.proofs.lemmas.Option.{slice_get_past}
use Rattle.pg_wire.specs.message.BackMessage.{BackMessage}
use Rattle.pg_wire.specs.message.BackMessage.TheVariants as back
use Rattle.pg_wire.specs.value.CopyHead.{CopyHead}
use Rattle.pg_wire.specs.declared.session.Aside.{Aside}
use Rattle.pg_wire.specs.declared.session.Request.{Request}
use Rattle.pg_wire.specs.Segment.{error_of, aside_of, without_asides, Asked as What, asked}
use Rattle.pg_response.specs.declared.place.Open.{Open}
use Rattle.pg_response.specs.declared.place.Open.TheVariants as opened
use Rattle.pg_response.specs.declared.place.Place.{Place}
use Rattle.pg_response.specs.Place.{goes, goes_by, led_to, mark_of, next_open, start}
use Rattle.pg_response.proofs.Copies.{ends_open, open_ends}
use Rattle.pg_response.proofs.Lists.{kept_with}
use Rattle.pg_client.specs.declared.stand.CopyAnswer.{CopyAnswer}
use Rattle.pg_client.specs.declared.stand.CopyAnswer.TheVariants.{Awaited}
use Rattle.pg_client.specs.declared.startup.Welcome.{Welcome}
use Rattle.pg_client.specs.declared.startup.Welcome.TheVariants.{Fresh, Asked, Admitted}
use Rattle.pg_client.specs.declared.stand.Stand.{Stand}
use Rattle.pg_client.specs.declared.stand.Stand.TheVariants.{New, Starting, Idle, Busy}
use Rattle.pg_client.specs.declared.settled.Loss.{Loss}
use Rattle.pg_client.specs.declared.phase.Phase.{Phase}
use Rattle.pg_client.specs.declared.phase.Phase.TheVariants as phase
use Rattle.pg_client.specs.Startup.{greet, greet_from, greet_all}
use Rattle.pg_client.specs.Stand.{copy_answer, Stands}
use Rattle.pg_client.specs.Session.{Happening, requests_in, rest_in, IsStarted, IsStarting, IsReady, EndInCopyIn, groups_in}
use Rattle.pg_client.specs.View.{busy_phase_of, loss_at, stand_phase}
use Rattle.pg_client.specs.Client.{has_error}
use Rattle.pg_client.proofs.Events.Greeting.{greet_from-append}
use Rattle.pg_client.proofs.Events.OneMessage.{EachFits-length}
use Rattle.pg_client.proofs.Standing.Said.{IsCopyAwaited}

-- ---- errors

or_true : (b : Bool) → true ≡ b || true
or_true true = refl
or_true false = refl

led_failed : (a : What) (n : ℕ) (o w : Open) → (led_to a (record { answers = n; opened = o; failed = false }) w).failed ≡ false
led_failed a n o opened.Nothing = refl
led_failed a n o _ = refl

-- a message leads to a place that has failed where it is an error, or the place before had failed
one_failed : (a : What) (n : ℕ) (o : Open) (b : Bool) (m : BackMessage) → IfSome (goes a (record { answers = n; opened = o; failed = b }) (mark_of m)) (λ q. q.failed ≡ b || is_some (error_of m))
one_failed a n o b (back.ErrorResponse fields) = or_true b
one_failed a n o true m = tt
one_failed a n o false m = by (next_open a n o (mark_of m))
  where
    by : (x : Option Open) → IfSome (option_map (led_to a (record { answers = n; opened = o; failed = false })) x) (λ q. q.failed ≡ false)
    by None = tt
    by (Some w) = led_failed a n o w

errors_by : (a : What) (p : Option Place) (b : Bool) (ms : List BackMessage) → IfSome p (λ q. q.failed ≡ b) → IfSome (goes_by a p ms) (λ q. q.failed ≡ b || list_any (λ m. is_some (error_of m)) ms)
errors_by a None b [] h = tt
errors_by a (Some p) true [] h = h
errors_by a (Some p) false [] h = h
errors_by a None b (m ∷ ms) h = tt
errors_by a (Some p) b (m ∷ ms) h =
    subst (λ (x : Bool). IfSome (goes_by a (goes a p (mark_of m)) ms) (λ q. q.failed ≡ x)) (same b (is_some (error_of m)) (list_any (λ m. is_some (error_of m)) ms))
    (errors_by a (goes a p (mark_of m)) (b || is_some (error_of m)) ms
    (subst (λ (x : Bool). IfSome (goes a p (mark_of m)) (λ q. q.failed ≡ x || is_some (error_of m))) h (one_failed a p.answers p.opened p.failed m)))
  where
    same : (x y z : Bool) → (x || y) || z ≡ x || (y || z)
    same true y z = refl
    same false y z = refl

aside_no_error : (m : BackMessage) (a : Aside) → aside_of m ≡ Some a → is_some (error_of m) ≡ false
aside_no_error (back.ErrorResponse fields) a e = absurd cc
aside_no_error _ a e = refl

-- asides are no errors
kept_error : (m : BackMessage) (o : Option Aside) (ms : List BackMessage) (b : Bool) → aside_of m ≡ o → has_error ms ≡ b → has_error (kept_with o m ms) ≡ is_some (error_of m) || b
kept_error m None ms b e h = ap (λ (x : Bool). is_some (error_of m) || x) h
kept_error m (Some a) ms b e h = h ∙ ap (λ (x : Bool). x || b) (sym (aside_no_error m a e))

errors_kept : (ms : List BackMessage) → has_error (without_asides ms) ≡ has_error ms
errors_kept [] = refl
errors_kept (m ∷ ms) = kept_error m (aside_of m) (without_asides ms) (has_error ms) refl (errors_kept ms)

-- the startup has none
greets_one : (w : Welcome) (m : BackMessage) → IfSome (greet w m) (λ v. is_some (error_of m) ≡ false)
greets_one Fresh (back.ErrorResponse fields) = tt
greets_one Fresh back.AuthOk = refl
greets_one Fresh back.AuthCleartext = refl
greets_one Fresh (back.AuthMd5 salt) = refl
greets_one Fresh m = tt
greets_one Asked (back.ErrorResponse fields) = tt
greets_one Asked back.AuthOk = refl
greets_one Asked m = tt
greets_one Admitted (back.ErrorResponse fields) = tt
greets_one Admitted (back.KeyData process secret) = refl
greets_one Admitted m = tt

greets_first : (next : Option Welcome) (ms : List BackMessage) (v : Welcome) (b : Bool) → IfSome next (λ w. b ≡ false) → greet_from next ms ≡ Some v → b ≡ false
greets_first None [] v b h e = absurd cc
greets_first None (x ∷ ms) v b h e = absurd cc
greets_first (Some w) ms v b h e = h

greets_no_error : (w : Option Welcome) (ms : List BackMessage) (v : Welcome) → greet_from w ms ≡ Some v → has_error ms ≡ false
greets_no_error w [] v e = refl
greets_no_error None (m ∷ ms) v e = absurd cc
greets_no_error (Some w) (m ∷ ms) v e =
    ap (λ (b : Bool). b || has_error ms) (greets_first (greet w m) ms v (is_some (error_of m)) (greets_one w m) e) ∙ greets_no_error (greet w m) ms v e

-- ---- lists

last_one : (rs : List Request) (r : Request) (n : ℕ) → n ≡ length rs → slice_get (rs ++ r ∷ []) n ≡ Some r
last_one [] r n e = ap (slice_get (r ∷ [])) e
last_one (q ∷ rs) r n e = ap (slice_get (q ∷ (rs ++ r ∷ []))) e ∙ last_one rs r (length rs) refl

never_ends : (before : List BackMessage) (m : BackMessage) → [] ≡ before ++ m ∷ [] → ⊥
never_ends [] m e = cc
never_ends (x ∷ xs) m e = cc

greets_no_copy : (core before : List BackMessage) (head : CopyHead) (w : Welcome) → core ≡ before ++ back.CopyIn head ∷ [] → greet_all core ≡ Some w → ⊥
greets_no_copy core before head w e g = go (greet_all before) (sym (ap greet_all e ∙ greet_from-append (Some Fresh) before (back.CopyIn head ∷ [])) ∙ g)
  where
    go : (v : Option Welcome) → greet_from v (back.CopyIn head ∷ []) ≡ Some w → ⊥
    go None k = cc
    go (Some Fresh) k = cc
    go (Some Asked) k = cc
    go (Some Admitted) k = cc

-- ---- by where the client stands

pub record StandFacts (hs : List Happening) (stand : Stand) : Type 0 where
  pub new : (stand_phase stand ≡ phase.New) ↔ (IsStarted hs → ⊥)
  pub starting : (stand_phase stand ≡ phase.Starting) ↔ IsStarting hs
  pub ready : (stand_phase stand ≡ phase.Ready) ↔ IsReady hs
  pub copying : (stand_phase stand ≡ phase.CopyingIn) ↔ IsCopyAwaited hs
  pub loss : loss_at stand ≡ record { unsettled = slice_get (requests_in hs) (length (groups_in hs)); seen_error = has_error (rest_in hs) }

-- what is lost, part by part
lost_as : (r s : Option Request) (b c : Bool) → r ≡ s → b ≡ c → ◌≡◌ {A = Loss} (record { unsettled = r; seen_error = b }) (record { unsettled = s; seen_error = c })
lost_as r s b c e f = ap (λ (x : Option Request). as_loss x b) e ∙ ap (λ (x : Bool). as_loss s x) f
  where
    as_loss : Option Request → Bool → Loss
    as_loss x y = record { unsettled = x; seen_error = y }

module _ (hs : List Happening) where
  starting_facts : (w : Welcome) → Stands hs (Starting w) → StandFacts hs (Starting w)
  starting_facts w h = record {
    new = (λ k. cc, λ k. absurd (k h.0));
    starting = (λ k. (h.0, h.1.no_segment), λ k. refl);
    ready = (λ k. cc, λ k. absurd (omega (arith, ap length h.1.no_segment, k)));
    copying = (λ k. cc, λ k. absurd (greets_no_copy (without_asides (rest_in hs)) k.0.0 k.0.1 w k.0.2 h.1.greeted));
    loss = lost_as None _ false _ (rw (h.1.no_request) refl) (sym (sym (errors_kept (rest_in hs)) ∙ greets_no_error (Some Fresh) (without_asides (rest_in hs)) w h.1.greeted));
  }

  idle_facts : Stands hs Idle → StandFacts hs Idle
  idle_facts h =
      let len = EachFits-length (requests_in hs) h.1.answered.groups h.1.answered.fit in
      record {
        new = (λ k. cc, λ k. absurd (k h.0));
        starting = (λ k. cc, λ k. absurd (let f : [] ≡ h.1.answered.startup ∷ h.1.answered.groups = sym k.1 ∙ h.1.answered.cut in cc));
        ready = (λ k. ap length h.1.answered.cut ∙ ap suc len, λ k. refl);
        copying = (λ k. cc, λ k. absurd (never_ends k.0.0 (back.CopyIn k.0.1) (sym h.1.only_asides ∙ k.0.2)));
        loss = lost_as None _ false _ (sym (ap (λ (x : List (List BackMessage)). slice_get (requests_in hs) (length (drop 1 x))) h.1.answered.cut ∙ slice_get_past (requests_in hs) (length h.1.answered.groups) (omega (arith, len)))) (sym (sym (errors_kept (rest_in hs)) ∙ ap has_error h.1.only_asides));
      }

  module _ (request : Request) (place : Place) (answer : CopyAnswer) (h : Stands hs (Busy request place answer)) where
    len : length h.1.answered.groups ≡ length h.1.earlier
    len = EachFits-length h.1.earlier h.1.answered.groups h.1.answered.fit

    -- busy or copying in
    copying_now : (o : Open) (a : CopyAnswer) → busy_phase_of o a ≡ phase.CopyingIn → (o ≡ opened.CopyIn) × (a ≡ Awaited)
    copying_now opened.CopyIn Awaited k = (refl, refl)
    copying_now _ _ k = absurd cc

    busy_or_copying : (o : Open) (a : CopyAnswer) (p : Phase) → (p ≡ phase.Busy → ⊥) → (p ≡ phase.CopyingIn → ⊥) → busy_phase_of o a ≡ p → ⊥
    busy_or_copying opened.CopyIn Awaited p b c k = c (sym k)
    busy_or_copying _ _ p b c k = b (sym k)

    opened_in : (place.opened ≡ opened.CopyIn) × (answer ≡ Awaited) → IsCopyAwaited hs
    opened_in k = (open_ends (asked request) (without_asides (rest_in hs)) place h.1.placed k.0, sym h.1.answer_is ∙ k.1)

    closing : EndInCopyIn (rest_in hs) → copy_answer hs ≡ Awaited → busy_phase_of place.opened answer ≡ phase.CopyingIn
    closing ends a =
        ap (λ (o : Open). busy_phase_of o answer) (ends_open (asked request) (without_asides (rest_in hs)) ends.0 ends.1 place ends.2 h.1.placed) ∙ ap (busy_phase_of opened.CopyIn) (h.1.answer_is ∙ a)

    failed_is : place.failed ≡ has_error (without_asides (rest_in hs))
    failed_is = subst (λ (x : Option Place). IfSome x (λ q. q.failed ≡ has_error (without_asides (rest_in hs)))) h.1.placed (errors_by (asked request) (Some start) false (without_asides (rest_in hs)) refl)

    busy_facts : StandFacts hs (Busy request place answer)
    busy_facts = record {
      new = (λ k. absurd (busy_or_copying place.opened answer phase.New (λ x. cc) (λ x. cc) k), λ k. absurd (k h.0));
      starting = (λ k. absurd (busy_or_copying place.opened answer phase.Starting (λ x. cc) (λ x. cc) k), λ k. absurd (let f : [] ≡ h.1.answered.startup ∷ h.1.answered.groups = sym k.1 ∙ h.1.answered.cut in cc));
      ready = (λ k. absurd (busy_or_copying place.opened answer phase.Ready (λ x. cc) (λ x. cc) k), λ k. absurd (omega (arith, len, k, ap length h.1.answered.cut, ap length h.1.last, length-append h.1.earlier (request ∷ []))));
      copying = (λ k. opened_in (copying_now place.opened answer k), λ k. closing k.0 k.1);
      loss = lost_as (Some request) _ place.failed _
          (sym (ap (λ (x : List (List BackMessage)). slice_get (requests_in hs) (length (drop 1 x))) h.1.answered.cut ∙ (ap (λ (rs : List Request). slice_get rs (length h.1.answered.groups)) h.1.last ∙ last_one h.1.earlier request (length h.1.answered.groups) len)))
          (failed_is ∙ errors_kept (rest_in hs));
    }

-- ---- all

new_facts : StandFacts [] New
new_facts = record {
  new = (λ k s. s, λ k. refl);
  starting = (λ k. cc, λ k. absurd k.0);
  ready = (λ k. cc, λ k. absurd (omega (arith, k)));
  copying = (λ k. cc, λ k. absurd (never_ends k.0.0 (back.CopyIn k.0.1) k.0.2));
  loss = refl;
}

pub stand_facts : (hs : List Happening) (stand : Stand) → Stands hs stand → StandFacts hs stand
stand_facts hs New h = subst (λ (x : List Happening). StandFacts x New) (sym h) new_facts
stand_facts hs (Starting w) h = starting_facts hs w h
stand_facts hs Idle h = idle_facts hs h
stand_facts hs (Busy request place answer) h = busy_facts hs request place answer h
