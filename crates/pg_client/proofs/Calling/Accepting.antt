-- A call that is accepted goes to the end of the history.
use Rattle.std.proofs.Common.{◌≡◌, ℕ, List, [], ◌∷◌, ◌++◌, length, true, false, Option, Some, None, refl, sym, ap, subst, ◌∙◌, append_assoc, arith, length-append}
use Rattle.std.specs.Prelude.{◌↔◌}
use Rattle.std.specs.List.{flat_map}
use Rattle.std.proofs.lemmas.List.{append-nil, append_cancel_left}
use Rattle.pg_wire.specs.declared.session.Request.{Request}
use Rattle.pg_wire.specs.Backend.{backend}
use Rattle.pg_wire.specs.Direction.{spelling}
use Rattle.pg_response.specs.declared.place.Open.{Open}
use Rattle.std.proofs.lemmas.Bool.{false_from_ne_true}
use Rattle.pg_response.proofs.Lists.{all_both, front_splits}
use Rattle.pg_client.specs.declared.phase.Cause.{Cause}
use Rattle.pg_client.specs.declared.phase.Cause.TheVariants as cause
use Rattle.pg_client.specs.declared.phase.Phase.{Phase}
use Rattle.pg_client.specs.declared.phase.Phase.TheVariants as phase
use Rattle.pg_client.specs.declared.stand.CopyAnswer.{CopyAnswer}
use Rattle.pg_client.specs.declared.stand.CopyAnswer.TheVariants.{Awaited, Done, Refused}
use Rattle.pg_client.specs.declared.stand.Stand.{Stand}
use Rattle.pg_client.specs.declared.stand.Stand.TheVariants.{New, Starting, Idle, Busy}
use Rattle.pg_client.specs.declared.startup.Welcome.TheVariants.{Fresh}
use Rattle.pg_client.specs.declared.settings.Settings.{Settings}
use Rattle.pg_client.specs.declared.call.Call.{Call}
use Rattle.pg_client.specs.declared.call.Call.TheVariants as call
use Rattle.pg_client.specs.Session.{requests_in, Happening, Did, Came, HasRequest, IsCopyingIn, IsStarted, IsTerminated, MayBeCalled, IsAllowed, AreAllowed}
use Rattle.pg_client.specs.View.{View, phase_of, phase_with, stand_phase, busy_phase_of, IsOpenPhase}
use Rattle.pg_client.specs.Sent.{sent_at, sent_in, sent_by, IsSpelled, IsSpelledAt}
use Rattle.pg_client.specs.Closed.{Ends}
use Rattle.pg_client.specs.Client.{with_ends, happenings, with_call, Carries, History, Keeps, Accepts}
use Rattle.pg_client.specs.Private.Agreeing.{Agrees}
use Rattle.pg_client.specs.Keeping.{IsSilent}
use Rattle.pg_client.specs.Stand.{copy_answer_after, Stands}
use Rattle.pg_client.specs.Private.Calling.{with_answer, with_request}
use Rattle.pg_client.proofs.Standing.Agreeing.{answer_is_said}
use Rattle.pg_client.proofs.Standing.Facts.{open_stand}
use Rattle.pg_client.proofs.Standing.FactsHold.{stand_facts}
use Rattle.pg_client.proofs.Events.Happening.{expected_did, did_start, did_ask, did_copy, did_terminate}
use Rattle.pg_client.proofs.Standing.Said.{AnswerIsSaid, copying_in}
use Rattle.pg_client.proofs.Histories.Seen.{agreeing, seen}
use Rattle.pg_client.proofs.Histories.Merging.{merged-did, ends_within, places_more, ordered_more}

-- ---- one more call

-- the cause of a close that a call is
abbrev pub closing : Call → Option Cause
closing call.Terminate = Some cause.Terminated
closing _ = None

pub sent_more : (settings : Settings) (hs : List Happening) (h : Happening) → sent_in settings (hs ++ h ∷ []) ≡ sent_in settings hs ++ sent_at settings h
sent_more settings [] h = append-nil (sent_at settings h)
sent_more settings (x ∷ xs) h = ap (λ (bs : List ℕ). sent_at settings x ++ bs) (sent_more settings xs h) ∙ sym (append_assoc (sent_at settings x) (sent_in settings xs) (sent_at settings h))

pub not_terminated_more : (hs : List Happening) (h : Happening) → (IsTerminated hs → ⊥) → (IsTerminated (h ∷ []) → ⊥) → IsTerminated (hs ++ h ∷ []) → ⊥
not_terminated_more [] h none one t = one t
not_terminated_more (Did call.Terminate ∷ hs) h none one t = none tt
not_terminated_more (Did _ ∷ hs) h none one t = not_terminated_more hs h none one t
not_terminated_more (Came x ∷ hs) h none one t = not_terminated_more hs h none one t

pub terminated_within : (before later : List Happening) → IsTerminated (before ++ Did call.Terminate ∷ later)
terminated_within [] later = tt
terminated_within (Did call.Terminate ∷ hs) later = tt
terminated_within (Did _ ∷ hs) later = terminated_within hs later
terminated_within (Came x ∷ hs) later = terminated_within hs later

terminated_by : (hs : List Happening) (c : Call) → (IsTerminated hs → ⊥) → IsTerminated (hs ++ Did c ∷ []) ↔ (closing c ≡ Some cause.Terminated)
terminated_by hs call.Terminate none = (λ t. refl, λ e. terminated_within hs [])
terminated_by hs c none = (λ t. absurd (not_terminated_more hs (Did c) none (λ k. k) t), λ e. cc)

-- the calls stay allowed after a message, and after one more that is
abbrev Next : List Happening → Happening → Type 0
Next hs (Did c) = IsAllowed hs c
Next hs (Came m) = Unit {0}

pub allowed_more : (hs : List Happening) (h : Happening) → AreAllowed hs → Next hs h → AreAllowed (hs ++ h ∷ [])
allowed_more hs h all new before c later e =
    let s = front_splits hs h before (Did c) later e in
    at_split s.0 s.1 (append_cancel_left before (s.0 ++ h ∷ []) (Did c ∷ later) (sym (append_assoc before s.0 (h ∷ [])) ∙ ap (λ (x : List Happening). x ++ h ∷ []) (sym s.1) ∙ e))
  where
    this_one : (k : Happening) → Next hs k → k ≡ Did c → hs ≡ before → IsAllowed before c
    this_one (Came m) n is same = absurd cc
    this_one (Did d) n is same = subst (λ (b : List Happening). IsAllowed b c) same (subst (IsAllowed hs) (let y : Did d ≡ Did c = is in cc) n)

    at_split : (zs : List Happening) → hs ≡ before ++ zs → zs ++ h ∷ [] ≡ Did c ∷ later → IsAllowed before c
    at_split [] is k = this_one h new (let y : h ∷ [] ≡ Did c ∷ later = k in cc) (is ∙ append-nil before)
    at_split (z ∷ zs) is k = all before c zs (is ∙ ap (λ (x : Happening). before ++ x ∷ zs) (let y : z ∷ (zs ++ h ∷ []) ≡ Did c ∷ later = k in cc))

ends_open : (settings : Settings) (hs : List Happening) (rest kept : List ℕ) (c : Call) → Ends settings hs rest kept None → Ends settings (hs ++ Did c ∷ []) rest kept (closing c)
ends_open settings hs rest kept call.Terminate h = (h, (hs, refl))
ends_open settings hs rest kept _ h = h

-- where the phase is that of an open client, it is open
pub phase_open : (closed : Option Cause) (stand : Stand) → ((c : Cause) → phase_with closed stand ≡ phase.Closed c → ⊥) → closed ≡ None
phase_open None stand h = refl
phase_open (Some c) stand h = absurd (h c refl)

module _ {K : Type 0} (way : Keeps K) (silent : IsSilent way) where
  -- the call may be made wherever the client stands so, and it stands there then; nothing of it is kept
  pub record Follows (old : Stand) (c : Call) (new : Stand) : Type 0 where
    pub stands : (hs : List Happening) → Stands hs old → Stands (hs ++ Did c ∷ []) new
    pub in_place : (hs : List Happening) → AnswerIsSaid hs → Stands hs old → MayBeCalled hs c
    pub keeps : (k : K) (given : List way.Given) (hs : List Happening) → Stands hs old → way.tells k old given hs → way.tells k new given (hs ++ Did c ∷ [])

  -- the call is the last event then
  pub call_line : (h : History way.Given) (old : View K) (settings : Settings) (c : Call) → Agrees way.tells h old → happenings (with_call settings c h) ≡ happenings h ++ Did c ∷ []
  call_line h old settings c r =
      merged-did h.calls c (length h.fed) (with_ends 0 h.heard) (ends_within 0 h.heard (length h.fed) (omega (arith, ap length r.stream.whole, length-append (flat_map (spelling backend) h.heard) h.rest)))

  -- the client after a call
  abbrev called : View K → Stand → Option Cause → View K
  called old stand closed = record old { known = record old.known { stand = stand }; closed = closed }

  call_history : (old : View K) (stand : Stand) (c : Call) → old.closed ≡ None → Follows old.known.stand c stand → IsSpelled old.settings c
      → (h : History way.Given) → Agrees way.tells h old → Agrees way.tells (with_call old.settings c h) (called old stand (closing c))
  call_history old stand c none follows spelled h r =
      let hs : List Happening = happenings h in
      let line : happenings (with_call old.settings c h) ≡ hs ++ Did c ∷ [] = call_line h old old.settings c r in
      let here = open_stand r.led.was old.known.stand old.closed h.handed_back r.led.now r.lost none in
      let there : Stands hs old.known.stand = subst (Stands hs) (sym here) r.led.stands in
      let now = follows.stands hs there in
      let not_yet : IsTerminated hs → ⊥ = (λ t. let e : old.closed ≡ Some cause.Terminated = r.terminated.0 t in absurd cc) in
      let kept : way.tells old.known.keeper old.known.stand h.given hs = subst (λ (s : Stand). way.tells old.known.keeper s h.given hs) (sym here) r.led.kept in
      let lasting : h.handed_back ≡ false = false_from_ne_true h.handed_back (λ yes. r.lost yes none) in
      record {
        stream = r.stream;
        places = places_more h.calls c (length h.fed) r.places;
        ordered = ordered_more h.calls c (length h.fed) r.ordered r.places;
        happened = record {
          allowed = rw line (allowed_more hs (Did c) r.happened.allowed (record { in_place = follows.in_place hs (answer_is_said hs r.happened.expected.after r.happened.allowed) there; not_terminated = not_yet }));
          expected = rw line (expected_did old.settings.password hs c stand r.happened.expected now);
          sent_is = rw line (ap (λ (bs : List ℕ). bs ++ sent_by old.settings c) r.happened.sent_is ∙ sym (sent_more old.settings hs (Did c)));
          spelled = rw line (all_both (IsSpelledAt old.settings) hs (Did c ∷ []) r.happened.spelled (spelled, tt));
        };
        led = record {
          was = stand;
          stands = rw line now;
          now = rw lasting refl;
          kept = rw line (follows.keeps old.known.keeper h.given hs there kept);
          knows = r.led.knows;
        };
        ends = rw line (ends_open old.settings hs h.rest old.kept c (subst (Ends old.settings hs h.rest old.kept) none r.ends));
        terminated = rw line (terminated_by hs c not_yet);
        lost = λ yes. absurd (let k : true ≡ false = sym yes ∙ lasting in cc);
      }

  pub call_carries : (old : View K) (stand : Stand) (c : Call) → old.closed ≡ None → Follows old.known.stand c stand → IsSpelled old.settings c → Carries way old (called old stand (closing c)) (with_call old.settings c)
  call_carries old stand c none follows spelled unread h r = record {
    first = r.first;
    kept = r.kept;
    history = seen way silent.agrees_as (with_call old.settings c h) (called (record old { kept = r.first }) stand (closing c)) (call_history (record old { kept = r.first }) stand c none follows spelled h (agreeing way silent.agrees_as h (record old { kept = r.first }) r.history));
  }

  -- ---- where each call may be made

  start_follows : (stand : Stand) → stand_phase stand ≡ phase.New → Follows stand call.Start (Starting Fresh)
  start_follows New e = record {
    stands = λ hs h. did_start hs h;
    in_place = λ hs same h started. subst IsStarted h started;
    keeps = λ k given hs h t. subst (λ (x : List Happening). way.tells k (Starting Fresh) given (x ++ Did call.Start ∷ [])) (sym h) (silent.started k given (subst (way.tells k New given) h t));
  }
  start_follows _ e = absurd (grind arith)

  ask_follows : (stand : Stand) (request : Request) → stand_phase stand ≡ phase.Ready → Follows stand (call.Request request) (with_request stand request)
  ask_follows Idle request e = record {
    stands = λ hs h. did_ask hs request h;
    in_place = λ hs same h. (h.0, (stand_facts hs Idle h).ready.0 refl);
    keeps = λ k given hs h t. silent.asked k given hs request h t;
  }
  ask_follows _ request e = absurd (grind arith)

  awaited_one : (o : Open) (a : CopyAnswer) → busy_phase_of o a ≡ phase.CopyingIn → a ≡ Awaited
  awaited_one o a k = grind arith

  -- a call for the copy from the client that is open
  copy_follows : (stand : Stand) (c : Call) (said : CopyAnswer) → stand_phase stand ≡ phase.CopyingIn → requests_in (Did c ∷ []) ≡ [] → ((hs : List Happening) → HasRequest hs × IsCopyingIn hs → MayBeCalled hs c) → ((x : CopyAnswer) → x ≡ Awaited → said ≡ copy_answer_after x (Did c)) → Follows stand c (with_answer stand said)
  copy_follows (Busy request place answer) c said e none may is = record {
    stands = λ hs h. did_copy hs c request place answer said none (λ x same. is x (same ∙ awaited_one place.opened answer e)) h;
    in_place = λ hs same h. may hs (λ nothing. omega (arith, ap length nothing, ap length h.1.last, length-append h.1.earlier (request ∷ [])), copying_in hs same ((stand_facts hs (Busy request place answer) h).copying.0 e));
    keeps = λ k given hs h t. silent.called k given hs c none (Busy request place answer) (Busy request place said) h (silent.answered k given hs request place answer said t);
  }
  copy_follows _ c said e none may is = absurd cc

  -- a chunk leaves all as it is
  chunk_follows : (stand : Stand) (bytes : List ℕ) → stand_phase stand ≡ phase.CopyingIn → Follows stand (call.Chunk bytes) stand
  chunk_follows (Busy request place answer) bytes e = copy_follows (Busy request place answer) (call.Chunk bytes) answer e refl (λ hs h. h) (λ x is. awaited_one place.opened answer e ∙ sym is)
  chunk_follows _ bytes e = absurd cc

  terminate_follows : (stand : Stand) → IsOpenPhase (stand_phase stand) → Follows stand call.Terminate stand
  terminate_follows New o = absurd o
  terminate_follows stand o = record { stands = λ hs h. did_terminate hs stand h.0 h; in_place = λ hs same h. h.0; keeps = λ k given hs h t. silent.called k given hs call.Terminate refl stand stand h t }

  -- ---- the calls, by the fields of a value that was opened

  module _ (v old : View K) (before after : List ℕ) (same : v ≡ old) where
    -- by where the value that was opened stands
    accepted : (c : Call) (p : Phase) (stand : Stand) → closing c ≡ None → ((c : Cause) → p ≡ phase.Closed c → ⊥) → phase_of old ≡ p → (stand_phase v.known.stand ≡ p → Follows v.known.stand c stand)
        → IsSpelled v.settings c → after ≡ before ++ sent_by v.settings c → Accepts way c old (called v stand v.closed) before after
    accepted c p stand goes_on is_open e follows spelled put =
        -- the phase of an open client is that of where it stands
        let none : v.closed ≡ None = phase_open v.closed v.known.stand (λ c k. is_open c (sym (ap phase_of same ∙ e) ∙ k)) in
        let there : stand_phase v.known.stand ≡ p = subst (λ (o : Option Cause). phase_with o v.known.stand ≡ p) none (ap phase_of same ∙ e) in
        subst (λ (x : View K). Accepts way c x (called v stand v.closed) before after) same (record {
          settings = refl;
          others = refl;
          put = put;
          history = subst (λ (o : Option Cause). Carries way v (called v stand o) (with_call v.settings c)) (goes_on ∙ sym none) (call_carries v stand c none (follows there) spelled);
        })

    pub start_accepted : phase_of old ≡ phase.New → IsSpelled v.settings call.Start → after ≡ before ++ sent_by v.settings call.Start → Accepts way call.Start old (called v (Starting Fresh) v.closed) before after
    start_accepted e = accepted call.Start phase.New (Starting Fresh) refl (λ c k. cc) e (start_follows v.known.stand)

    pub request_accepted : (request : Request) → phase_of old ≡ phase.Ready → IsSpelled v.settings (call.Request request) → after ≡ before ++ sent_by v.settings (call.Request request) → Accepts way (call.Request request) old (called v (with_request v.known.stand request) v.closed) before after
    request_accepted request e = accepted (call.Request request) phase.Ready (with_request v.known.stand request) refl (λ c k. cc) e (ask_follows v.known.stand request)

    pub chunk_accepted : (bytes : List ℕ) → phase_of old ≡ phase.CopyingIn → IsSpelled v.settings (call.Chunk bytes) → after ≡ before ++ sent_by v.settings (call.Chunk bytes) → Accepts way (call.Chunk bytes) old v before after
    chunk_accepted bytes e = accepted (call.Chunk bytes) phase.CopyingIn v.known.stand refl (λ c k. cc) e (λ there. chunk_follows v.known.stand bytes there)

    pub copy_done_accepted : phase_of old ≡ phase.CopyingIn → IsSpelled v.settings call.Done → after ≡ before ++ sent_by v.settings call.Done → Accepts way call.Done old (called v (with_answer v.known.stand Done) v.closed) before after
    copy_done_accepted e = accepted call.Done phase.CopyingIn (with_answer v.known.stand Done) refl (λ c k. cc) e (λ there. copy_follows v.known.stand call.Done Done there refl (λ hs h. h) (λ x is. refl))

    pub copy_fail_accepted : (reason : List ℕ) → phase_of old ≡ phase.CopyingIn → IsSpelled v.settings (call.Fail reason) → after ≡ before ++ sent_by v.settings (call.Fail reason) → Accepts way (call.Fail reason) old (called v (with_answer v.known.stand Refused) v.closed) before after
    copy_fail_accepted reason e = accepted (call.Fail reason) phase.CopyingIn (with_answer v.known.stand Refused) refl (λ c k. cc) e (λ there. copy_follows v.known.stand (call.Fail reason) Refused there refl (λ hs h. h) (λ x is. refl))

    pub terminate_accepted : IsOpenPhase (phase_of old) → IsSpelled v.settings call.Terminate → after ≡ before ++ sent_by v.settings call.Terminate → Accepts way call.Terminate old (record v { closed = Some cause.Terminated }) before after
    terminate_accepted o spelled put =
        let here : IsOpenPhase (phase_of v) = subst (λ (x : View K). IsOpenPhase (phase_of x)) (sym same) o in
        let none : v.closed ≡ None = phase_open v.closed v.known.stand (λ c k. subst IsOpenPhase k here) in
        let there : IsOpenPhase (stand_phase v.known.stand) = subst (λ (x : Option Cause). IsOpenPhase (phase_with x v.known.stand)) none here in
        subst (λ (x : View K). Accepts way call.Terminate x (record v { closed = Some cause.Terminated }) before after) same (record {
          settings = refl;
          others = refl;
          put = put;
          history = call_carries v v.known.stand call.Terminate none (terminate_follows v.known.stand there) spelled;
        })
