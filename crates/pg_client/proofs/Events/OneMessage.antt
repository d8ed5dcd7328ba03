-- One more message: it is heard exactly if it is expected, and the client stands where it should afterwards.
use Rattle.std.proofs.Common.{◌≡◌, ℕ, suc, ◌≤◌, List, [], ◌∷◌, ◌++◌, length, Bool, true, false, Option, Some, None, refl, sym, ap, subst, ◌∙◌, inl, inr, arith, length-append}
use Rattle.std.specs.Prelude.{cond, IsSome, ◌⊎◌}
use Rattle.std.specs.Option.{option_map}
use Rattle.std.proofs.lemmas.List.{append-nil}
use Rattle.pg_wire.specs.message.BackMessage.{BackMessage}
use Rattle.pg_wire.specs.message.BackMessage.TheVariants.{Ready, CommandComplete}
use Rattle.pg_wire.specs.message.BackMessage.TheVariants as back
use Rattle.pg_wire.specs.value.Status.{Status}
use Rattle.pg_wire.specs.declared.session.Aside.{Aside}
use Rattle.pg_wire.specs.declared.session.Outcome.{Outcome}
use Rattle.pg_wire.specs.declared.session.Request.{Request}
use Rattle.pg_wire.specs.Segment.{aside_of, without_asides, asked, Fits, Begins, Segments, segments, status_of, put_before}
use Rattle.pg_response.specs.declared.mark.Mark.TheVariants as mark
use Rattle.pg_response.specs.declared.place.Open.{Open}
use Rattle.pg_response.specs.declared.place.Open.TheVariants as opened
use Rattle.pg_response.specs.declared.place.Place.{Place}
use Rattle.pg_response.specs.Place.{goes, goes_by, mark_of, may_end, goes_all, start}
use Rattle.pg_response.proofs.Copies.{ends_open, open_ends}
use Rattle.pg_response.proofs.Holding.{goes_by-append, holds_after}
use Rattle.pg_response.proofs.Lists.{kept_with, snoc_front, without_asides-append}
use Rattle.pg_response.proofs.Segments.{begins_go, fits_go, holds_fit}
use Rattle.pg_client.specs.declared.stand.CopyAnswer.{CopyAnswer}
use Rattle.pg_client.specs.declared.stand.CopyAnswer.TheVariants.{Awaited, Done, Refused}
use Rattle.pg_client.specs.declared.startup.Welcome.{Welcome}
use Rattle.pg_client.specs.declared.startup.Welcome.TheVariants.{Fresh, Asked, Admitted}
use Rattle.pg_client.specs.declared.stand.Stand.{Stand}
use Rattle.pg_client.specs.declared.stand.Stand.TheVariants.{New, Starting, Idle, Busy}
use Rattle.pg_client.specs.Startup.{greet, greet_from, greet_all}
use Rattle.pg_client.specs.Stand.{answer_after, copy_answer_after, EachFits, ends_at, hear_by, is_too_early, starting_at, StandsStarting, StandsIdle, StandsBusy, StandsBy}
use Rattle.pg_client.specs.Session.{Came, IsStartup, FitAll, IsSession}
use Rattle.pg_client.proofs.Standing.Said.{MayStand}
use Rattle.pg_client.proofs.Events.Greeting.{BeginsStartup, greet_from-append, startup_admitted, admitted_startup, begins_greeted}

-- ---- one more message at the end of the segments

abbrev pub put_after : Option Status → BackMessage → List (List BackMessage) → List BackMessage → Segments
put_after (Some status) m whole rest = record { whole = whole ++ (rest ++ m ∷ []) ∷ []; rest = [] }
put_after None m whole rest = record { whole = whole; rest = rest ++ m ∷ [] }

first_one : (o : Option Status) (m : BackMessage) → put_before o m [] [] ≡ put_after o m [] []
first_one (Some status) m = refl
first_one None m = refl

both_ends : (o p : Option Status) (x m : BackMessage) (whole : List (List BackMessage)) (rest : List BackMessage) → put_before o x (put_after p m whole rest).whole (put_after p m whole rest).rest ≡ put_after p m (put_before o x whole rest).whole (put_before o x whole rest).rest
both_ends (Some s) (Some t) x m whole rest = refl
both_ends (Some s) None x m whole rest = refl
both_ends None (Some t) x m [] rest = refl
both_ends None None x m [] rest = refl
both_ends None (Some t) x m (w ∷ ws) rest = refl
both_ends None None x m (w ∷ ws) rest = refl

pub segments-more : (ms : List BackMessage) (m : BackMessage) → segments (ms ++ m ∷ []) ≡ put_after (status_of m) m (segments ms).whole (segments ms).rest
segments-more [] m = first_one (status_of m) m
segments-more (x ∷ ms) m = ap (λ (s : Segments). put_before (status_of x) x s.whole s.rest) (segments-more ms m) ∙ both_ends (status_of x) (status_of m) x m (segments ms).whole (segments ms).rest

-- ---- kinds of messages

pub aside_ends_nothing : (m : BackMessage) (a : Aside) → aside_of m ≡ Some a → status_of m ≡ None
aside_ends_nothing (Ready status) a e = absurd cc
aside_ends_nothing _ a e = refl

aside_says_nothing : (m : BackMessage) (a : Aside) (said : CopyAnswer) → aside_of m ≡ Some a → copy_answer_after said (Came m) ≡ said
aside_says_nothing (back.CopyIn head) a said e = absurd cc
aside_says_nothing _ a said e = refl

aside_completes_nothing : (m : BackMessage) (a : Aside) (tag : List ℕ) → aside_of m ≡ Some a → m ≡ CommandComplete tag → ⊥
aside_completes_nothing m a tag e k =
    let f : aside_of (CommandComplete tag) ≡ Some a = subst (λ (x : BackMessage). aside_of x ≡ Some a) k e in
    absurd cc

pub is_ready : (m : BackMessage) (status : Status) → status_of m ≡ Some status → m ≡ Ready status
is_ready (Ready s) status e = ap Ready (let k : Some s ≡ Some status = e in cc)
is_ready _ status e = absurd cc

pub not_ready : (m : BackMessage) → status_of m ≡ None → (rest body : List BackMessage) (status : Status) → rest ++ m ∷ [] ≡ body ++ Ready status ∷ [] → ⊥
not_ready m none rest body status e =
    let s = snoc_front rest body m (Ready status) e in
    let f : status_of (Ready status) ≡ None = subst (λ (x : BackMessage). status_of x ≡ None) s.1 none in
    absurd cc

pub left_out : (rest : List BackMessage) (m : BackMessage) (a : Aside) → aside_of m ≡ Some a → without_asides (rest ++ m ∷ []) ≡ without_asides rest
left_out rest m a e = without_asides-append rest (m ∷ []) ∙ ap (λ (o : Option Aside). without_asides rest ++ kept_with o m []) e ∙ append-nil (without_asides rest)

pub kept : (rest : List BackMessage) (m : BackMessage) → aside_of m ≡ None → without_asides (rest ++ m ∷ []) ≡ without_asides rest ++ m ∷ []
kept rest m e = without_asides-append rest (m ∷ []) ∙ ap (λ (o : Option Aside). without_asides rest ++ kept_with o m []) e

-- ---- lists of segments

pub EachFits-length : (rs : List Request) (ss : List (List BackMessage)) → EachFits rs ss → length ss ≡ length rs
EachFits-length [] [] h = refl
EachFits-length (r ∷ rs) (s ∷ ss) h = ap suc (EachFits-length rs ss h.1)
EachFits-length _ _ h = absurd h

EachFits-more : (rs : List Request) (ss : List (List BackMessage)) (r : Request) (s : List BackMessage) (o : Outcome) → EachFits rs ss → Fits r s o → EachFits (rs ++ r ∷ []) (ss ++ s ∷ [])
EachFits-more [] [] r s o h f = ((o, f), tt)
EachFits-more (q ∷ rs) (u ∷ ss) r s o h f = (h.0, EachFits-more rs ss r s o h.1 f)
EachFits-more _ _ r s o h f = absurd h

pub all_fit : (rs : List Request) (ss : List (List BackMessage)) (rest : List BackMessage) → EachFits rs ss → without_asides rest ≡ [] → FitAll rs ss rest
all_fit [] [] rest h e = e
all_fit (r ∷ rs) (s ∷ ss) rest h e = (h.0, all_fit rs ss rest h.1 e)
all_fit _ _ rest h e = absurd h

pub fit_and_begin : (rs : List Request) (ss : List (List BackMessage)) (r : Request) (rest : List BackMessage) → EachFits rs ss → Begins r rest → FitAll (rs ++ r ∷ []) ss rest
fit_and_begin [] [] r rest h b = b
fit_and_begin (q ∷ rs) (s ∷ ss) r rest h b = (h.0, fit_and_begin rs ss r rest h.1 b)
fit_and_begin _ _ r rest h b = absurd h

last_begins : (rs : List Request) (ss : List (List BackMessage)) (r : Request) (rest : List BackMessage) → EachFits rs ss → FitAll (rs ++ r ∷ []) ss rest → Begins r rest
last_begins [] [] r rest h f = f
last_begins (q ∷ rs) (s ∷ ss) r rest h f = last_begins rs ss r rest h.1 f.1
last_begins _ _ r rest h f = absurd h

last_fits : (rs : List Request) (ss : List (List BackMessage)) (r : Request) (s rest : List BackMessage) → EachFits rs ss → FitAll (rs ++ r ∷ []) (ss ++ s ∷ []) rest → (outcome : Outcome) × Fits r s outcome
last_fits [] [] r s rest h f = f.0
last_fits (q ∷ rs) (u ∷ ss) r s rest h f = last_fits rs ss r s rest h.1 f.1
last_fits _ _ r s rest h f = absurd h

-- ---- the end of a copy in comes in its time, or too early

early : (o : Open) (answer : CopyAnswer) (m : BackMessage) → is_too_early o answer (mark_of m) ≡ true → (tag : List ℕ) × (m ≡ CommandComplete tag) × (o ≡ opened.CopyIn) × (answer ≡ Done → ⊥)
early opened.CopyIn Awaited (CommandComplete tag) e = (tag, refl, refl, λ k. cc)
early opened.CopyIn Refused (CommandComplete tag) e = (tag, refl, refl, λ k. cc)
early o answer m e = absurd cc

in_time : (o : Open) (answer : CopyAnswer) (m : BackMessage) → is_too_early o answer (mark_of m) ≡ false → (tag : List ℕ) → m ≡ CommandComplete tag → o ≡ opened.CopyIn → answer ≡ Done
in_time o answer m e tag is copying = by answer (subst (λ (x : Open). is_too_early x answer mark.CommandComplete ≡ false) copying (subst (λ (x : BackMessage). is_too_early o answer (mark_of x) ≡ false) is e))
  where
    by : (x : CopyAnswer) → is_too_early opened.CopyIn x mark.CommandComplete ≡ false → x ≡ Done
    by Done k = refl
    by Awaited k = absurd cc
    by Refused k = absurd cc

-- ---- the verdict on one more message

module _ (requests : List Request) (whole : List (List BackMessage)) (rest : List BackMessage) (said : CopyAnswer) (m : BackMessage) where
  -- where the client stands, by the segments with the message at their end
  abbrev pub StandsThen : Option Status → Stand → Type 0
  StandsThen p stand = StandsBy requests (put_after p m whole rest).whole (put_after p m whole rest).rest (copy_answer_after said (Came m)) stand

  abbrev pub Verdict : Option Status → Option Stand → Type 0
  Verdict p (Some stand) = StandsThen p stand × MayStand requests whole rest said m
  Verdict p None = IsSession requests (put_after p m whole rest).whole (put_after p m whole rest).rest → MayStand requests whole rest said m → ⊥

  may_as_aside : (a : Aside) → aside_of m ≡ Some a → MayStand requests whole rest said m
  may_as_aside a e = record {
    asked_for = inl (rw e refl);
    copy_ended = λ tag k ends. absurd (aside_completes_nothing m a tag e k);
  }

  -- an aside never ends a segment
  no_status : (a : Aside) (status : Status) → aside_of m ≡ Some a → status_of m ≡ Some status → ⊥
  no_status a status e k = let n = aside_ends_nothing m a e in absurd cc

  no_end : (tag : List ℕ) (status : Status) → status_of m ≡ Some status → m ≡ CommandComplete tag → ⊥
  no_end tag status k e = (let f : status_of (CommandComplete tag) ≡ Some status = subst (λ (x : BackMessage). status_of x ≡ Some status) e k in cc)

  -- ---- in the startup

  first_whole : (segment : List BackMessage) → whole ≡ [] → whole ++ segment ∷ [] ≡ segment ∷ []
  first_whole segment e = ap (λ (x : List (List BackMessage)). x ++ segment ∷ []) e

  no_copy_in_startup : (w : Welcome) (tag : List ℕ) → greet w (CommandComplete tag) ≡ None
  no_copy_in_startup Fresh tag = refl
  no_copy_in_startup Asked tag = refl
  no_copy_in_startup Admitted tag = refl

  module _ (w : Welcome) (h : StandsStarting requests whole rest w) where
    starting_aside : (a : Aside) (p : Option Status) → aside_of m ≡ Some a → status_of m ≡ p → Verdict p (Some (Starting w))
    starting_aside a (Some status) e k = absurd (no_status a status e k)
    starting_aside a None e k = (record { no_request = h.no_request; no_segment = h.no_segment; greeted = ap greet_all (left_out rest m a e) ∙ h.greeted }, may_as_aside a e)

    starting_may : ((tag : List ℕ) → m ≡ CommandComplete tag → ⊥) → MayStand requests whole rest said m
    starting_may never = record {
      asked_for = inr (rw (h.no_segment, h.no_request) (omega arith));
      copy_ended = λ tag k ends. absurd (never tag k);
    }

    ready_admitted : (status : Status) → status_of m ≡ Some status → IsSession requests (whole ++ (rest ++ m ∷ []) ∷ []) [] → greet_all (without_asides rest) ≡ Some Admitted
    ready_admitted status k session =
        let s : IsSession requests ((rest ++ m ∷ []) ∷ []) [] = subst (λ (x : List (List BackMessage)). IsSession requests x []) (first_whole (rest ++ m ∷ []) h.no_segment) session in
        startup_admitted rest status (subst (λ (x : BackMessage). IsStartup (rest ++ x ∷ [])) (is_ready m status k) s.0)

    greeted_more : aside_of m ≡ None → greet_all (without_asides (rest ++ m ∷ [])) ≡ greet w m
    greeted_more e = ap greet_all (kept rest m e) ∙ (greet_from-append (Some Fresh) (without_asides rest) (m ∷ []) ∙ ap (λ (x : Option Welcome). greet_from x (m ∷ [])) h.greeted)

    starting_other : (next : Option Welcome) → aside_of m ≡ None → status_of m ≡ None → greet w m ≡ next → Verdict None (starting_at next)
    starting_other (Some v) e k g = (
      record { no_request = h.no_request; no_segment = h.no_segment; greeted = greeted_more e ∙ g },
      starting_may (λ tag c. let f : greet w (CommandComplete tag) ≡ Some v = subst (λ (x : BackMessage). greet w x ≡ Some v) c g in let n = no_copy_in_startup w tag in absurd cc),
    )
    starting_other None e k g = λ session may.
        let s : BeginsStartup (rest ++ m ∷ []) = subst (λ (x : List (List BackMessage)). IsSession requests x (rest ++ m ∷ [])) h.no_segment session in
        begins_greeted (rest ++ m ∷ []) s (not_ready m k rest) (greeted_more e ∙ g)

  starting_ready : (w : Welcome) (status : Status) → StandsStarting requests whole rest w → status_of m ≡ Some status → Verdict (Some status) (ends_at (Starting w))
  starting_ready Admitted status h k = (
    record {
      answered = record {
        startup = rest ++ m ∷ [];
        groups = [];
        cut = first_whole (rest ++ m ∷ []) h.no_segment;
        welcomed = subst (λ (x : BackMessage). IsStartup (rest ++ x ∷ [])) (sym (is_ready m status k)) (admitted_startup rest status h.greeted);
        fit = rw h.no_request tt;
      };
      only_asides = refl;
    },
    starting_may Admitted h (λ tag e. no_end tag status k e),
  )
  starting_ready Fresh status h k = λ session may. let admitted = ready_admitted Fresh h status k session in let e = h.greeted in absurd cc
  starting_ready Asked status h k = λ session may. let admitted = ready_admitted Asked h status k session in let e = h.greeted in absurd cc

  -- ---- while no request is outstanding

  idle_aside : (a : Aside) (p : Option Status) → StandsIdle requests whole rest → aside_of m ≡ Some a → status_of m ≡ p → Verdict p (Some Idle)
  idle_aside a (Some status) h e k = absurd (no_status a status e k)
  idle_aside a None h e k = (record { answered = h.answered; only_asides = left_out rest m a e ∙ h.only_asides }, may_as_aside a e)

  idle_other : (p : Option Status) → StandsIdle requests whole rest → aside_of m ≡ None → Verdict p None
  idle_other p h e session may = go may.asked_for
    where
      go : IsSome (aside_of m) ⊎ (length whole ≤ length requests) → ⊥
      go (inl some) = absurd (let k : IsSome (aside_of m) = some in let f : IsSome {T = Aside} None = subst (λ (o : Option Aside). IsSome o) e k in cc)
      go (inr le) = absurd (omega (arith, EachFits-length requests h.answered.groups h.answered.fit, ap length h.answered.cut, le))

  -- ---- while a request is outstanding

  module _ (request : Request) (place : Place) (answer : CopyAnswer) (h : StandsBusy requests whole rest said request place answer) where
    busy_asked_for : length whole ≤ length requests
    busy_asked_for = omega (arith, EachFits-length h.earlier h.answered.groups h.answered.fit, ap length h.answered.cut, ap length h.last, length-append h.earlier (request ∷ []))

    busy_aside : (a : Aside) (p : Option Status) → aside_of m ≡ Some a → status_of m ≡ p → Verdict p (Some (Busy request place answer))
    busy_aside a (Some status) e k = absurd (no_status a status e k)
    busy_aside a None e k = (
      record {
        earlier = h.earlier;
        last = h.last;
        answered = h.answered;
        placed = ap (goes_all (asked request)) (left_out rest m a e) ∙ h.placed;
        answer_is = h.answer_is ∙ sym (aside_says_nothing m a said e);
      },
      may_as_aside a e,
    )

    busy_ready : (status : Status) (may : Bool) → status_of m ≡ Some status → may_end (asked request) place ≡ may → Verdict (Some status) (cond may (Some Idle) None)
    busy_ready status true k e =
        let held = holds_after (asked request) (without_asides rest) place h.placed in
        let fits = holds_fit request rest status place held.0 held.1 e in (
          record {
            answered = record {
              startup = h.answered.startup;
              groups = h.answered.groups ++ (rest ++ m ∷ []) ∷ [];
              cut = ap (λ (x : List (List BackMessage)). x ++ (rest ++ m ∷ []) ∷ []) h.answered.cut;
              welcomed = h.answered.welcomed;
              fit = subst (λ (x : List Request). EachFits x (h.answered.groups ++ (rest ++ m ∷ []) ∷ [])) (sym h.last)
                  (EachFits-more h.earlier h.answered.groups request (rest ++ m ∷ []) fits.0 h.answered.fit (subst (λ (x : BackMessage). Fits request (rest ++ x ∷ []) fits.0) (sym (is_ready m status k)) fits.1));
            };
            only_asides = refl;
          },
          record { asked_for = inr busy_asked_for; copy_ended = λ tag c ends. absurd (no_end tag status k c) },
        )
    busy_ready status false k e = λ session may.
        let s : IsSession (h.earlier ++ request ∷ []) (h.answered.startup ∷ (h.answered.groups ++ (rest ++ m ∷ []) ∷ [])) [] =
        subst (λ (x : List Request). IsSession x (h.answered.startup ∷ (h.answered.groups ++ (rest ++ m ∷ []) ∷ [])) []) h.last
        (subst (λ (x : List (List BackMessage)). IsSession requests (x ++ (rest ++ m ∷ []) ∷ []) []) h.answered.cut session) in
        let f = last_fits h.earlier h.answered.groups request (rest ++ m ∷ []) [] h.answered.fit s.1 in
        let g = fits_go request rest status f.0 (subst (λ (x : BackMessage). Fits request (rest ++ x ∷ []) f.0) (is_ready m status k) f.1) in
        let same : place ≡ g.0 = (let k : Some place ≡ Some g.0 = sym h.placed ∙ g.1 in cc) in
        let yes : may_end (asked request) place ≡ true = ap (may_end (asked request)) same ∙ g.2 in
        absurd cc

    placed_more : aside_of m ≡ None → goes_all (asked request) (without_asides (rest ++ m ∷ [])) ≡ goes (asked request) place (mark_of m)
    placed_more e = ap (goes_all (asked request)) (kept rest m e) ∙ (goes_by-append (asked request) (Some start) (without_asides rest) (m ∷ []) ∙ (ap (λ (x : Option Place). goes_by (asked request) x (m ∷ [])) h.placed ∙ one (goes (asked request) place (mark_of m))))
      where
        one : (x : Option Place) → goes_by (asked request) x [] ≡ x
        one x = refl

    busy_passed : (now : Option Place) → aside_of m ≡ None → status_of m ≡ None → goes (asked request) place (mark_of m) ≡ now → is_too_early place.opened answer (mark_of m) ≡ false
        → Verdict None (option_map (λ p. Busy request p (answer_after answer (mark_of m))) now)
    busy_passed (Some q) e k r soon = (
      record {
        earlier = h.earlier;
        last = h.last;
        answered = h.answered;
        placed = placed_more e ∙ r;
        answer_is = ap (λ (x : CopyAnswer). answer_after x (mark_of m)) h.answer_is;
      },
      record {
        asked_for = inr busy_asked_for;
        copy_ended = λ tag c ends. sym h.answer_is ∙ in_time place.opened answer m soon tag c (ends_open (asked request) (without_asides rest) ends.0 ends.1 place ends.2 h.placed);
      },
    )
    busy_passed None e k r soon = λ session may.
        let s : IsSession (h.earlier ++ request ∷ []) (h.answered.startup ∷ h.answered.groups) (rest ++ m ∷ []) =
        subst (λ (x : List Request). IsSession x (h.answered.startup ∷ h.answered.groups) (rest ++ m ∷ [])) h.last
        (subst (λ (x : List (List BackMessage)). IsSession requests x (rest ++ m ∷ [])) h.answered.cut session) in
        let g = begins_go request (rest ++ m ∷ []) (last_begins h.earlier h.answered.groups request (rest ++ m ∷ []) h.answered.fit s.1) (not_ready m k rest) in
        let none : None ≡ Some g.0 = sym (placed_more e ∙ r) ∙ g.1 in
        absurd cc

    busy_too_early : is_too_early place.opened answer (mark_of m) ≡ true → Verdict None None
    busy_too_early soon session may =
        let k = early place.opened answer m soon in
        let ends = open_ends (asked request) (without_asides rest) place h.placed k.2 in
        k.3 (h.answer_is ∙ may.copy_ended k.0 k.1 ends)

    busy_other : (soon : Bool) → aside_of m ≡ None → status_of m ≡ None → is_too_early place.opened answer (mark_of m) ≡ soon
        → Verdict None (option_map (λ p. Busy request p (answer_after answer (mark_of m))) (cond soon None (goes (asked request) place (mark_of m))))
    busy_other true e k soon = busy_too_early soon
    busy_other false e k soon = busy_passed (goes (asked request) place (mark_of m)) e k refl soon

  -- ---- wherever it stands

  by_kind : (stand : Stand) (o : Option Aside) (p : Option Status) → StandsBy requests whole rest said stand → aside_of m ≡ o → status_of m ≡ p → Verdict p (hear_by stand o p m)
  by_kind New o p h e k = absurd h
  by_kind (Starting w) (Some a) p h e k = starting_aside w h a p e k
  by_kind (Starting w) None (Some status) h e k = starting_ready w status h k
  by_kind (Starting w) None None h e k = starting_other w h (greet w m) e k refl
  by_kind Idle (Some a) p h e k = idle_aside a p h e k
  by_kind Idle None (Some status) h e k = idle_other (Some status) h e
  by_kind Idle None None h e k = idle_other None h e
  by_kind (Busy request place answer) (Some a) p h e k = busy_aside request place answer h a p e k
  by_kind (Busy request place answer) None (Some status) h e k = busy_ready request place answer h status (may_end (asked request) place) k refl
  by_kind (Busy request place answer) None None h e k = busy_other request place answer h (is_too_early place.opened answer (mark_of m)) e k refl

  -- a message is heard exactly if the session may go on with it, and then the client stands where it should
  pub hear_verdict : (stand : Stand) → StandsBy requests whole rest said stand → Verdict (status_of m) (hear_by stand (aside_of m) (status_of m) m)
  hear_verdict stand h = by_kind stand (aside_of m) (status_of m) h refl refl
