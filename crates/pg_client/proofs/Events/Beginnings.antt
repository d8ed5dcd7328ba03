-- What is expected is so at each time before.
use Rattle.std.proofs.Common.{◌≡◌, ℕ, suc, ◌≤◌, ◌<◌, List, [], ◌∷◌, ◌++◌, length, Option, Some, None, refl, sym, ap, subst, ◌∙◌, append_assoc, inl, inr, arith, length-append, false}
use Rattle.std.specs.Prelude.{IsSome, ◌⊎◌}
use Rattle.std.specs.List.{AllByRecursion}
use Rattle.std.proofs.Math.Nat.{eq-or-lt_of_le}
use Rattle.std.proofs.lemmas.List.{append-nil}
use Rattle.pg_wire.specs.message.BackMessage.{BackMessage}
use Rattle.pg_wire.specs.message.BackMessage.TheVariants.{Ready}
use Rattle.pg_wire.specs.value.Status.{Status}
use Rattle.pg_wire.specs.declared.session.Aside.{Aside}
use Rattle.pg_wire.specs.declared.session.Request.{Request}
use Rattle.pg_wire.specs.Segment.{aside_of, without_asides, Fits, Begins, Segments, segments, status_of}
use Rattle.pg_client.specs.declared.call.Call.{Call}
use Rattle.pg_client.specs.declared.call.Call.TheVariants as call
use Rattle.pg_client.specs.Session.{Happening, Did, Came, messages_in, requests_in, whole_in, rest_in, IsStartup, FitAll, IsSession, IsAfterItsCall, asks_password, Expected, AreAllowed}
use Rattle.pg_client.proofs.Events.Greeting.{BeginsStartup}
use Rattle.pg_client.proofs.Events.Happening.{all_front, requests_in-more}
use Rattle.pg_client.proofs.Events.OneMessage.{put_after, segments-more}
use Rattle.pg_response.proofs.Lists.{kept_with, without_asides-append}
use Rattle.pg_client.proofs.Turns.Ordering.{messages_in-append}

-- ---- one more happening

pub segments_did : (hs : List Happening) (c : Call) → segments (messages_in (hs ++ Did c ∷ [])) ≡ segments (messages_in hs)
segments_did hs c = ap segments (messages_in-append hs (Did c ∷ []) ∙ append-nil (messages_in hs))

pub segments_came : (hs : List Happening) (m : BackMessage) → segments (messages_in (hs ++ Came m ∷ [])) ≡ put_after (status_of m) m (whole_in hs) (rest_in hs)
segments_came hs m = ap segments (messages_in-append hs (Came m ∷ [])) ∙ segments-more (messages_in hs) m

pub requests_came : (hs : List Happening) (m : BackMessage) → requests_in (hs ++ Came m ∷ []) ≡ requests_in hs
requests_came hs m = requests_in-more hs (Came m) ∙ append-nil (requests_in hs)

-- ---- the messages so far were asked for

-- No more segments are whole than the startup's and one for each request, and where so many are, asides alone follow.
abbrev pub AskedFor : List Request → List (List BackMessage) → List BackMessage → Type 0
AskedFor requests whole rest = (length whole ≤ length requests) ⊎ ((length whole ≡ suc (length requests)) × (without_asides rest ≡ []))

abbrev pub AreAsked : List Happening → Type 0
AreAsked hs = AskedFor (requests_in hs) (whole_in hs) (rest_in hs)

abbrev pub AllAfter : List Happening → Type 0
AllAfter hs = (before : List Happening) (m : BackMessage) (later : List Happening) → hs ≡ before ++ Came m ∷ later → IsAfterItsCall before m

pub after_begins : (hs more : List Happening) → AllAfter (hs ++ more) → AllAfter hs
after_begins hs more all before m later e = all before m (later ++ more) (ap (λ (x : List Happening). x ++ more) e ∙ append_assoc before (Came m ∷ later) more)

pub allowed_begins : (hs more : List Happening) → AreAllowed (hs ++ more) → AreAllowed hs
allowed_begins hs more all before c later e = all before c (later ++ more) (ap (λ (x : List Happening). x ++ more) e ∙ append_assoc before (Did c ∷ later) more)

more_requests : (requests more : List Request) (whole : List (List BackMessage)) (rest : List BackMessage) → length more ≤ 1 → AskedFor requests whole rest → AskedFor (requests ++ more) whole rest
more_requests requests [] whole rest l a = subst (λ (rs : List Request). AskedFor rs whole rest) (sym (append-nil requests)) a
more_requests requests (r ∷ []) whole rest l (inl le) = inl (omega (arith, le, length-append requests (r ∷ [])))
more_requests requests (r ∷ []) whole rest l (inr p) = inl (omega (arith, p.0, length-append requests (r ∷ [])))
more_requests requests (r ∷ q ∷ qs) whole rest l a = absurd (omega (arith, l))

one_request : (c : Call) → length (requests_in (Did c ∷ [])) ≤ 1
one_request (call.Request r) = omega arith
one_request _ = omega arith

pub kept_aside : (rest : List BackMessage) (m : BackMessage) → IsSome (aside_of m) → without_asides (rest ++ m ∷ []) ≡ without_asides rest
kept_aside rest m aside = without_asides-append rest (m ∷ []) ∙ ap (λ (ms : List BackMessage). without_asides rest ++ ms) (left_out (aside_of m) aside) ∙ append-nil (without_asides rest)
  where
    left_out : (o : Option Aside) → IsSome o → kept_with o m [] ≡ []
    left_out None some = absurd cc
    left_out (Some a) some = refl

aside_no_status : (m : BackMessage) (status : Status) → status_of m ≡ Some status → IsSome (aside_of m) → ⊥
aside_no_status (Ready s) status e aside = absurd (let k : IsSome {T = Aside} None = aside in cc)
aside_no_status _ status e aside = absurd cc

-- one more message, which is an aside or was asked for
came_asked : (requests : List Request) (whole : List (List BackMessage)) (rest : List BackMessage) (m : BackMessage) (p : Option Status) → status_of m ≡ p → IsSome (aside_of m) ⊎ (length whole ≤ length requests) → AskedFor requests whole rest → AskedFor requests (put_after p m whole rest).whole (put_after p m whole rest).rest
came_asked requests whole rest m (Some status) k (inl aside) a = absurd (aside_no_status m status k aside)
came_asked requests whole rest m (Some status) k (inr le) a = by_length (eq-or-lt_of_le le)
  where
    by_length : (length whole ≡ length requests) ⊎ (length whole < length requests) → AskedFor requests (whole ++ (rest ++ m ∷ []) ∷ []) []
    by_length (inl e) = inr (omega (arith, e, length-append whole ((rest ++ m ∷ []) ∷ [])), refl)
    by_length (inr l) = inl (omega (arith, l, length-append whole ((rest ++ m ∷ []) ∷ [])))
came_asked requests whole rest m None k asked (inl le) = inl le
came_asked requests whole rest m None k (inl aside) (inr p) = inr (p.0, kept_aside rest m aside ∙ p.1)
came_asked requests whole rest m None k (inr le) (inr p) = inl le

-- what holds of nothing, and stays with each happening, holds of all
pub along : (P : List Happening → Type 0) (all : List Happening) → P [] → ((before : List Happening) (h : Happening) (later : List Happening) → all ≡ before ++ h ∷ later → P before → P (before ++ h ∷ [])) → P all
along P all first step = go [] all refl first
  where
    go : (before hs : List Happening) → all ≡ before ++ hs → P before → P all
    go before [] e p = subst P (sym (e ∙ append-nil before)) p
    go before (h ∷ hs) e p = go (before ++ h ∷ []) hs (e ∙ sym (append_assoc before (h ∷ []) hs)) (step before h hs e p)

pub are_asked : (hs : List Happening) → AllAfter hs → AreAsked hs
are_asked hs all = along AreAsked hs (inl (omega arith)) step
  where
    step : (before : List Happening) (h : Happening) (later : List Happening) → hs ≡ before ++ h ∷ later → AreAsked before → AreAsked (before ++ h ∷ [])
    step before (Did c) later e a =
        subst (λ (rs : List Request). AskedFor rs (whole_in (before ++ Did c ∷ [])) (rest_in (before ++ Did c ∷ []))) (sym (requests_in-more before (Did c)))
        (subst (λ (s : Segments). AskedFor (requests_in before ++ requests_in (Did c ∷ [])) s.whole s.rest) (sym (segments_did before c))
        (more_requests (requests_in before) (requests_in (Did c ∷ [])) (whole_in before) (rest_in before) (one_request c) a))
    step before (Came m) later e a =
        subst (λ (rs : List Request). AskedFor rs (whole_in (before ++ Came m ∷ [])) (rest_in (before ++ Came m ∷ []))) (sym (requests_came before m))
        (subst (λ (s : Segments). AskedFor (requests_in before) s.whole s.rest) (sym (segments_came before m))
        (came_asked (requests_in before) (whole_in before) (rest_in before) m (status_of m) refl (all before m later e).asked_for a))

-- ---- the requests so far were answered

whole_grows : (p : Option Status) (m : BackMessage) (whole : List (List BackMessage)) (rest : List BackMessage) → length whole ≤ length (put_after p m whole rest).whole
whole_grows (Some status) m whole rest = omega (arith, length-append whole ((rest ++ m ∷ []) ∷ []))
whole_grows None m whole rest = omega arith

-- the startup's segment and those of all requests but the last are whole
abbrev pub IsAnswered : List Happening → Type 0
IsAnswered hs = length (requests_in hs) ≤ length (whole_in hs)

pub are_answered : (hs : List Happening) → AreAllowed hs → IsAnswered hs
are_answered hs all = along IsAnswered hs (omega arith) step
  where
    same : (before : List Happening) (c : Call) → requests_in (Did c ∷ []) ≡ [] → IsAnswered before → IsAnswered (before ++ Did c ∷ [])
    same before c none a = omega (arith, a, ap length (requests_in-more before (Did c)), length-append (requests_in before) (requests_in (Did c ∷ [])), ap length none, ap (λ (s : Segments). length s.whole) (segments_did before c))

    step : (before : List Happening) (h : Happening) (later : List Happening) → hs ≡ before ++ h ∷ later → IsAnswered before → IsAnswered (before ++ h ∷ [])
    step before (Did (call.Request r)) later e a = omega (arith, (all before (call.Request r) later e).in_place.1, ap length (requests_in-more before (Did (call.Request r))), length-append (requests_in before) (r ∷ []), ap (λ (s : Segments). length s.whole) (segments_did before (call.Request r)))
    step before (Did call.Start) later e a = same before call.Start refl a
    step before (Did (call.Chunk b)) later e a = same before (call.Chunk b) refl a
    step before (Did call.Done) later e a = same before call.Done refl a
    step before (Did (call.Fail b)) later e a = same before (call.Fail b) refl a
    step before (Did call.Terminate) later e a = same before call.Terminate refl a
    step before (Came m) later e a = omega (arith, a, ap length (requests_came before m), ap (λ (s : Segments). length s.whole) (segments_came before m), whole_grows (status_of m) m (whole_in before) (rest_in before))

-- ---- the session, one happening before

pub fewer_requests : (requests : List Request) (r : Request) (ss : List (List BackMessage)) (rest : List BackMessage) → (suc (length ss) ≤ length requests) ⊎ ((suc (length ss) ≡ suc (length requests)) × (without_asides rest ≡ [])) → FitAll (requests ++ r ∷ []) ss rest → FitAll requests ss rest
fewer_requests [] r [] rest (inl le) f = absurd (omega (arith, le))
fewer_requests [] r [] rest (inr p) f = p.1
fewer_requests [] r (s ∷ ss) rest (inl le) f = absurd (omega (arith, le))
fewer_requests [] r (s ∷ ss) rest (inr p) f = absurd (omega (arith, p.0))
fewer_requests (q ∷ qs) r [] rest a f = f
fewer_requests (q ∷ qs) r (s ∷ ss) rest (inl le) f = (f.0, fewer_requests qs r ss rest (inl (omega (arith, le))) f.1)
fewer_requests (q ∷ qs) r (s ∷ ss) rest (inr p) f = (f.0, fewer_requests qs r ss rest (inr (omega (arith, p.0), p.1)) f.1)

session_fewer : (requests : List Request) (r : Request) (whole : List (List BackMessage)) (rest : List BackMessage) → AskedFor requests whole rest → IsSession (requests ++ r ∷ []) whole rest → IsSession requests whole rest
session_fewer requests r [] rest a s = s
session_fewer requests r (w ∷ ws) rest a s = (s.0, fewer_requests requests r ws rest a s.1)

begins_less : (r : Request) (rest : List BackMessage) (m : BackMessage) → Begins r (rest ++ m ∷ []) → Begins r rest
begins_less r rest m b = (m ∷ b.0, b.1, subst (λ (ms : List BackMessage). Fits r ms b.1) (append_assoc rest (m ∷ []) b.0) b.2)

startup_less : (rest : List BackMessage) (m : BackMessage) → BeginsStartup (rest ++ m ∷ []) → BeginsStartup rest
startup_less rest m b = (m ∷ b.0, subst IsStartup (append_assoc rest (m ∷ []) b.0) b.1)

nothing_kept : (xs ys : List BackMessage) → xs ++ ys ≡ [] → xs ≡ []
nothing_kept [] ys e = refl
nothing_kept (x ∷ xs) ys e = absurd cc

fit_rest : (requests : List Request) (ss : List (List BackMessage)) (rest : List BackMessage) (m : BackMessage) → FitAll requests ss (rest ++ m ∷ []) → FitAll requests ss rest
fit_rest [] [] rest m f = nothing_kept (without_asides rest) (without_asides (m ∷ [])) (sym (without_asides-append rest (m ∷ [])) ∙ f)
fit_rest (r ∷ rs) [] rest m f = begins_less r rest m f
fit_rest [] (s ∷ ss) rest m f = absurd f
fit_rest (r ∷ rs) (s ∷ ss) rest m f = (f.0, fit_rest rs ss rest m f.1)

fit_last : (requests : List Request) (ss : List (List BackMessage)) (rest : List BackMessage) (m : BackMessage) → FitAll requests (ss ++ (rest ++ m ∷ []) ∷ []) [] → FitAll requests ss rest
fit_last [] [] rest m f = absurd f
fit_last (r ∷ rs) [] rest m f = (m ∷ [], f.0.0, f.0.1)
fit_last [] (s ∷ ss) rest m f = absurd f
fit_last (r ∷ rs) (s ∷ ss) rest m f = (f.0, fit_last rs ss rest m f.1)

session_less : (requests : List Request) (whole : List (List BackMessage)) (rest : List BackMessage) (m : BackMessage) (p : Option Status) → IsSession requests (put_after p m whole rest).whole (put_after p m whole rest).rest → IsSession requests whole rest
session_less requests [] rest m (Some status) s = (m ∷ [], s.0)
session_less requests (w ∷ ws) rest m (Some status) s = (s.0, fit_last requests ws rest m s.1)
session_less requests [] rest m None s = startup_less rest m s
session_less requests (w ∷ ws) rest m None s = (s.0, fit_rest requests ws rest m s.1)

did_session : (requests more : List Request) (whole : List (List BackMessage)) (rest : List BackMessage) → length more ≤ 1 → AskedFor requests whole rest → IsSession (requests ++ more) whole rest → IsSession requests whole rest
did_session requests [] whole rest l a s = subst (λ (rs : List Request). IsSession rs whole rest) (append-nil requests) s
did_session requests (r ∷ []) whole rest l a s = session_fewer requests r whole rest a s
did_session requests (r ∷ q ∷ qs) whole rest l a s = absurd (omega (arith, l))

session_before : (hs : List Happening) (h : Happening) → AllAfter hs → IsSession (requests_in (hs ++ h ∷ [])) (whole_in (hs ++ h ∷ [])) (rest_in (hs ++ h ∷ [])) → IsSession (requests_in hs) (whole_in hs) (rest_in hs)
session_before hs (Did c) all s =
    did_session (requests_in hs) (requests_in (Did c ∷ [])) (whole_in hs) (rest_in hs) (one_request c) (are_asked hs all)
    (subst (λ (x : Segments). IsSession (requests_in hs ++ requests_in (Did c ∷ [])) x.whole x.rest) (segments_did hs c)
    (subst (λ (rs : List Request). IsSession rs (whole_in (hs ++ Did c ∷ [])) (rest_in (hs ++ Did c ∷ []))) (requests_in-more hs (Did c)) s))
session_before hs (Came m) all s =
    session_less (requests_in hs) (whole_in hs) (rest_in hs) m (status_of m)
    (subst (λ (x : Segments). IsSession (requests_in hs) x.whole x.rest) (segments_came hs m)
    (subst (λ (rs : List Request). IsSession rs (whole_in (hs ++ Came m ∷ [])) (rest_in (hs ++ Came m ∷ []))) (requests_came hs m) s))

one_before : (password : Option (List ℕ)) (hs : List Happening) (h : Happening) → Expected password (hs ++ h ∷ []) → Expected password hs
one_before password hs h e =
    let all = after_begins hs (h ∷ []) e.after in
    record {
      session = session_before hs h all e.session;
      after = all;
      answerable = λ none. all_front (λ m. asks_password m ≡ false) (messages_in hs) (messages_in (h ∷ [])) (subst (AllByRecursion (λ m. asks_password m ≡ false)) (messages_in-append hs (h ∷ [])) (e.answerable none));
    }

pub expected_begins : (password : Option (List ℕ)) (hs more : List Happening) → Expected password (hs ++ more) → Expected password hs
expected_begins password hs [] e = subst (Expected password) (append-nil hs) e
expected_begins password hs (h ∷ more) e = one_before password hs h (expected_begins password (hs ++ h ∷ []) more (subst (Expected password) (sym (append_assoc hs (h ∷ []) more)) e))

-- nothing is expected with what isn't before it
pub expected_no_longer : (password : Option (List ℕ)) (hs : List Happening) (m : BackMessage) (later : List Happening) → (Expected password (hs ++ Came m ∷ []) → ⊥) → Expected password (hs ++ Came m ∷ later) → ⊥
expected_no_longer password hs m later never e = never (expected_begins password (hs ++ Came m ∷ []) later (subst (Expected password) (sym (append_assoc hs (Came m ∷ []) later)) e))
