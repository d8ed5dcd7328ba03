-- One more happening: where the client stands, and what is expected.
use Rattle.std.proofs.Common.{◌≡◌, ℕ, Bool, true, false, cond, List, not, [], ◌∷◌, ◌++◌, Option, Some, None, refl, sym, ap, subst, ◌∙◌, append_assoc}
use Rattle.std.specs.List.{AllByRecursion}
use Rattle.std.proofs.lemmas.List.{append-nil, append_cancel_left}
use Rattle.pg_wire.specs.message.BackMessage.{BackMessage}
use Rattle.pg_wire.specs.declared.session.Request.{Request}
use Rattle.pg_wire.specs.declared.session.Aside.{Aside}
use Rattle.pg_wire.specs.value.Status.{Status}
use Rattle.pg_wire.specs.Segment.{aside_of, asked, Segments, segments, status_of}
use Rattle.pg_response.specs.declared.place.Place.{Place}
use Rattle.pg_response.specs.Place.{goes_all, start}
use Rattle.pg_response.proofs.Lists.{front_splits}
use Rattle.pg_response.proofs.Segments.{goes_begin}
use Rattle.pg_client.specs.declared.stand.CopyAnswer.{CopyAnswer}
use Rattle.pg_client.specs.declared.stand.CopyAnswer.TheVariants.{Awaited}
use Rattle.pg_client.specs.declared.startup.Welcome.TheVariants.{Fresh}
use Rattle.pg_client.specs.declared.stand.Stand.{Stand}
use Rattle.pg_client.specs.declared.stand.Stand.TheVariants.{New, Starting, Idle, Busy}
use Rattle.pg_client.specs.Stand.{copy_answer_after, copy_answer_from, copy_answer, can_answer, hear, hear_by, hear_with, StandsBy, Stands}
use Rattle.pg_client.specs.declared.call.Call.{Call}
use Rattle.pg_client.specs.declared.call.Call.TheVariants as call
use Rattle.pg_client.specs.Session.{Happening, Did, Came, requests_in, messages_in, whole_in, rest_in, IsStarted, FitAll, IsSession, IsAfterItsCall, asks_password, Expected}
use Rattle.pg_client.proofs.Events.Greeting.{greeted_begins}
use Rattle.pg_client.proofs.Standing.Said.{AnswerIsSaid, after_its_call, may_stand}
use Rattle.pg_client.proofs.Events.OneMessage.{put_after, segments-more, all_fit, fit_and_begin, StandsThen, Verdict, hear_verdict}

-- ---- all of a list, and one more

pub all_more : {A : Type 0} (P : A → Type 0) (xs : List A) (x : A) → AllByRecursion P xs → P x → AllByRecursion P (xs ++ x ∷ [])
all_more P [] x all one = (one, tt)
all_more P (y ∷ ys) x all one = (all.0, all_more P ys x all.1 one)

all_last : {A : Type 0} (P : A → Type 0) (xs : List A) (x : A) → AllByRecursion P (xs ++ x ∷ []) → P x
all_last P [] x all = all.0
all_last P (y ∷ ys) x all = all_last P ys x all.1

pub all_front : {A : Type 0} (P : A → Type 0) (xs ys : List A) → AllByRecursion P (xs ++ ys) → AllByRecursion P xs
all_front P [] ys all = tt
all_front P (x ∷ xs) ys all = (all.0, all_front P xs ys all.1)

-- ---- one more happening at the end

messages_in-came : (hs : List Happening) (m : BackMessage) → messages_in (hs ++ Came m ∷ []) ≡ messages_in hs ++ m ∷ []
messages_in-came [] m = refl
messages_in-came (Did c ∷ hs) m = messages_in-came hs m
messages_in-came (Came x ∷ hs) m = ap (λ (ms : List BackMessage). x ∷ ms) (messages_in-came hs m)

pub messages_in-did : (hs : List Happening) (c : Call) → messages_in (hs ++ Did c ∷ []) ≡ messages_in hs
messages_in-did [] c = refl
messages_in-did (Did d ∷ hs) c = messages_in-did hs c
messages_in-did (Came x ∷ hs) c = ap (λ (ms : List BackMessage). x ∷ ms) (messages_in-did hs c)

pub requests_in-more : (hs : List Happening) (h : Happening) → requests_in (hs ++ h ∷ []) ≡ requests_in hs ++ requests_in (h ∷ [])
requests_in-more [] h = refl
requests_in-more (Did (call.Request r) ∷ hs) h = ap (λ (rs : List Request). r ∷ rs) (requests_in-more hs h)
requests_in-more (Did _ ∷ hs) h = requests_in-more hs h
requests_in-more (Came x ∷ hs) h = requests_in-more hs h

pub IsStarted-more : (hs : List Happening) (h : Happening) → IsStarted hs → IsStarted (hs ++ h ∷ [])
IsStarted-more [] h s = absurd s
IsStarted-more (Did call.Start ∷ hs) h s = tt
IsStarted-more (_ ∷ hs) h s = IsStarted-more hs h s

pub copy_answer_from-more : (answer : CopyAnswer) (hs : List Happening) (h : Happening) → copy_answer_from answer (hs ++ h ∷ []) ≡ copy_answer_after (copy_answer_from answer hs) h
copy_answer_from-more answer [] h = refl
copy_answer_from-more answer (x ∷ hs) h = copy_answer_from-more (copy_answer_after answer x) hs h

-- ---- a message

stands_from : (hs : List Happening) (stand : Stand) → IsStarted hs → StandsBy (requests_in hs) (whole_in hs) (rest_in hs) (copy_answer hs) stand → Stands hs stand
stands_from hs New s h = absurd h
stands_from hs (Starting w) s h = (s, h)
stands_from hs Idle s h = (s, h)
stands_from hs (Busy request place answer) s h = (s, h)

pub segments-came : (hs : List Happening) (m : BackMessage) → segments (messages_in (hs ++ Came m ∷ [])) ≡ put_after (status_of m) m (whole_in hs) (rest_in hs)
segments-came hs m = ap segments (messages_in-came hs m) ∙ segments-more (messages_in hs) m

stands_came : (hs : List Happening) (m : BackMessage) (stand : Stand) → IsStarted hs → StandsThen (requests_in hs) (whole_in hs) (rest_in hs) (copy_answer hs) m (status_of m) stand → Stands (hs ++ Came m ∷ []) stand
stands_came hs m stand s h =
    stands_from (hs ++ Came m ∷ []) stand (IsStarted-more hs (Came m) s)
    (subst (λ (rs : List Request). StandsBy rs (segments (messages_in (hs ++ Came m ∷ []))).whole (segments (messages_in (hs ++ Came m ∷ []))).rest (copy_answer (hs ++ Came m ∷ [])) stand) (sym (requests_in-more hs (Came m) ∙ append-nil (requests_in hs)))
    (subst (λ (x : Segments). StandsBy (requests_in hs) x.whole x.rest (copy_answer (hs ++ Came m ∷ [])) stand) (sym (segments-came hs m))
    (subst (λ (said : CopyAnswer). StandsBy (requests_in hs) (put_after (status_of m) m (whole_in hs) (rest_in hs)).whole (put_after (status_of m) m (whole_in hs) (rest_in hs)).rest said stand) (sym (copy_answer_from-more Awaited hs (Came m))) h)))

-- a message that can't be answered asks a client for the password that it hasn't
is_asked : (password : Option (List ℕ)) (m : BackMessage) → can_answer password m ≡ false → (password ≡ None) × (asks_password m ≡ true)
is_asked (Some p) m e = cc
is_asked None m e = (refl, by (asks_password m) e)
  where
    by : (b : Bool) → not b ≡ false → b ≡ true
    by true e = refl
    by false e = cc

not_asked : (password : Option (List ℕ)) (m : BackMessage) → can_answer password m ≡ true → password ≡ None → asks_password m ≡ false
not_asked (Some p) m e none = cc
not_asked None m e none = by (asks_password m) e
  where
    by : (b : Bool) → not b ≡ true → b ≡ false
    by false e = refl
    by true e = cc

module _ (password : Option (List ℕ)) (hs : List Happening) (m : BackMessage) where
  -- what the client makes of the message, after all that happened
  abbrev pub Hears : Option Stand → Type 0
  Hears (Some stand) = Stands (hs ++ Came m ∷ []) stand × IsAfterItsCall hs m × (can_answer password m ≡ true)
  Hears None = Expected password (hs ++ Came m ∷ []) → ⊥

  hears_by : (next : Option Stand) → AnswerIsSaid hs → IsStarted hs → can_answer password m ≡ true → Verdict (requests_in hs) (whole_in hs) (rest_in hs) (copy_answer hs) m (status_of m) next → Hears next
  hears_by (Some stand) same s e v = (stands_came hs m stand s v.0, after_its_call hs same m s v.1, e)
  hears_by None same s e v = λ expected.
      v (subst (λ (x : Segments). IsSession (requests_in hs) x.whole x.rest) (segments-came hs m)
      (subst (λ (rs : List Request). IsSession rs (segments (messages_in (hs ++ Came m ∷ []))).whole (segments (messages_in (hs ++ Came m ∷ []))).rest) (requests_in-more hs (Came m) ∙ append-nil (requests_in hs)) expected.session))
      (may_stand hs same m (expected.after hs m [] refl))

  started_hears : (stand : Stand) → AnswerIsSaid hs → IsStarted hs → can_answer password m ≡ true → StandsBy (requests_in hs) (whole_in hs) (rest_in hs) (copy_answer hs) stand → Hears (hear stand m)
  started_hears stand same s e h = hears_by (hear stand m) same s e (hear_verdict (requests_in hs) (whole_in hs) (rest_in hs) (copy_answer hs) m stand h)

  -- nothing comes before start
  new_hears : (o : Option Stand) → hear New m ≡ o → hs ≡ [] → Hears o
  new_hears (Some stand) e h = absurd (never m e)
    where
      never : (x : BackMessage) → hear New x ≡ Some stand → ⊥
      never x k = by (aside_of x) (status_of x) k
        where
          by : (a : Option Aside) (p : Option Status) → hear_by New a p x ≡ Some stand → ⊥
          by (Some a) p k = cc
          by None (Some status) k = cc
          by None None k = cc
  new_hears None e h = λ expected. subst IsStarted h ((expected.after hs m [] refl).started)

  hears_answerable : (stand : Stand) → AnswerIsSaid hs → can_answer password m ≡ true → Stands hs stand → Hears (hear stand m)
  hears_answerable New same e h = new_hears (hear New m) refl h
  hears_answerable (Starting w) same e h = started_hears (Starting w) same h.0 e h.1
  hears_answerable Idle same e h = started_hears Idle same h.0 e h.1
  hears_answerable (Busy request place answer) same e h = started_hears (Busy request place answer) same h.0 e h.1

  -- what a client without a password is asked isn't expected
  unanswerable : can_answer password m ≡ false → Expected password (hs ++ Came m ∷ []) → ⊥
  unanswerable none expected =
      let asked = is_asked password m none in
      let no : asks_password m ≡ false = all_last (λ n. asks_password n ≡ false) (messages_in hs) m (subst (AllByRecursion (λ n. asks_password n ≡ false)) (messages_in-came hs m) (expected.answerable asked.0)) in
      let e : false ≡ true = sym no ∙ asked.1 in cc

  pub hears : (stand : Stand) → AnswerIsSaid hs → Stands hs stand → Hears (hear_with password stand m)
  hears stand same h = by (can_answer password m) refl
    where
      by : (b : Bool) → can_answer password m ≡ b → Hears (cond b (hear stand m) None)
      by true e = hears_answerable stand same e h
      by false e = unanswerable e

  -- what the client refuses isn't expected
  pub rejected_unexpected : (stand : Stand) → AnswerIsSaid hs → Stands hs stand → hear_with password stand m ≡ None → Expected password (hs ++ Came m ∷ []) → ⊥
  rejected_unexpected stand same h e = subst Hears e (hears stand same h)

-- ---- where the client stands, the session is one

session_by : (requests : List Request) (whole : List (List BackMessage)) (rest : List BackMessage) (said : CopyAnswer) (stand : Stand) → StandsBy requests whole rest said stand → IsSession requests whole rest
session_by requests whole rest said New h = absurd h
session_by requests whole rest said (Starting w) h = subst (λ (x : List (List BackMessage)). IsSession requests x rest) (sym h.no_segment) (greeted_begins rest w h.greeted)
session_by requests whole rest said Idle h = subst (λ (x : List (List BackMessage)). IsSession requests x rest) (sym h.answered.cut) (h.answered.welcomed, all_fit requests h.answered.groups rest h.answered.fit h.only_asides)
session_by requests whole rest said (Busy request place answer) h =
    subst (λ (x : List (List BackMessage)). IsSession requests x rest) (sym h.answered.cut)
    (h.answered.welcomed, subst (λ (x : List Request). FitAll x h.answered.groups rest) (sym h.last) (fit_and_begin h.earlier h.answered.groups request rest h.answered.fit (goes_begin request rest place h.placed)))

pub stands_session : (hs : List Happening) (stand : Stand) → Stands hs stand → IsSession (requests_in hs) (whole_in hs) (rest_in hs)
stands_session hs New h = subst (λ (x : List Happening). IsSession (requests_in x) (segments (messages_in x)).whole (segments (messages_in x)).rest) (sym h) (greeted_begins [] Fresh refl)
stands_session hs (Starting w) h = session_by _ _ _ (copy_answer hs) (Starting w) h.1
stands_session hs Idle h = session_by _ _ _ (copy_answer hs) Idle h.1
stands_session hs (Busy request place answer) h = session_by _ _ _ (copy_answer hs) (Busy request place answer) h.1

-- ---- what is expected goes on

After : List Happening → Happening → Type 0
After hs (Did c) = Unit {0}
After hs (Came m) = IsAfterItsCall hs m

after_more : (hs : List Happening) (h : Happening) → ((before : List Happening) (m : BackMessage) (later : List Happening) → hs ≡ before ++ Came m ∷ later → IsAfterItsCall before m) → After hs h → (before : List Happening) (m : BackMessage) (later : List Happening) → hs ++ h ∷ [] ≡ before ++ Came m ∷ later → IsAfterItsCall before m
unfolding After
after_more hs h all new before m later e =
    let s = front_splits hs h before (Came m) later e in
    at_split s.0 s.1 (append_cancel_left before (s.0 ++ h ∷ []) (Came m ∷ later) (sym (append_assoc before s.0 (h ∷ [])) ∙ ap (λ (x : List Happening). x ++ h ∷ []) (sym s.1) ∙ e))
  where
    this_one : (k : Happening) → After hs k → k ≡ Came m → hs ≡ before → IsAfterItsCall before m
    this_one (Did c) n is same = absurd cc
    this_one (Came x) n is same = subst (λ (b : List Happening). IsAfterItsCall b m) same (subst (IsAfterItsCall hs) (let y : Came x ≡ Came m = is in cc) n)

    at_split : (zs : List Happening) → hs ≡ before ++ zs → zs ++ h ∷ [] ≡ Came m ∷ later → IsAfterItsCall before m
    at_split [] is k = this_one h new (let y : h ∷ [] ≡ Came m ∷ later = k in cc) (is ∙ append-nil before)
    at_split (z ∷ zs) is k = all before m zs (is ∙ ap (λ (x : Happening). before ++ x ∷ zs) (let y : z ∷ (zs ++ h ∷ []) ≡ Came m ∷ later = k in cc))

-- what is expected stays so with a message that comes after its call and can be answered, where the client stands anywhere then
pub expected_came : (password : Option (List ℕ)) (hs : List Happening) (m : BackMessage) (stand : Stand) → Expected password hs → Stands (hs ++ Came m ∷ []) stand → IsAfterItsCall hs m → can_answer password m ≡ true → Expected password (hs ++ Came m ∷ [])
unfolding After
expected_came password hs m stand e h k answerable = record {
  session = stands_session (hs ++ Came m ∷ []) stand h;
  after = after_more hs (Came m) e.after k;
  answerable = λ none. subst (AllByRecursion (λ n. asks_password n ≡ false)) (sym (messages_in-came hs m)) (all_more (λ n. asks_password n ≡ false) (messages_in hs) m (e.answerable none) (not_asked password m answerable none));
}

pub expected_did : (password : Option (List ℕ)) (hs : List Happening) (c : Call) (stand : Stand) → Expected password hs → Stands (hs ++ Did c ∷ []) stand → Expected password (hs ++ Did c ∷ [])
unfolding After
expected_did password hs c stand e h = record {
  session = stands_session (hs ++ Did c ∷ []) stand h;
  after = after_more hs (Did c) e.after tt;
  answerable = λ none. subst (AllByRecursion (λ n. asks_password n ≡ false)) (sym (messages_in-did hs c)) (e.answerable none);
}

pub expected_nothing : (password : Option (List ℕ)) → Expected password []
expected_nothing password = record { session = greeted_begins [] Fresh refl; after = λ before m later e. absurd (nothing m later before e); answerable = λ none. tt }
  where
    nothing : (m : BackMessage) (later : List Happening) (before : List Happening) → [] ≡ before ++ Came m ∷ later → ⊥
    nothing m later [] e = cc
    nothing m later (b ∷ bs) e = cc

-- ---- the calls

pub did_start : (hs : List Happening) → Stands hs New → Stands (hs ++ Did call.Start ∷ []) (Starting Fresh)
did_start hs h = subst (λ (x : List Happening). Stands (x ++ Did call.Start ∷ []) (Starting Fresh)) (sym h) (tt, record { no_request = refl; no_segment = refl; greeted = refl })

stands_did : (hs : List Happening) (c : Call) (stand : Stand) → IsStarted hs → StandsBy (requests_in hs ++ requests_in (Did c ∷ [])) (whole_in hs) (rest_in hs) (copy_answer_after (copy_answer hs) (Did c)) stand → Stands (hs ++ Did c ∷ []) stand
stands_did hs c stand s h =
    stands_from (hs ++ Did c ∷ []) stand (IsStarted-more hs (Did c) s)
    (subst (λ (rs : List Request). StandsBy rs (segments (messages_in (hs ++ Did c ∷ []))).whole (segments (messages_in (hs ++ Did c ∷ []))).rest (copy_answer (hs ++ Did c ∷ [])) stand) (sym (requests_in-more hs (Did c)))
    (subst (λ (ms : List BackMessage). StandsBy (requests_in hs ++ requests_in (Did c ∷ [])) (segments ms).whole (segments ms).rest (copy_answer (hs ++ Did c ∷ [])) stand) (sym (messages_in-did hs c))
    (subst (λ (said : CopyAnswer). StandsBy (requests_in hs ++ requests_in (Did c ∷ [])) (whole_in hs) (rest_in hs) said stand) (sym (copy_answer_from-more Awaited hs (Did c))) h)))

pub did_ask : (hs : List Happening) (request : Request) → Stands hs Idle → Stands (hs ++ Did (call.Request request) ∷ []) (Busy request start Awaited)
did_ask hs request h =
    stands_did hs (call.Request request) (Busy request start Awaited) h.0
    (record { earlier = requests_in hs; last = refl; answered = h.1.answered; placed = ap (goes_all (asked request)) h.1.only_asides; answer_is = refl })

-- a call for a copy, after which this was called for it
pub did_copy : (hs : List Happening) (c : Call) (request : Request) (place : Place) (was is : CopyAnswer) → requests_in (Did c ∷ []) ≡ [] → ((x : CopyAnswer) → x ≡ was → is ≡ copy_answer_after x (Did c)) → Stands hs (Busy request place was) → Stands (hs ++ Did c ∷ []) (Busy request place is)
did_copy hs c request place was is none said h =
    stands_did hs c (Busy request place is) h.0
    (record { earlier = h.1.earlier; last = ap (λ (rs : List Request). requests_in hs ++ rs) none ∙ (append-nil (requests_in hs) ∙ h.1.last); answered = h.1.answered; placed = h.1.placed; answer_is = said (copy_answer hs) (sym h.1.answer_is) })

same_by : (hs : List Happening) (stand : Stand) → StandsBy (requests_in hs) (whole_in hs) (rest_in hs) (copy_answer hs) stand → StandsBy (requests_in hs ++ []) (whole_in hs) (rest_in hs) (copy_answer hs) stand
same_by hs stand h = subst (λ (rs : List Request). StandsBy rs (whole_in hs) (rest_in hs) (copy_answer hs) stand) (sym (append-nil (requests_in hs))) h

-- terminate changes nothing of where it stands
pub did_terminate : (hs : List Happening) (stand : Stand) → IsStarted hs → Stands hs stand → Stands (hs ++ Did call.Terminate ∷ []) stand
did_terminate hs New s h = absurd (subst IsStarted h s)
did_terminate hs (Starting w) s h = stands_did hs call.Terminate (Starting w) s (same_by hs (Starting w) h.1)
did_terminate hs Idle s h = stands_did hs call.Terminate Idle s (same_by hs Idle h.1)
did_terminate hs (Busy request place answer) s h = stands_did hs call.Terminate (Busy request place answer) s (same_by hs (Busy request place answer) h.1)
