-- A password is asked for once at most, before the first request, so its answer stands between the startup packet and the turns.
use Rattle.std.proofs.Common.{◌≡◌, ℕ, ◌≤◌, List, [], ◌∷◌, ◌++◌, length, map, Option, Some, None, refl, sym, ap, subst, ◌∙◌, append_assoc, inl, inr, arith, length-append, true}
use Rattle.std.specs.Prelude.{◌⊎◌}
use Rattle.std.specs.List.{flat_map}
use Rattle.std.proofs.lemmas.Grind.{flat_map-append}
use Rattle.std.proofs.lemmas.List.{append-nil}
use Rattle.pg_wire.specs.message.BackMessage.{BackMessage}
use Rattle.pg_wire.specs.message.BackMessage.TheVariants.{AuthCleartext, AuthMd5}
use Rattle.pg_wire.specs.message.FrontMessage.{FrontMessage}
use Rattle.pg_wire.specs.value.Status.{Status}
use Rattle.pg_wire.specs.declared.session.Aside.{Aside}
use Rattle.pg_wire.specs.declared.session.Request.{Request}
use Rattle.pg_wire.specs.Direction.{spelling}
use Rattle.pg_wire.specs.Frontend.{frontend}
use Rattle.pg_wire.specs.Segment.{aside_of, without_asides, Asked as What, asked, Segments, segments, status_of, put_before}
use Rattle.pg_client.specs.declared.phase.Cause.{Cause}
use Rattle.pg_client.specs.declared.phase.Cause.TheVariants as cause
use Rattle.pg_client.specs.declared.startup.Welcome.{Welcome}
use Rattle.pg_client.specs.declared.startup.Welcome.TheVariants.{Fresh, Asked, Admitted}
use Rattle.pg_client.specs.declared.settings.Settings.{Settings}
use Rattle.pg_client.specs.Startup.{greet, greet_from, greet_all}
use Rattle.pg_response.specs.declared.mark.Mark.TheVariants as mark
use Rattle.pg_response.specs.declared.place.Place.{Place}
use Rattle.pg_response.specs.Place.{goes, goes_by, mark_of, goes_all, start}
use Rattle.pg_client.specs.declared.call.Call.{Call}
use Rattle.pg_client.specs.declared.call.Call.TheVariants as call
use Rattle.pg_client.specs.Session.{Happening, Did, Came, messages_in, requests_in, whole_in, rest_in, asks_password, FitAll, IsSession, IsStarted, IsTerminated, AreAllowed, Expected}
use Rattle.pg_client.specs.View.{View}
use Rattle.pg_client.specs.Client.{Keeps, happenings, History}
use Rattle.pg_client.specs.Sent.{password_messages, md5_messages, answer_to, sent_by, sent_in}
use Rattle.pg_client.specs.Closed.{Ends}
use Rattle.pg_client.specs.Private.Agreeing.{Agrees}
use Rattle.pg_wire.specs.Turns.{Turn, turn_messages}
use Rattle.pg_client.specs.Turns.{turns_of, calls_in, passwords, first_answer, greeting, farewell, InTurns}
use Rattle.pg_client.proofs.Events.Beginnings.{AllAfter, after_begins, segments_came, requests_came, allowed_begins, along, are_answered, expected_begins}
use Rattle.pg_client.proofs.Turns.Copying.{heard_after_start}
use Rattle.pg_client.proofs.Events.OneMessage.{put_after, not_ready}
use Rattle.pg_response.proofs.Holding.{goes_by-append}
use Rattle.pg_response.proofs.Lists.{kept_with, front_splits, without_asides-append}
use Rattle.pg_response.proofs.Marks.{goes_nowhere}
use Rattle.pg_response.proofs.Segments.{begins_go}
use Rattle.pg_client.proofs.Calling.Accepting.{sent_more}
use Rattle.pg_client.proofs.Events.Greeting.{BeginsStartup, Greeted, greet_sound, greet_from-append, begins_greeted}
use Rattle.pg_client.proofs.Turns.Ordering.{messages_in-append, calls_in-append}
use Rattle.pg_client.proofs.Turns.TurnLaws.{IsOrderly, orderly_from, after_first, sent_first, first_greets, turns_after, requests_of}

-- ---- a question goes on with no request's segment

is_other : (m : BackMessage) → asks_password m ≡ true → mark_of m ≡ mark.Other
is_other AuthCleartext q = refl
is_other (AuthMd5 salt) q = refl
is_other _ q = absurd cc

no_status : (m : BackMessage) → asks_password m ≡ true → status_of m ≡ None
no_status AuthCleartext q = refl
no_status (AuthMd5 salt) q = refl
no_status _ q = absurd cc

no_aside : (m : BackMessage) → asks_password m ≡ true → aside_of m ≡ None
no_aside AuthCleartext q = refl
no_aside (AuthMd5 salt) q = refl
no_aside _ q = absurd cc

module _ (m : BackMessage) (q : asks_password m ≡ true) where
  leads_nowhere : (a : What) (p : Option Place) (r : Place) → goes_by a p (m ∷ []) ≡ Some r → ⊥
  leads_nowhere a None r e = cc
  leads_nowhere a (Some p) r e = (let k : None ≡ Some r = sym (goes_nowhere a p) ∙ (sym (ap (goes a p) (is_other m q)) ∙ e) in cc)

  kept : (rest : List BackMessage) → without_asides (rest ++ m ∷ []) ≡ without_asides rest ++ m ∷ []
  kept rest = without_asides-append rest (m ∷ []) ∙ ap (λ (o : Option Aside). without_asides rest ++ kept_with o m []) (no_aside m q)

  never_empty : (xs : List BackMessage) → xs ++ m ∷ [] ≡ [] → ⊥
  never_empty [] e = cc
  never_empty (x ∷ xs) e = cc

  never_fits : (requests : List Request) (ss : List (List BackMessage)) (rest : List BackMessage) → FitAll requests ss (rest ++ m ∷ []) → ⊥
  never_fits [] [] rest f = never_empty (without_asides rest) (sym (kept rest) ∙ f)
  never_fits (r ∷ rs) [] rest f =
      let g = begins_go r (rest ++ m ∷ []) f (not_ready m (no_status m q) rest) in
      leads_nowhere (asked r) (goes_all (asked r) (without_asides rest)) g.0
      (sym (goes_by-append (asked r) (Some start) (without_asides rest) (m ∷ [])) ∙ (sym (ap (goes_all (asked r)) (kept rest)) ∙ g.1))
  never_fits [] (s ∷ ss) rest f = f
  never_fits (r ∷ rs) (s ∷ ss) rest f = never_fits rs ss rest f.1

  -- it is the first message of the startup, but for asides
  only_asides : (core : List BackMessage) (w : Option Welcome) → greet_all core ≡ w → Greeted core w → (greet_from w (m ∷ []) ≡ None → ⊥) → core ≡ []
  only_asides core None e g some = absurd (some refl)
  only_asides core (Some Fresh) e g some = g
  only_asides core (Some Asked) e g some = absurd (some (asked_once m q))
    where
      asked_once : (n : BackMessage) → asks_password n ≡ true → greet Asked n ≡ None
      asked_once AuthCleartext k = refl
      asked_once (AuthMd5 salt) k = refl
      asked_once _ k = absurd cc
  only_asides core (Some Admitted) e g some = absurd (some (admitted m q))
    where
      admitted : (n : BackMessage) → asks_password n ≡ true → greet Admitted n ≡ None
      admitted AuthCleartext k = refl
      admitted (AuthMd5 salt) k = refl
      admitted _ k = absurd cc

  startup_first : (rest : List BackMessage) → BeginsStartup (rest ++ m ∷ []) → without_asides rest ≡ []
  startup_first rest b = only_asides (without_asides rest) (greet_all (without_asides rest)) refl (greet_sound (without_asides rest)) (λ none.
      begins_greeted (rest ++ m ∷ []) b (not_ready m (no_status m q) rest) (ap greet_all (kept rest) ∙ greet_from-append (Some Fresh) (without_asides rest) (m ∷ []) ∙ none))

  session_first : (requests : List Request) (whole : List (List BackMessage)) (rest : List BackMessage) → IsSession requests whole (rest ++ m ∷ []) → (whole ≡ []) × (without_asides rest ≡ [])
  session_first requests [] rest s = (refl, startup_first rest s)
  session_first requests (w ∷ ws) rest s = absurd (never_fits requests ws rest s.1)

  -- nothing but asides came before
  pub comes_first : (password : Option (List ℕ)) (before : List Happening) → Expected password (before ++ Came m ∷ []) → (whole_in before ≡ []) × (without_asides (rest_in before) ≡ [])
  comes_first password before e =
      session_first (requests_in before) (whole_in before) (rest_in before)
      (subst (λ (o : Option Status). IsSession (requests_in before) (put_after o m (whole_in before) (rest_in before)).whole (put_after o m (whole_in before) (rest_in before)).rest) (no_status m q)
      (subst (λ (x : Segments). IsSession (requests_in before) x.whole x.rest) (segments_came before m)
      (subst (λ (rs : List Request). IsSession rs (whole_in (before ++ Came m ∷ [])) (rest_in (before ++ Came m ∷ []))) (requests_came before m) e.session)))

-- ---- what is answered

answers_or_asks : (settings : Settings) (m : BackMessage) → (answer_to settings m ≡ []) ⊎ (asks_password m ≡ true)
answers_or_asks settings AuthCleartext = inr refl
answers_or_asks settings (AuthMd5 salt) = inr refl
answers_or_asks settings _ = inl refl

one_answer : (settings : Settings) (m : BackMessage) → length (answer_to settings m) ≤ 1
one_answer settings AuthCleartext = by settings.password
  where
    by : (p : Option (List ℕ)) → length (password_messages p) ≤ 1
    by None = omega arith
    by (Some p) = omega arith
one_answer settings (AuthMd5 salt) = by settings.password
  where
    by : (p : Option (List ℕ)) → length (md5_messages settings.user p salt) ≤ 1
    by None = omega arith
    by (Some p) = omega arith
one_answer settings _ = omega arith

aside_unanswered : (settings : Settings) (m : BackMessage) (a : Aside) → aside_of m ≡ Some a → answer_to settings m ≡ []
aside_unanswered settings AuthCleartext a e = absurd cc
aside_unanswered settings (AuthMd5 salt) a e = absurd cc
aside_unanswered settings _ a e = refl

asides_unanswered : (settings : Settings) (ms : List BackMessage) → without_asides ms ≡ [] → passwords settings ms ≡ []
asides_unanswered settings [] e = refl
asides_unanswered settings (m ∷ ms) e = by (aside_of m) refl (asides_unanswered settings ms) e
  where
    by : (o : Option Aside) → aside_of m ≡ o → (without_asides ms ≡ [] → passwords settings ms ≡ []) → kept_with o m (without_asides ms) ≡ [] → answer_to settings m ++ passwords settings ms ≡ []
    by None is others k = absurd cc
    by (Some a) is others k = ap (λ (xs : List FrontMessage). xs ++ passwords settings ms) (aside_unanswered settings m a is) ∙ others k

-- where no segment is whole, all messages are those of the rest
all_rest : (ms : List BackMessage) → (segments ms).whole ≡ [] → (segments ms).rest ≡ ms
all_rest [] e = refl
all_rest (m ∷ ms) e = by (status_of m) (segments ms).whole (all_rest ms) e
  where
    by : (o : Option Status) (whole : List (List BackMessage)) → (whole ≡ [] → (segments ms).rest ≡ ms) → (put_before o m whole (segments ms).rest).whole ≡ [] → (put_before o m whole (segments ms).rest).rest ≡ m ∷ ms
    by (Some status) whole others k = absurd cc
    by None [] others k = ap (λ (xs : List BackMessage). m ∷ xs) (others refl)
    by None (w ∷ ws) others k = absurd cc

first_stays : (settings : Settings) (m : BackMessage) (ws : List BackMessage) (o : Option Aside) → answer_to settings m ≡ [] → first_answer settings ws ≡ first_answer settings (ws ++ kept_with o m [])
first_stays settings m [] None e = sym e
first_stays settings m [] (Some a) e = refl
first_stays settings m (w ∷ ws) o e = refl

none_before : (settings : Settings) (before : List Happening) → (whole_in before ≡ []) × (without_asides (rest_in before) ≡ []) → passwords settings (messages_in before) ≡ []
none_before settings before f = asides_unanswered settings (messages_in before) (ap without_asides (sym (all_rest (messages_in before) f.0)) ∙ f.1)

passwords-append : (settings : Settings) (before : List Happening) (h : Happening) → passwords settings (messages_in (before ++ h ∷ [])) ≡ passwords settings (messages_in before) ++ passwords settings (messages_in (h ∷ []))
passwords-append settings before h = ap (passwords settings) (messages_in-append before (h ∷ [])) ∙ flat_map-append (answer_to settings) (messages_in before) (messages_in (h ∷ []))

module _ (settings : Settings) (hs : List Happening) (expected : Expected settings.password hs) where
  expected_then : (before : List Happening) (m : BackMessage) (later : List Happening) → hs ≡ before ++ Came m ∷ later → Expected settings.password (before ++ Came m ∷ [])
  expected_then before m later e =
      expected_begins settings.password (before ++ Came m ∷ []) later (subst (Expected settings.password) (e ∙ sym (append_assoc before (Came m ∷ []) later)) expected)

  pub one_password : length (passwords settings (messages_in hs)) ≤ 1
  one_password = along (λ x. length (passwords settings (messages_in x)) ≤ 1) hs (omega arith) step
    where
      came : (before : List Happening) (m : BackMessage) → (answer_to settings m ≡ []) ⊎ (asks_password m ≡ true) → Expected settings.password (before ++ Came m ∷ []) → length (passwords settings (messages_in before)) ≤ 1 → length (passwords settings (messages_in (before ++ Came m ∷ []))) ≤ 1
      came before m (inl none) now le =
          omega (arith, le, ap length (passwords-append settings before (Came m)), length-append (passwords settings (messages_in before)) (answer_to settings m ++ []), length-append (answer_to settings m) [], ap length none)
      came before m (inr q) now le =
          omega (arith, ap length (none_before settings before (comes_first m q settings.password before now)), ap length (passwords-append settings before (Came m)), length-append (passwords settings (messages_in before)) (answer_to settings m ++ []), length-append (answer_to settings m) [], one_answer settings m)

      step : (before : List Happening) (h : Happening) (later : List Happening) → hs ≡ before ++ h ∷ later → length (passwords settings (messages_in before)) ≤ 1 → length (passwords settings (messages_in (before ++ h ∷ []))) ≤ 1
      step before (Did c) later e le = omega (arith, le, ap length (passwords-append settings before (Did c)), length-append (passwords settings (messages_in before)) [])
      step before (Came m) later e le = came before m (answers_or_asks settings m) (expected_then before m later e) le

  pub answers_first : passwords settings (messages_in hs) ≡ first_answer settings (without_asides (messages_in hs))
  answers_first = along (λ x. passwords settings (messages_in x) ≡ first_answer settings (without_asides (messages_in x))) hs refl step
    where
      came : (before : List Happening) (m : BackMessage) → (answer_to settings m ≡ []) ⊎ (asks_password m ≡ true) → Expected settings.password (before ++ Came m ∷ [])
          → passwords settings (messages_in before) ≡ first_answer settings (without_asides (messages_in before))
          → passwords settings (messages_in before) ++ (answer_to settings m ++ []) ≡ first_answer settings (without_asides (messages_in before ++ m ∷ []))
      came before m (inl none) now e =
          ap (λ (xs : List FrontMessage). passwords settings (messages_in before) ++ (xs ++ [])) none ∙ append-nil (passwords settings (messages_in before)) ∙ e
          ∙ first_stays settings m (without_asides (messages_in before)) (aside_of m) none
          ∙ ap (first_answer settings) (sym (without_asides-append (messages_in before) (m ∷ [])))
      came before m (inr q) now e =
          let first = comes_first m q settings.password before now in
          let none : without_asides (messages_in before) ≡ [] = ap without_asides (sym (all_rest (messages_in before) first.0)) ∙ first.1 in
          ap (λ (xs : List FrontMessage). xs ++ (answer_to settings m ++ [])) (none_before settings before first) ∙ append-nil (answer_to settings m)
          ∙ ap (λ (xs : List BackMessage). first_answer settings (xs ++ m ∷ [])) (sym none)
          ∙ ap (first_answer settings) (sym (kept m q (messages_in before)))

      step : (before : List Happening) (h : Happening) (later : List Happening) → hs ≡ before ++ h ∷ later
          → passwords settings (messages_in before) ≡ first_answer settings (without_asides (messages_in before))
          → passwords settings (messages_in (before ++ h ∷ [])) ≡ first_answer settings (without_asides (messages_in (before ++ h ∷ [])))
      step before (Did c) later e was =
          subst (λ (ms : List BackMessage). passwords settings ms ≡ first_answer settings (without_asides ms)) (sym (messages_in-append before (Did c ∷ []) ∙ append-nil (messages_in before))) was
      step before (Came m) later e was =
          passwords-append settings before (Came m) ∙ came before m (answers_or_asks settings m) (expected_then before m later e) was
          ∙ ap (λ (ms : List BackMessage). first_answer settings (without_asides ms)) (sym (messages_in-append before (Came m ∷ [])))

-- ---- the password goes out before all calls but the first

-- a call of terminate is among them
abbrev HasEnd : List Call → Type 0
HasEnd [] = ⊥
HasEnd (call.Terminate ∷ cs) = Unit {0}
HasEnd (_ ∷ cs) = HasEnd cs

end_terminates : (hs : List Happening) → HasEnd (calls_in hs) → IsTerminated hs
end_terminates [] t = t
end_terminates (Did call.Terminate ∷ hs) t = tt
end_terminates (Did _ ∷ hs) t = end_terminates hs t
end_terminates (Came m ∷ hs) t = end_terminates hs t

no_call : (cs : List Call) → IsOrderly cs → turns_of cs ≡ [] → (HasEnd cs → ⊥) → after_first cs ≡ []
no_call [] o none on = refl
no_call (call.Start ∷ []) o none on = refl
no_call (call.Start ∷ call.Terminate ∷ cs) o none on = absurd (on tt)
no_call (call.Start ∷ call.Request r ∷ cs) o none on = absurd cc
no_call (call.Start ∷ _ ∷ cs) o none on = absurd o
no_call (_ ∷ cs) o none on = absurd o

no_turns : (cs : List Call) → map (λ t. t.request) (turns_of cs) ≡ [] → turns_of cs ≡ []
no_turns cs e = by (turns_of cs) e
  where
    by : (ts : List Turn) → map (λ t. t.request) ts ≡ [] → ts ≡ []
    by [] k = refl
    by (t ∷ ts) k = absurd cc

swap : (p a b : List ℕ) → (a ≡ []) ⊎ (b ≡ []) → (p ++ b) ++ a ≡ (p ++ a) ++ b
swap p a b (inl e) = subst (λ (x : List ℕ). (p ++ b) ++ x ≡ (p ++ x) ++ b) (sym e) (append-nil (p ++ b) ∙ ap (λ (x : List ℕ). x ++ b) (sym (append-nil p)))
swap p a b (inr e) = subst (λ (x : List ℕ). (p ++ x) ++ a ≡ (p ++ a) ++ x) (sym e) (ap (λ (x : List ℕ). x ++ a) (append-nil p) ∙ sym (append-nil (p ++ a)))

module _ (settings : Settings) where
  abbrev Spelled : List FrontMessage → List ℕ
  Spelled ms = flat_map (spelling frontend) ms

  -- what went out is what the first call sends, then the password, then what the other calls send
  abbrev Cut : List Call → List BackMessage → List ℕ → Type 0
  Cut cs heard sent = sent ≡ sent_first settings cs ++ (Spelled (passwords settings heard) ++ flat_map (sent_by settings) (after_first cs))

  one_call : (cs : List Call) (c : Call) (heard : List BackMessage) (sent : List ℕ) → (cs ≡ [] → heard ≡ []) → Cut cs heard sent → Cut (cs ++ c ∷ []) heard (sent ++ sent_by settings c)
  one_call [] c heard sent first cut =
      subst (λ (ms : List BackMessage). sent ++ sent_by settings c ≡ sent_by settings c ++ (Spelled (passwords settings ms) ++ [])) (sym (first refl))
      (ap (λ (bs : List ℕ). bs ++ sent_by settings c) (subst (λ (ms : List BackMessage). sent ≡ Spelled (passwords settings ms) ++ []) (first refl) cut) ∙ sym (append-nil (sent_by settings c)))
  one_call (d ∷ ds) c heard sent first cut =
      ap (λ (bs : List ℕ). bs ++ sent_by settings c) cut
      ∙ append_assoc (sent_by settings d) (Spelled (passwords settings heard) ++ flat_map (sent_by settings) ds) (sent_by settings c)
      ∙ ap (λ (bs : List ℕ). sent_by settings d ++ bs)
      (append_assoc (Spelled (passwords settings heard)) (flat_map (sent_by settings) ds) (sent_by settings c)
      ∙ ap (λ (bs : List ℕ). Spelled (passwords settings heard) ++ bs)
      (sym (flat_map-append (sent_by settings) ds (c ∷ []) ∙ ap (λ (bs : List ℕ). flat_map (sent_by settings) ds ++ bs) (append-nil (sent_by settings c)))))

  one_message : (cs : List Call) (heard : List BackMessage) (m : BackMessage) (sent : List ℕ) → (answer_to settings m ≡ []) ⊎ (after_first cs ≡ []) → Cut cs heard sent → Cut cs (heard ++ m ∷ []) (sent ++ Spelled (answer_to settings m))
  one_message cs heard m sent early cut =
      let answers : passwords settings (heard ++ m ∷ []) ≡ passwords settings heard ++ answer_to settings m =
      flat_map-append (answer_to settings) heard (m ∷ []) ∙ ap (λ (ms : List FrontMessage). passwords settings heard ++ ms) (append-nil (answer_to settings m)) in
      ap (λ (bs : List ℕ). bs ++ Spelled (answer_to settings m)) cut
      ∙ append_assoc (sent_first settings cs) (Spelled (passwords settings heard) ++ flat_map (sent_by settings) (after_first cs)) (Spelled (answer_to settings m))
      ∙ ap (λ (bs : List ℕ). sent_first settings cs ++ bs)
      (swap (Spelled (passwords settings heard)) (Spelled (answer_to settings m)) (flat_map (sent_by settings) (after_first cs)) (either early)
      ∙ ap (λ (bs : List ℕ). bs ++ flat_map (sent_by settings) (after_first cs)) (sym (ap Spelled answers ∙ flat_map-append (spelling frontend) (passwords settings heard) (answer_to settings m))))
    where
      either : (answer_to settings m ≡ []) ⊎ (after_first cs ≡ []) → (Spelled (answer_to settings m) ≡ []) ⊎ (flat_map (sent_by settings) (after_first cs) ≡ [])
      either (inl none) = inl (ap Spelled none)
      either (inr none) = inr (ap (flat_map (sent_by settings)) none)

no_more : (rs : List Request) → length rs ≤ 0 → rs ≡ []
no_more [] le = refl
no_more (r ∷ rs) le = absurd (omega (arith, le))

started_called : (hs : List Happening) → IsStarted hs → calls_in hs ≡ [] → ⊥
started_called [] s e = s
started_called (Did c ∷ hs) s e = cc
started_called (Came m ∷ hs) s e = started_called hs s e

module _ (settings : Settings) (hs : List Happening) (allowed : AreAllowed hs) (expected : Expected settings.password hs)
    (open_then : (before : List Happening) (m : BackMessage) (later : List Happening) → hs ≡ before ++ Came m ∷ later → IsTerminated before → ⊥) where
  allowed_then : (before later : List Happening) → hs ≡ before ++ later → AreAllowed before
  allowed_then before later e = allowed_begins before later (subst AreAllowed e allowed)

  asked_first : (before : List Happening) (m : BackMessage) (later : List Happening) → hs ≡ before ++ Came m ∷ later → asks_password m ≡ true → after_first (calls_in before) ≡ []
  asked_first before m later e q =
      let all = allowed_then before (Came m ∷ later) e in
      let first = comes_first m q settings.password before (expected_then settings hs expected before m later e) in
      let none : requests_in before ≡ [] = no_more (requests_in before) (omega (arith, are_answered before all, ap length first.0)) in
      no_call (calls_in before) (orderly_from [] before all (λ s. s) refl) (no_turns (calls_in before) (requests_of before ∙ none)) (λ t. open_then before m later e (end_terminates before t))

  in_its_place : (before : List Happening) (m : BackMessage) (later : List Happening) → hs ≡ before ++ Came m ∷ later → (answer_to settings m ≡ []) ⊎ (asks_password m ≡ true) → (answer_to settings m ≡ []) ⊎ (after_first (calls_in before) ≡ [])
  in_its_place before m later e (inl none) = inl none
  in_its_place before m later e (inr q) = inr (asked_first before m later e q)

  none_heard : (before : List Happening) → (messages_in before ≡ []) ⊎ IsStarted before → calls_in before ≡ [] → messages_in before ≡ []
  none_heard before (inl none) e = none
  none_heard before (inr s) e = absurd (started_called before s e)

  CutAt : List Happening → Type 0
  CutAt x = Cut settings (calls_in x) (messages_in x) (sent_in settings x)

  cut_step : (before : List Happening) (h : Happening) (later : List Happening) → hs ≡ before ++ h ∷ later → CutAt before → CutAt (before ++ h ∷ [])
  unfolding CutAt
  cut_step before (Did c) later e cut =
      subst (λ (cs : List Call). Cut settings cs (messages_in (before ++ Did c ∷ [])) (sent_in settings (before ++ Did c ∷ []))) (sym (calls_in-append before (Did c ∷ [])))
      (subst (λ (ms : List BackMessage). Cut settings (calls_in before ++ c ∷ []) ms (sent_in settings (before ++ Did c ∷ []))) (sym (messages_in-append before (Did c ∷ []) ∙ append-nil (messages_in before)))
      (subst (λ (bs : List ℕ). Cut settings (calls_in before ++ c ∷ []) (messages_in before) bs) (sym (sent_more settings before (Did c)))
      (one_call settings (calls_in before) c (messages_in before) (sent_in settings before) (none_heard before (heard_after_start before (after_begins before (Did c ∷ later) (subst AllAfter e expected.after)))) cut)))
  cut_step before (Came m) later e cut =
      subst (λ (cs : List Call). Cut settings cs (messages_in (before ++ Came m ∷ [])) (sent_in settings (before ++ Came m ∷ []))) (sym (calls_in-append before (Came m ∷ []) ∙ append-nil (calls_in before)))
      (subst (λ (ms : List BackMessage). Cut settings (calls_in before) ms (sent_in settings (before ++ Came m ∷ []))) (sym (messages_in-append before (Came m ∷ [])))
      (subst (λ (bs : List ℕ). Cut settings (calls_in before) (messages_in before ++ m ∷ []) bs) (sym (sent_more settings before (Came m)))
      (one_message settings (calls_in before) (messages_in before) m (sent_in settings before) (in_its_place before m later e (answers_or_asks settings m)) cut)))

  all_cut : CutAt hs
  unfolding CutAt
  all_cut = along CutAt hs refl cut_step

  pub in_turns : (sent : List ℕ) → sent ≡ sent_in settings hs → InTurns settings hs sent
  unfolding CutAt
  in_turns sent e =
      let cs : List Call = calls_in hs in
      let heard : List FrontMessage = passwords settings (messages_in hs) in
      let turns : List FrontMessage = flat_map turn_messages (turns_of cs) ++ farewell cs in
      let orderly : IsOrderly cs = orderly_from [] hs allowed (λ s. s) refl in
      record {
        sent_is = e ∙ all_cut
            ∙ ap (λ (bs : List ℕ). bs ++ (flat_map (spelling frontend) heard ++ flat_map (sent_by settings) (after_first cs))) (first_greets settings cs orderly)
            ∙ ap (λ (bs : List ℕ). greeting settings cs ++ (flat_map (spelling frontend) heard ++ bs)) (turns_after settings cs orderly)
            ∙ ap (λ (bs : List ℕ). greeting settings cs ++ bs) (sym (flat_map-append (spelling frontend) heard turns));
        one_password = one_password settings hs expected;
        first_answered = answers_first settings hs expected;
        requests = requests_of hs;
      }

-- ---- of a history

terminated_begins : (hs more : List Happening) → IsTerminated hs → IsTerminated (hs ++ more)
terminated_begins [] more t = absurd t
terminated_begins (Did call.Terminate ∷ hs) more t = tt
terminated_begins (Did _ ∷ hs) more t = terminated_begins hs more t
terminated_begins (Came m ∷ hs) more t = terminated_begins hs more t

ends_so : (settings : Settings) (hs : List Happening) (rest kept : List ℕ) (closed : Option Cause) → closed ≡ Some cause.Terminated → Ends settings hs rest kept closed → (before : List Happening) × (hs ≡ before ++ Did call.Terminate ∷ [])
ends_so settings hs rest kept closed is ends = (subst (Ends settings hs rest kept) is ends).1

pub history_in_turns : {K : Type 0} (way : Keeps K) (h : History way.Given) (client : View K) → Agrees way.tells h client → InTurns client.settings (happenings h) h.sent
history_in_turns way h client r = in_turns client.settings (happenings h) r.happened.allowed r.happened.expected open_then h.sent r.happened.sent_is
  where
    open_then : (before : List Happening) (m : BackMessage) (later : List Happening) → happenings h ≡ before ++ Came m ∷ later → IsTerminated before → ⊥
    open_then before m later e t =
        let end = ends_so client.settings (happenings h) h.rest client.kept client.closed (r.terminated.0 (subst IsTerminated (sym e) (terminated_begins before (Came m ∷ later) t))) r.ends in
        let s = front_splits end.0 (Did call.Terminate) before (Came m) later (sym end.1 ∙ e) in
        (r.happened.allowed end.0 call.Terminate [] end.1).not_terminated (subst IsTerminated (sym s.1) (terminated_begins before s.0 t))
