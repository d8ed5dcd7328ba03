-- What a client sends, request by request, and that it has a spelling.
use Rattle.std.proofs.Common.{◌≡◌, ℕ, List, [], ◌∷◌, ◌++◌, map, refl, sym, ap, subst, ◌∙◌, append_assoc}
use Rattle.std.specs.List.{flat_map, AllByRecursion}
use Rattle.pg_response.proofs.Lists.{all_both}
use Rattle.std.proofs.lemmas.Grind.{flat_map-append}
use Rattle.pg_wire.specs.message.BackMessage.{BackMessage}
use Rattle.pg_wire.specs.message.FrontMessage.{FrontMessage}
use Rattle.pg_wire.specs.declared.session.Request.{Request}
use Rattle.pg_wire.specs.Direction.{spelling, HasSpelling}
use Rattle.pg_wire.specs.Frontend.{frontend}
use Rattle.pg_wire.specs.Segment.{request_messages}
use Rattle.pg_client.specs.declared.settings.Settings.{Settings}
use Rattle.pg_client.specs.declared.call.Call.{Call}
use Rattle.pg_client.specs.declared.call.Call.TheVariants as call
use Rattle.pg_client.specs.Session.{Happening, Did, Came, requests_in, IsStarted, IsTerminated, AreAllowed, messages_in}
use Rattle.pg_client.specs.Sent.{call_messages, sent_by, startup_pairs, answer_to, IsSpelled, IsSpelledAt}
use Rattle.pg_wire.specs.Turns.{turn_messages}
use Rattle.pg_client.specs.Turns.{copies_of, turns_of, calls_in, greeting, farewell, passwords}
use Rattle.pg_client.proofs.Calling.Accepting.{terminated_within}
use Rattle.pg_client.proofs.Events.Happening.{requests_in-more, IsStarted-more}
use Rattle.pg_client.proofs.Turns.Ordering.{requests_of_calls}
use Rattle.pg_wire.specs.message.First.TheVariants.{Startup}
use Rattle.pg_wire.specs.First.{IsPacket}
use Rattle.pg_client.specs.Spelled.{SendsSpelled}

-- ---- calls in order: start, then requests and their copies, then the end

abbrev pub AsksOrEnds : List Call → Type 0
AsksOrEnds [] = Unit {0}
AsksOrEnds (call.Request r ∷ cs) = AsksOrEnds cs
AsksOrEnds (call.Chunk bytes ∷ cs) = AsksOrEnds cs
AsksOrEnds (call.Done ∷ cs) = AsksOrEnds cs
AsksOrEnds (call.Fail reason ∷ cs) = AsksOrEnds cs
AsksOrEnds (call.Terminate ∷ cs) = cs ≡ []
AsksOrEnds (call.Start ∷ cs) = ⊥

abbrev pub BeginsAsking : List Call → Type 0
BeginsAsking [] = Unit {0}
BeginsAsking (call.Request r ∷ cs) = AsksOrEnds cs
BeginsAsking (call.Terminate ∷ cs) = cs ≡ []
BeginsAsking (_ ∷ cs) = ⊥

abbrev pub IsOrderly : List Call → Type 0
IsOrderly [] = Unit {0}
IsOrderly (call.Start ∷ cs) = BeginsAsking cs
IsOrderly (_ ∷ cs) = ⊥

-- the calls after others, of those that were all allowed
module _ where
  after : (before : List Happening) (h : Happening) (hs : List Happening) → AreAllowed (before ++ h ∷ hs) → AreAllowed ((before ++ h ∷ []) ++ hs)
  after before h hs all = subst AreAllowed (sym (append_assoc before (h ∷ []) hs)) all

  terminated_stays : (before : List Happening) (h : Happening) → IsTerminated before → IsTerminated (before ++ h ∷ [])
  terminated_stays [] h t = absurd t
  terminated_stays (Did call.Terminate ∷ hs) h t = tt
  terminated_stays (Did _ ∷ hs) h t = terminated_stays hs h t
  terminated_stays (Came x ∷ hs) h t = terminated_stays hs h t

  none_after : (before hs : List Happening) → AreAllowed (before ++ hs) → IsTerminated before → calls_in hs ≡ []
  none_after before [] all t = refl
  none_after before (Did c ∷ hs) all t = absurd ((all before c hs refl).not_terminated t)
  none_after before (Came m ∷ hs) all t = none_after (before ++ Came m ∷ []) hs (after before (Came m) hs all) (terminated_stays before (Came m) t)

  ends_here : (before hs : List Happening) → AreAllowed (before ++ Did call.Terminate ∷ hs) → calls_in hs ≡ []
  ends_here before hs all = none_after (before ++ Did call.Terminate ∷ []) hs (after before (Did call.Terminate) hs all) (terminated_within before [])

  -- once a request was made
  asked_on : (before hs : List Happening) → AreAllowed (before ++ hs) → IsStarted before → AsksOrEnds (calls_in hs)
  asked_on before [] all s = tt
  asked_on before (Came m ∷ hs) all s = asked_on (before ++ Came m ∷ []) hs (after before (Came m) hs all) (IsStarted-more before (Came m) s)
  asked_on before (Did call.Start ∷ hs) all s = (all before call.Start hs refl).in_place s
  asked_on before (Did call.Terminate ∷ hs) all s = ends_here before hs all
  asked_on before (Did c ∷ hs) all s = asked_on (before ++ Did c ∷ []) hs (after before (Did c) hs all) (IsStarted-more before (Did c) s)

  no_request : (before : List Happening) (m : BackMessage) → requests_in before ≡ [] → requests_in (before ++ Came m ∷ []) ≡ []
  no_request before m e = requests_in-more before (Came m) ∙ ap (λ (rs : List Request). rs ++ []) e

  -- started, and no request was made
  started_on : (before hs : List Happening) → AreAllowed (before ++ hs) → IsStarted before → requests_in before ≡ [] → BeginsAsking (calls_in hs)
  started_on before [] all s e = tt
  started_on before (Came m ∷ hs) all s e = started_on (before ++ Came m ∷ []) hs (after before (Came m) hs all) (IsStarted-more before (Came m) s) (no_request before m e)
  started_on before (Did call.Start ∷ hs) all s e = (all before call.Start hs refl).in_place s
  started_on before (Did (call.Request r) ∷ hs) all s e = asked_on (before ++ Did (call.Request r) ∷ []) hs (after before (Did (call.Request r)) hs all) (IsStarted-more before (Did (call.Request r)) s)
  started_on before (Did call.Terminate ∷ hs) all s e = ends_here before hs all
  started_on before (Did c ∷ hs) all s e = absurd ((all before c hs refl).in_place.0 e)

  started_last : (before : List Happening) → IsStarted (before ++ Did call.Start ∷ [])
  started_last [] = tt
  started_last (Did call.Start ∷ hs) = tt
  started_last (Did _ ∷ hs) = started_last hs
  started_last (Came x ∷ hs) = started_last hs

  came_starts_not : (before : List Happening) (m : BackMessage) → (IsStarted before → ⊥) → IsStarted (before ++ Came m ∷ []) → ⊥
  came_starts_not [] m n s = s
  came_starts_not (Did call.Start ∷ hs) m n s = n tt
  came_starts_not (Did _ ∷ hs) m n s = came_starts_not hs m n s
  came_starts_not (Came x ∷ hs) m n s = came_starts_not hs m n s

  -- before start
  pub orderly_from : (before hs : List Happening) → AreAllowed (before ++ hs) → (IsStarted before → ⊥) → requests_in before ≡ [] → IsOrderly (calls_in hs)
  orderly_from before [] all n e = tt
  orderly_from before (Came m ∷ hs) all n e = orderly_from (before ++ Came m ∷ []) hs (after before (Came m) hs all) (came_starts_not before m n) (no_request before m e)
  orderly_from before (Did call.Start ∷ hs) all n e = started_on (before ++ Did call.Start ∷ []) hs (after before (Did call.Start) hs all) (started_last before) (requests_in-more before (Did call.Start) ∙ ap (λ (rs : List Request). rs ++ []) e)
  orderly_from before (Did (call.Request r) ∷ hs) all n e = n (all before (call.Request r) hs refl).in_place.0
  orderly_from before (Did call.Terminate ∷ hs) all n e = n (all before call.Terminate hs refl).in_place
  orderly_from before (Did c ∷ hs) all n e = (all before c hs refl).in_place.0 e

-- ---- what they send

-- the messages of calls after a request
asked_sent : (cs : List Call) → AsksOrEnds cs → flat_map call_messages cs ≡ copies_of cs ++ (flat_map turn_messages (turns_of cs) ++ farewell cs)
asked_sent [] h = refl
asked_sent (call.Request r ∷ cs) h =
    ap (λ (ms : List FrontMessage). request_messages r ++ ms) (asked_sent cs h)
    ∙ sym (append_assoc (request_messages r) (copies_of cs) (flat_map turn_messages (turns_of cs) ++ farewell cs))
    ∙ sym (append_assoc (request_messages r ++ copies_of cs) (flat_map turn_messages (turns_of cs)) (farewell cs))
asked_sent (call.Terminate ∷ cs) h = rw h refl
asked_sent (call.Start ∷ cs) h = absurd h
asked_sent (c ∷ cs) h = ap (λ (ms : List FrontMessage). call_messages c ++ ms) (asked_sent cs h)

pub started_sent : (cs : List Call) → BeginsAsking cs → flat_map call_messages cs ≡ flat_map turn_messages (turns_of cs) ++ farewell cs
started_sent [] h = refl
started_sent (call.Request r ∷ cs) h = asked_sent (call.Request r ∷ cs) h
started_sent (call.Terminate ∷ cs) h = rw h refl
started_sent (_ ∷ cs) h = absurd h

-- after start each call sends the spellings of its messages
sent_after : (settings : Settings) (cs : List Call) → AsksOrEnds cs → flat_map (sent_by settings) cs ≡ flat_map (spelling frontend) (flat_map call_messages cs)
sent_after settings [] h = refl
sent_after settings (call.Start ∷ cs) h = absurd h
sent_after settings (call.Terminate ∷ cs) h = rw h refl
sent_after settings (c ∷ cs) h = ap (λ (bs : List ℕ). sent_by settings c ++ bs) (sent_after settings cs h) ∙ sym (flat_map-append (spelling frontend) (call_messages c) (flat_map call_messages cs))

begins_after : (settings : Settings) (cs : List Call) → BeginsAsking cs → flat_map (sent_by settings) cs ≡ flat_map (spelling frontend) (flat_map call_messages cs)
begins_after settings [] h = refl
begins_after settings (call.Request r ∷ cs) h = sent_after settings (call.Request r ∷ cs) h
begins_after settings (call.Terminate ∷ cs) h = rw h refl
begins_after settings (_ ∷ cs) h = absurd h

-- all calls but the first
abbrev pub after_first : List Call → List Call
after_first [] = []
after_first (c ∷ cs) = cs

-- what the first call sends
abbrev pub sent_first : Settings → List Call → List ℕ
sent_first settings [] = []
sent_first settings (c ∷ cs) = sent_by settings c

pub first_greets : (settings : Settings) (cs : List Call) → IsOrderly cs → sent_first settings cs ≡ greeting settings cs
first_greets settings [] h = refl
first_greets settings (call.Start ∷ cs) h = refl
first_greets settings (_ ∷ cs) h = absurd h

pub turns_after : (settings : Settings) (cs : List Call) → IsOrderly cs → flat_map (sent_by settings) (after_first cs) ≡ flat_map (spelling frontend) (flat_map turn_messages (turns_of cs) ++ farewell cs)
turns_after settings [] h = refl
turns_after settings (call.Start ∷ cs) h = begins_after settings cs h ∙ ap (flat_map (spelling frontend)) (started_sent cs h)
turns_after settings (_ ∷ cs) h = absurd h

pub requests_of : (hs : List Happening) → map (λ t. t.request) (turns_of (calls_in hs)) ≡ requests_in hs
requests_of hs = sym (requests_of_calls hs)

-- ---- each has a spelling

calls_spelled : (settings : Settings) (hs : List Happening) → AllByRecursion (IsSpelledAt settings) hs → AllByRecursion (IsSpelled settings) (calls_in hs)
calls_spelled settings [] h = tt
calls_spelled settings (Did c ∷ hs) h = (h.0, calls_spelled settings hs h.1)
calls_spelled settings (Came m ∷ hs) h = calls_spelled settings hs h.1

messages_spelled : (settings : Settings) (cs : List Call) → AllByRecursion (IsSpelled settings) cs → AllByRecursion (HasSpelling frontend) (flat_map call_messages cs)
messages_spelled settings [] h = tt
messages_spelled settings (call.Start ∷ cs) h = messages_spelled settings cs h.1
messages_spelled settings (call.Request r ∷ cs) h = all_both (HasSpelling frontend) (request_messages r) (flat_map call_messages cs) h.0 (messages_spelled settings cs h.1)
messages_spelled settings (_ ∷ cs) h = (h.0.0, messages_spelled settings cs h.1)

orderly_messages : (cs : List Call) → IsOrderly cs → flat_map call_messages cs ≡ flat_map turn_messages (turns_of cs) ++ farewell cs
orderly_messages [] h = refl
orderly_messages (call.Start ∷ cs) h = started_sent cs h
orderly_messages (_ ∷ cs) h = absurd h

orderly_packet : (settings : Settings) (cs : List Call) → IsOrderly cs → AllByRecursion (IsSpelled settings) cs → (d : Call) (ds : List Call) → cs ≡ d ∷ ds → IsPacket (Startup (startup_pairs settings))
orderly_packet settings [] h s d ds e = absurd cc
orderly_packet settings (call.Start ∷ cs) h s d ds e = s.0.0
orderly_packet settings (_ ∷ cs) h s d ds e = absurd h

passwords_spelled : (settings : Settings) (hs : List Happening) → AllByRecursion (IsSpelledAt settings) hs → AllByRecursion (HasSpelling frontend) (passwords settings (messages_in hs))
passwords_spelled settings [] h = tt
passwords_spelled settings (Did c ∷ hs) h = passwords_spelled settings hs h.1
passwords_spelled settings (Came m ∷ hs) h = all_both (HasSpelling frontend) (answer_to settings m) (passwords settings (messages_in hs)) h.0 (passwords_spelled settings hs h.1)

pub spelled_in_turns : (settings : Settings) (hs : List Happening) → AreAllowed hs → AllByRecursion (IsSpelledAt settings) hs → SendsSpelled settings hs
spelled_in_turns settings hs all spelled =
    let orderly : IsOrderly (calls_in hs) = orderly_from [] hs all (λ s. s) refl in
    let calls = calls_spelled settings hs spelled in
    record {
      packet = orderly_packet settings (calls_in hs) orderly calls;
      messages = all_both (HasSpelling frontend) (passwords settings (messages_in hs)) (flat_map turn_messages (turns_of (calls_in hs)) ++ farewell (calls_in hs))
          (passwords_spelled settings hs spelled)
          (subst (AllByRecursion (HasSpelling frontend)) (orderly_messages (calls_in hs) orderly) (messages_spelled settings (calls_in hs) calls));
    }
