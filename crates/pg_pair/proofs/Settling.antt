-- What a client has settled is a beginning of what the backend has answered.
use Rattle.pg_client.specs.View.{groups_waiting}
use Rattle.std.proofs.Common.{◌≡◌, ℕ, List, [], ◌∷◌, ◌++◌, map, drop, take, refl, ap, sym, subst, ◌∙◌, append_assoc, ◌⊎◌, inl, inr, length, suc, arith, ◌≤◌}
use Rattle.std.specs.List.{flat_map, AllByRecursion}
use Rattle.std.proofs.lemmas.List.{append-nil, take-append-drop, length-map}
use Rattle.pg_wire.specs.message.BackMessage.{BackMessage}
use Rattle.pg_wire.specs.message.FrontMessage.{FrontMessage}
use Rattle.pg_wire.specs.message.FrontMessage.TheVariants as front
use Rattle.pg_wire.specs.declared.session.Request.{Request}
use Rattle.pg_wire.specs.declared.session.Request.TheVariants.{Query, Group}
use Rattle.pg_wire.specs.declared.session.Step.TheVariants as step
use Rattle.pg_wire.specs.Direction.{spelling, HasSpelling}
use Rattle.pg_wire.specs.First.{IsPacket}
use Rattle.pg_wire.specs.Frontend.{frontend}
use Rattle.pg_wire.specs.Laws.{OneOutcome}
use Rattle.pg_wire.specs.Segment.{Fits, Segments, segments, request_messages, without_asides}
use Rattle.pg_client.specs.declared.settings.Settings.{Settings}
use Rattle.pg_client.specs.declared.settled.Settled.{Settled}
use Rattle.pg_client.specs.declared.call.Call.{Call}
use Rattle.pg_client.specs.declared.call.Call.TheVariants as call
use Rattle.pg_client.specs.Session.{Happening, Did, Came, messages_in, requests_in, IsAfterItsCall, groups_in}
use Rattle.pg_client.specs.Client.{happenings}
use Rattle.pg_client.specs.Facts.{FirstSettled}
use Rattle.pg_client.specs.Turns.{turns_of, calls_in, passwords, first_answer, messages_after, greeting, farewell}
use Rattle.pg_client.specs.Answering.{calls_of, turns_in}
use Rattle.pg_backend.specs.declared.script.Logged.{Logged}
use Rattle.pg_backend.specs.Laws.{FitEach, AreFirstOf}
use Rattle.pg_backend.specs.Lists.{IsPrefix}
use Rattle.pg_backend.specs.Opening.{welcome, question_for}
use Rattle.pg_backend.specs.Session.{replies, log_of}
use Rattle.pg_wire.specs.Turns.{Turn, turn_messages, chunks_of}
use Rattle.pg_backend.specs.Turns.{TookEach}
use Rattle.pg_pair.specs.Copies.{turns_made}
use Rattle.pg_pair.specs.Headline.{settled_as, answered_as, requests_of, requests_logged, MatchesCalls}
use Rattle.pg_pair.specs.Private.Known.{Known}
use Rattle.pg_pair.specs.Invariant.{Tied}
use Rattle.pg_pair.specs.View.{arrived, waiting, PairView}
use Rattle.pg_backend.proofs.Beginnings.{begins_cons, begins_head, begins_nil, begins_tail, begins_take}
use Rattle.pg_pair.proofs.Histories.{in_pair, tied_history}
use Rattle.pg_pair.proofs.Meeting.{user_of, IsSilent, SendsPassword, HasMet, meets}
use Rattle.pg_pair.proofs.Opening.{opening, IsUnread, IsRead, reads}
use Rattle.pg_pair.proofs.Streams.{segments_grow}

-- ---- over lists

-- groups that are settled in order, by the segments that a log's entries fit
settled_first : OneOutcome → (rs : List Request) (xs : List (List BackMessage)) (ss : List Settled) (ls : List Logged) (ys : List (List BackMessage))
    → FirstSettled rs xs ss → FitEach ls ys → IsPrefix xs ys → IsPrefix (map (λ (l : Logged). l.request) ls) rs
    → IsPrefix (map settled_as ss) (map answered_as ls)
settled_first one rs [] [] ls ys s f b q = begins_nil _
settled_first one [] [] (t ∷ ts) ls ys s f b q = absurd s
settled_first one (r ∷ rs) [] (t ∷ ts) ls ys s f b q = absurd s
settled_first one [] (x ∷ xs) ss ls ys s f b q = absurd s
settled_first one (r ∷ rs) (x ∷ xs) [] ls ys s f b q = absurd s
settled_first one (r ∷ rs) (x ∷ xs) (t ∷ ts) [] [] s f b q = let e = b.1 in cc
settled_first one (r ∷ rs) (x ∷ xs) (t ∷ ts) [] (y ∷ ys) s f b q = absurd f
settled_first one (r ∷ rs) (x ∷ xs) (t ∷ ts) (l ∷ ls) [] s f b q = absurd f
settled_first one (r ∷ rs) (x ∷ xs) (t ∷ ts) (l ∷ ls) (y ∷ ys) s f b q =
    let same : x ≡ y = begins_head x y xs ys b in
    let asks : l.request ≡ r = begins_head l.request r _ rs q in
    let theirs : Fits r x l.outcome = subst (λ v. Fits v x l.outcome) asks (subst (λ v. Fits l.request v l.outcome) (sym same) f.0) in
    let outcome : t.outcome ≡ l.outcome = one r x t.outcome l.outcome s.1 theirs in
    rw (s.0, outcome, ← asks) (begins_cons (l.request, l.outcome) _ _ (settled_first one rs xs ts ls ys s.2 f.1 (begins_tail x y xs ys b) (begins_tail l.request r _ rs q)))

without_first : (xs ys : List (List BackMessage)) (y : List BackMessage) → IsPrefix xs (y ∷ ys) → IsPrefix (drop 1 xs) ys
without_first [] ys y h = begins_nil ys
without_first (x ∷ xs) ys y h = begins_tail x y xs ys h

-- ---- what a client sends

-- the messages after the password: those of its turns, and maybe a Terminate
abbrev pub turns_sent : List (Call × ℕ) → List FrontMessage
turns_sent cs = flat_map turn_messages (turns_made cs) ++ farewell (calls_of cs)

-- all messages after the startup packet, by what was heard
abbrev pub all_messages : Settings → List BackMessage → List (Call × ℕ) → List FrontMessage
all_messages settings heard cs = passwords settings heard ++ turns_sent cs

one_farewell : (cs : List Call) → (farewell cs ≡ []) ⊎ (farewell cs ≡ front.Terminate ∷ [])
one_farewell [] = inl refl
one_farewell (call.Terminate ∷ cs) = inr refl
one_farewell (_ ∷ cs) = one_farewell cs

-- no message of a turn is a password, so the first isn't one
no_password : (ts : List Turn) (end : List FrontMessage) → (end ≡ []) ⊎ (end ≡ front.Terminate ∷ []) → (password : List ℕ) (more : List FrontMessage) → flat_map turn_messages ts ++ end ≡ front.Password password ∷ more → ⊥
no_password [] end (inl none) password more e = cc
no_password [] end (inr said) password more e = cc
no_password (t ∷ ts) end ends password more e = by_request t.request e
  where
    by_request : (r : Request) → ((request_messages r ++ t.copies) ++ flat_map turn_messages ts) ++ end ≡ front.Password password ∷ more → ⊥
    by_request (Query text) k = cc
    by_request (Group []) k = cc
    by_request (Group (step.Parse name text types ∷ steps)) k = cc
    by_request (Group (step.Bind portal statement formats values result_formats ∷ steps)) k = cc
    by_request (Group (step.Describe target name ∷ steps)) k = cc
    by_request (Group (step.Execute portal max_rows ∷ steps)) k = cc
    by_request (Group (step.Close target name ∷ steps)) k = cc

-- what is handled of these messages
handled_first : (ts : List Turn) (end handled left : List FrontMessage) → (end ≡ []) ⊎ (end ≡ front.Terminate ∷ []) → flat_map turn_messages ts ++ end ≡ handled ++ left → AreFirstOf handled ts
handled_first ts end handled left (inl none) e =
    (left ++ front.Terminate ∷ [], ap (λ l. l ++ front.Terminate ∷ []) (sym (append-nil (flat_map turn_messages ts)) ∙ ap (λ l. flat_map turn_messages ts ++ l) (sym none) ∙ e) ∙ append_assoc handled left (front.Terminate ∷ []))
handled_first ts end handled left (inr said) e = (left, ap (λ l. flat_map turn_messages ts ++ l) (sym said) ∙ e)

-- ---- of a pair

abbrev Happened : {C : Type 0} (p : PairView C) → Tied p → List Happening
Happened p t = happenings t.client.history

-- all messages that the client sends after its startup packet
abbrev pub Messages : {C : Type 0} (p : PairView C) → Tied p → List FrontMessage
Messages p t = all_messages p.client.settings t.client.history.heard t.client.history.calls

after_happened : Known → {C : Type 0} (p : PairView C) (t : Tied p) → messages_after p.client.settings (messages_in (Happened p t)) (calls_in (Happened p t)) ≡ Messages p t
after_happened k p t =
    let told = k.order t.client.history in
    ap (λ ms. messages_after p.client.settings ms (calls_in (Happened p t))) told.messages ∙ ap (messages_after p.client.settings t.client.history.heard) told.calls

-- what the client has sent, in messages
pub sent_messages : Known → {C : Type 0} (p : PairView C) (t : Tied p) → p.to_backend.sent ≡ greeting p.client.settings (calls_of t.client.history.calls) ++ flat_map (spelling frontend) (Messages p t)
sent_messages k p t =
    let turns = k.turns (in_pair p t.client.history) p.client (tied_history p t) in
    let told = k.order t.client.history in
    turns.sent_is ∙ ap (λ cs. greeting p.client.settings cs ++ flat_map (spelling frontend) (messages_after p.client.settings (messages_in (Happened p t)) (calls_in (Happened p t)))) told.calls
    ∙ ap (λ l. greeting p.client.settings (calls_of t.client.history.calls) ++ flat_map (spelling frontend) l) (after_happened k p t)

-- what it sends has a spelling
pub tied_spelled : Known → {C : Type 0} (p : PairView C) (t : Tied p) → AllByRecursion (HasSpelling frontend) (Messages p t)
tied_spelled k p t =
    let says = k.spelled (in_pair p t.client.history) p.client (tied_history p t) in
    subst (AllByRecursion (HasSpelling frontend)) (after_happened k p t) says.messages

pub tied_packet : Known → {C : Type 0} (p : PairView C) (t : Tied p) → (c : Call) (ds : List Call) → calls_of t.client.history.calls ≡ c ∷ ds → IsPacket (opening p.client.settings)
tied_packet k p t c ds e =
    let told = k.order t.client.history in
    let says = k.spelled (in_pair p t.client.history) p.client (tied_history p t) in
    says.packet c ds (told.calls ∙ e)

-- without a call nothing was heard
none_heard : (hs : List Happening) → ((before : List Happening) (m : BackMessage) (later : List Happening) → hs ≡ before ++ Came m ∷ later → IsAfterItsCall before m) → calls_in hs ≡ [] → messages_in hs ≡ []
none_heard [] after e = refl
none_heard (Did c ∷ hs) after e = absurd cc
none_heard (Came m ∷ hs) after e = absurd (after [] m hs refl).started

-- nor sent
pub tied_none : Known → {C : Type 0} (p : PairView C) (t : Tied p) → calls_of t.client.history.calls ≡ [] → Messages p t ≡ []
tied_none k p t e =
    let told = k.order t.client.history in
    let nothing : t.client.history.heard ≡ [] = sym (told.messages) ∙ none_heard (Happened p t) t.client.is_history.expected.after (told.calls ∙ e) in
    ap (messages_after p.client.settings t.client.history.heard) e ∙ ap (λ ms. messages_after p.client.settings ms []) nothing

-- the password that it has sent
tied_password : Known → {C : Type 0} (p : PairView C) (t : Tied p) → SendsPassword p.client.settings t.client.history.heard (turns_sent t.client.history.calls)
tied_password k p t =
    let turns = k.turns (in_pair p t.client.history) p.client (tied_history p t) in
    let told = k.order t.client.history in
    record {
      one = subst (λ ms. length (passwords p.client.settings ms) ≤ 1) told.messages turns.one_password;
      first = subst (λ ms. passwords p.client.settings ms ≡ first_answer p.client.settings (without_asides ms)) told.messages turns.first_answered;
      no_other = no_password (turns_made t.client.history.calls) (farewell (calls_of t.client.history.calls)) (one_farewell (calls_of t.client.history.calls));
    }

-- what the backend has read of what the client has sent
pub tied_reads : Known → {C : Type 0} (p : PairView C) (t : Tied p)
    → IsUnread t.backend.history.input ⊎ IsRead p.client.settings (Messages p t) t.backend.history.input t.backend.history.rest (waiting p.to_backend) p.to_backend.sent
tied_reads k p t =
    reads k.one_front k.one_packet p.client.settings (calls_of t.client.history.calls) (Messages p t) p.backend.limit t.backend.history.pushed (waiting p.to_backend) p.to_backend.sent t.backend.history.input t.backend.history.rest
    (tied_packet k p t) (tied_spelled k p t) (tied_none k p t) t.backend.is_history.input (ap (λ l. l ++ waiting p.to_backend) t.backend.pushed ∙ take-append-drop p.to_backend.reached p.to_backend.sent) (sent_messages k p t)

-- The client was let in, and this is what it heard.
abbrev pub Met : {C : Type 0} (p : PairView C) → Tied p → Type 0
Met p t = HasMet p.backend.script p.client.settings (turns_sent t.client.history.calls) t.backend.history.input t.backend.history.rest (waiting p.to_backend) p.to_backend.sent t.client.history.heard p.backend.log

-- what the two ends have of each other
pub tied_meets : Known → {C : Type 0} (p : PairView C) (t : Tied p) → IsSilent t.client.history.heard p.backend.log ⊎ Met p t
tied_meets k p t =
    meets k.one_back p.backend.script p.client.settings (turns_sent t.client.history.calls) t.backend.history.input t.backend.history.rest (waiting p.to_backend) p.to_backend.sent t.client.history.heard p.backend.log
    p.client.settings.limit (arrived p.to_client) t.client.history.rest (waiting p.to_client) (tied_password k p t) (tied_reads k p t)
    t.backend.faultless (tied_history p t).stream (take-append-drop p.to_client.reached p.to_client.sent ∙ sym t.backend.sent ∙ t.backend.is_history.sent_is) t.backend.is_history.spelled t.backend.is_history.log_is

-- the settled groups, by what was heard
pub settled_by_heard : Known → {C : Type 0} (p : PairView C) (t : Tied p) → FirstSettled (map (λ (x : Turn). x.request) (turns_made t.client.history.calls)) (drop 1 (segments t.client.history.heard).whole) p.settled
settled_by_heard k p t =
    let facts = k.facts (in_pair p t.client.history) p.client (tied_history p t) in
    let told = k.order t.client.history in
    subst (λ rs. FirstSettled rs (drop 1 (segments t.client.history.heard).whole) p.settled) told.requests
    (subst (λ ms. FirstSettled (requests_in (Happened p t)) (drop 1 (segments ms).whole) p.settled) told.messages
    (subst (FirstSettled (requests_in (Happened p t)) (groups_in (Happened p t))) (ap (λ l. p.settled ++ l) t.client.taken ∙ append-nil p.settled) facts.in_order))

none_settled : (rs : List Request) (xs : List (List BackMessage)) (ss : List Settled) → xs ≡ [] → FirstSettled rs xs ss → ss ≡ []
none_settled rs [] [] e h = refl
none_settled [] [] (s ∷ ss) e h = absurd h
none_settled (r ∷ rs) [] (s ∷ ss) e h = absurd h
none_settled rs (x ∷ xs) ss e h = absurd cc

-- the messages that the backend has handled after the password, as the first of the turns'
pub met_handled : {C : Type 0} (p : PairView C) (t : Tied p) (m : Met p t) → AreFirstOf m.since (turns_made t.client.history.calls)
met_handled p t m = handled_first (turns_made t.client.history.calls) (farewell (calls_of t.client.history.calls)) m.since m.read.left (one_farewell (calls_of t.client.history.calls)) m.follows

met_begins : Known → {C : Type 0} (p : PairView C) (t : Tied p) → Met p t → IsPrefix (map settled_as p.settled) (map answered_as p.backend.log)
met_begins k p t m =
    let answers = p.backend.script.answers in
    let ms = m.since in
    let user = user_of p.client.settings in
    let first : List BackMessage = question_for p.backend.script.auth user ++ welcome p.backend.script in
    let heard : IsPrefix (segments t.client.history.heard).whole (first ∷ (segments (replies answers ms)).whole) =
    subst (λ (s : Segments). IsPrefix (segments t.client.history.heard).whole s.whole) (k.welcome_is_segment p.backend.script user (replies answers ms))
    (segments_grow t.client.history.heard (question_for p.backend.script.auth user ++ (welcome p.backend.script ++ replies answers ms)) m.heard_is) in
    rw (m.log_is) (settled_first k.one_outcome (map (λ (x : Turn). x.request) (turns_made t.client.history.calls)) (drop 1 (segments t.client.history.heard).whole) p.settled (log_of answers ms) (segments (replies answers ms)).whole
    (settled_by_heard k p t) (k.segments_fit_log answers ms) (without_first (segments t.client.history.heard).whole (segments (replies answers ms)).whole first heard)
    (k.turns_logged answers (turns_made t.client.history.calls) ms t.turns.in_turn (met_handled p t m)))

pub settled_begin : Known → {C : Type 0} (p : PairView C) (t : Tied p) → IsPrefix (map settled_as p.settled) (map answered_as p.backend.log)
settled_begin k p t = elim (tied_meets k p t) [
  | inl s ↦ rw (none_settled _ _ _ (ap (drop 1) s.none) (settled_by_heard k p t)) (begins_nil _)
  | inr m ↦ met_begins k p t m
]

pub all_taken : Known → {C : Type 0} (p : PairView C) (t : Tied p) → TookEach p.backend.log p.handed
all_taken k p t = elim (tied_meets k p t) [
  | inl s ↦ rw (s.no_log) tt
  | inr m ↦ rw (m.log_is, t.turns.handed) (k.turns_loaded p.backend.script.answers (turns_made t.client.history.calls) m.since t.turns.in_turn t.turns.copied (met_handled p t m))
]

log_first : (ls : List Logged) (rs : List Request) → IsPrefix (map (λ (l : Logged). l.request) ls) rs → map (λ (l : Logged). l.request) ls ≡ take (length ls) rs
log_first ls rs h = begins_take (map (λ (l : Logged). l.request) ls) rs h ∙ ap (λ n. take n rs) (length-map ls (λ (l : Logged). l.request))

-- the log's requests are the first that were made
logged_first : Known → {C : Type 0} (p : PairView C) (t : Tied p) → requests_logged p.backend.log ≡ take (length p.backend.log) (requests_of (turns_made t.client.history.calls))
logged_first k p t = elim (tied_meets k p t) [
  | inl s ↦ rw (s.no_log) refl
  | inr m ↦ rw (m.log_is) (log_first (log_of p.backend.script.answers m.since) (requests_of (turns_made t.client.history.calls))
      (k.turns_logged p.backend.script.answers (turns_made t.client.history.calls) m.since t.turns.in_turn (met_handled p t m)))
]

pub all_asked : Known → {C : Type 0} (p : PairView C) (t : Tied p) → MatchesCalls p
all_asked k p t = record {
  history = t.client.history;
  client_history = t.client.is_history;
  fed = t.client.fed;
  given = t.client.given;
  sent = t.client.sent;
  fed_before = t.client.fed_before;
  logged = logged_first k p t;
  handed = t.turns.handed;
}

-- at most one request isn't settled
pub one_unsettled : Known → {C : Type 0} (p : PairView C) (t : Tied p) → length p.handed ≤ suc (length p.settled)
one_unsettled k p t =
    let hs = happenings t.client.history in
    let turns = k.answering (in_pair p t.client.history) p.client (tied_history p t) in
    let few : length (turns_in hs) ≤ suc (length (groups_in hs)) = (turns.in_turn hs [] (sym (append-nil hs))).one_at_most in
    let made : length (turns_in hs) ≡ length (turns_of (calls_of t.client.history.calls)) = ap (λ cs. length (turns_of cs)) ((k.order t.client.history).calls) in
    let all : length (p.settled ++ groups_waiting p.client) ≡ length (groups_in hs) = turns.settled_all in
    let given : length (p.settled ++ groups_waiting p.client) ≡ length p.settled = ap length (ap (λ l. p.settled ++ l) t.client.taken ∙ append-nil p.settled) in
    let handed : length p.handed ≡ length (turns_of (calls_of t.client.history.calls)) = ap length t.turns.handed ∙ length-map (turns_made t.client.history.calls) (λ (x : Turn). chunks_of x.copies) in
    omega arith
