-- What a client does and what comes goes by turns, and what settles as bytes come.
use Rattle.std.proofs.Common.{◌≡◌, suc, ◌≤◌, List, [], ◌∷◌, ◌++◌, length, drop, map, Option, Some, None, refl, sym, ap, subst, ◌∙◌, inl, inr, arith, ℕ, ◌+◌, take, Result, append_assoc, length-append, Ok, Err}
use Rattle.std.specs.Prelude.{◌≢◌}
use Rattle.std.specs.List.{AllByRecursion}
use Rattle.std.proofs.lemmas.List.{length-drop, length-map, append-nil, append_cancel_left, map-append}
use Rattle.pg_wire.specs.message.BackMessage.{BackMessage}
use Rattle.pg_wire.specs.declared.session.Request.{Request}
use Rattle.pg_client.specs.declared.phase.Cause.{Cause}
use Rattle.pg_client.specs.declared.phase.Cause.TheVariants as cause
use Rattle.pg_client.specs.declared.phase.Phase.TheVariants as phase
use Rattle.pg_client.specs.declared.settled.Settled.{Settled}
use Rattle.pg_client.specs.declared.call.Call.{Call}
use Rattle.pg_client.specs.declared.call.Call.TheVariants as call
use Rattle.pg_client.specs.Session.{Happening, Did, requests_in, whole_in, rest_in, IsReady, IsCopyingIn, HasRequest, MayBeCalled, AreAllowed, groups_in}
use Rattle.pg_client.specs.View.{ClientView, groups_waiting, phase_of}
use Rattle.pg_client.specs.Keeping.{collecting}
use Rattle.pg_client.specs.Client.{happenings, IsHistoryOf, History, with_fed, with_heard, FeedsByCause, Feeds, FeedAnswers}
use Rattle.pg_client.specs.Facts.{FirstSettled, IsPhase}
use Rattle.pg_wire.specs.Turns.{Turn, AreCopies}
use Rattle.pg_client.specs.Turns.{copies_of, turns_of, calls_in}
use Rattle.pg_client.specs.Answering.{turns_in, IsCopyCall, IsInTurn, TakesTurns, SettlesLast, AllSettled, calls_of}
use Rattle.pg_client.proofs.Events.Beginnings.{AreAsked, AllAfter, after_begins, allowed_begins, are_asked, are_answered}
use Rattle.pg_client.proofs.Standing.Agreeing.{no_copy_in}
use Rattle.pg_client.proofs.Turns.Copying.{copying_since, copy_under_way}
use Rattle.pg_client.proofs.Standing.Facts.{history_facts, in_order}
use Rattle.pg_client.proofs.Turns.Ordering.{requests_of_calls, keeps_order, one_more}
use Rattle.std.proofs.Math.Seq.{take-length}
use Rattle.pg_wire.specs.value.Status.{Status}
use Rattle.pg_wire.specs.declared.session.Outcome.{Outcome}
use Rattle.pg_wire.specs.Laws.{OneOutcome}
use Rattle.pg_wire.specs.Segment.{Segments, segments, status_of}
use Rattle.pg_client.specs.declared.fault.FeedFault.{FeedFault}
use Rattle.pg_client.proofs.Events.OneMessage.{put_after, segments-more}
use Rattle.pg_client.specs.declared.fault.FeedFault.TheVariants as feeding
use Rattle.pg_client.specs.declared.settings.Settings.{Settings}
use Rattle.pg_client.specs.Driving.{IsFedOn, IsLeftBy, requests_by}

-- ---- how many turns there are, and how many are answered

turns_length : (hs : List Happening) → length (turns_in hs) ≡ length (requests_in hs)
turns_length hs = sym (ap length (requests_of_calls hs) ∙ length-map (turns_in hs) (λ (t : Turn). t.request))

few_whole : (hs : List Happening) → AreAsked hs → length (whole_in hs) ≤ suc (length (requests_in hs))
few_whole hs (inl le) = omega (arith, le)
few_whole hs (inr p) = omega (arith, p.0)

counted : (hs : List Happening) → AllAfter hs → AreAllowed hs → IsInTurn hs
counted hs after allowed = record {
  one_at_most = omega (arith, are_answered hs allowed, length-drop 1 (whole_in hs), turns_length hs);
  none_ahead = omega (arith, few_whole hs (are_asked hs after), length-drop 1 (whole_in hs), turns_length hs);
}

ready_counted : (hs : List Happening) → IsReady hs → length (groups_in hs) ≡ length (turns_in hs)
ready_counted hs ready = omega (arith, ready, length-drop 1 (whole_in hs), turns_length hs)

-- ---- copies

pub not_empty : (rs : List Request) → (rs ≡ [] → ⊥) → 1 ≤ length rs
not_empty [] some = absurd (some refl)
not_empty (r ∷ rs) some = omega arith

copy_counted : (hs : List Happening) → AllAfter hs → AreAllowed hs → HasRequest hs → IsCopyingIn hs → length (turns_in hs) ≡ suc (length (groups_in hs))
copy_counted hs after allowed asked copying = elim (are_asked hs after) [
  | inl few ↦ omega (arith, few, are_answered hs allowed, not_empty (requests_in hs) asked, length-drop 1 (whole_in hs), turns_length hs)
  | inr p ↦ absurd (no_copy_in (rest_in hs) p.1 copying.0)
]

copies_only : (cs : List Call) → AreCopies (copies_of cs)
copies_only [] = tt
copies_only (call.Request r ∷ cs) = tt
copies_only (call.Start ∷ cs) = copies_only cs
copies_only (call.Terminate ∷ cs) = copies_only cs
copies_only (_ ∷ cs) = (refl, copies_only cs)

all_copies : (cs : List Call) → AllByRecursion (λ t. AreCopies t.copies) (turns_of cs)
all_copies [] = tt
all_copies (call.Request r ∷ cs) = (copies_only cs, all_copies cs)
all_copies (_ ∷ cs) = all_copies cs

-- ---- the settled groups

settled_length : (rs : List Request) (ss : List (List BackMessage)) (ts : List Settled) → FirstSettled rs ss ts → length ts ≡ length ss
settled_length rs [] [] h = refl
settled_length (r ∷ rs) (s ∷ ss) (t ∷ ts) h = ap suc (settled_length rs ss ts h.2)
settled_length _ _ _ h = absurd h

first_settled : (rs : List Request) (ss : List (List BackMessage)) (ts : List Settled) → FirstSettled rs ss ts → map (λ t. t.request) ts ≡ take (length ts) rs
first_settled rs [] [] h = refl
first_settled (r ∷ rs) (s ∷ ss) (t ∷ ts) h = ap (λ (x : Request). x ∷ map (λ t. t.request) ts) h.0 ∙ ap (λ (xs : List Request). r ∷ xs) (first_settled rs ss ts h.2)
first_settled _ _ _ h = absurd h

-- ---- of a history

open_ready : (hs : List Happening) (closed : Option Cause) → IsPhase hs closed phase.Ready → IsReady hs
open_ready hs None h = h
open_ready hs (Some c) e = absurd cc

open_copying : (hs : List Happening) (closed : Option Cause) → IsPhase hs closed phase.CopyingIn → (closed ≡ None) × IsCopyingIn hs
open_copying hs None h = (refl, h)
open_copying hs (Some c) e = absurd cc

copied_in_turn : (hs before : List Happening) (c : Call) (later : List Happening) → AllAfter hs → AreAllowed hs → IsCopyCall c → hs ≡ before ++ Did c ∷ later → length (turns_in before) ≡ suc (length (groups_in before))
copied_in_turn hs before c later after allowed copy e = by c copy (allowed before c later e).in_place
  where
    here : HasRequest before → IsCopyingIn before → length (turns_in before) ≡ suc (length (groups_in before))
    here asked copying = copy_counted before (after_begins before (Did c ∷ later) (subst AllAfter e after)) (allowed_begins before (Did c ∷ later) (subst AreAllowed e allowed)) asked copying

    by : (d : Call) → IsCopyCall d → MayBeCalled before d → length (turns_in before) ≡ suc (length (groups_in before))
    by (call.Chunk b) i p = here p.0 p.1
    by call.Done i p = here p.0 p.1
    by (call.Fail b) i p = here p.0 p.1
    by _ i p = absurd i

pub takes_turns : (h : History Settled) (client : ClientView) → IsHistoryOf collecting h client → TakesTurns (happenings h) (h.given ++ groups_waiting client) client
takes_turns h client r =
    let hs : List Happening = happenings h in
    let facts = history_facts collecting h client r.agrees in
    let after : AllAfter hs = r.agrees.happened.expected.after in
    record {
      in_turn = λ before later e. counted before (after_begins before later (subst AllAfter e after)) (allowed_begins before later (subst AreAllowed e r.agrees.happened.allowed));
      asked = λ before q later e. ready_counted before (r.agrees.happened.allowed before (call.Request q) later e).in_place.1;
      copied = λ before c later copy e. copied_in_turn hs before c later after r.agrees.happened.allowed copy e;
      copies = all_copies (calls_in hs);
      settled_all = settled_length (requests_in hs) (groups_in hs) (h.given ++ groups_waiting client) (in_order h client r);
      settled_first = first_settled (requests_in hs) (groups_in hs) (h.given ++ groups_waiting client) (in_order h client r) ∙ ap (take (length (h.given ++ groups_waiting client))) (requests_of_calls hs);
      ready = λ e. settled_length (requests_in hs) (groups_in hs) (h.given ++ groups_waiting client) (in_order h client r) ∙ ready_counted hs (open_ready hs client.closed ((facts.phase phase.Ready).0 e));
      ended = λ e. copy_under_way hs after r.agrees.happened.allowed (open_copying hs client.closed ((facts.phase phase.CopyingIn).0 e)).1;
      copying = λ e. let o = open_copying hs client.closed ((facts.phase phase.CopyingIn).0 e) in copying_since hs after r.agrees.happened.allowed (λ t. let k : client.closed ≡ Some cause.Terminated = r.agrees.terminated.0 t in cc (o.0)) o.1;
    }

-- ---- what settles as bytes come is the request that was asked last

abbrev group : Request → Outcome → Settled
group request outcome = record { request = request; outcome = outcome }

-- groups in order are a beginning of those with more segments, as each segment has one outcome
begins_settled : OneOutcome → (rs : List Request) (ss us : List (List BackMessage)) (ts vs : List Settled) → FirstSettled rs ss ts → FirstSettled rs (ss ++ us) vs → (more : List Settled) × (vs ≡ ts ++ more)
begins_settled one rs [] us [] vs h k = (vs, refl)
begins_settled one (r ∷ rs) (s ∷ ss) us (t ∷ ts) (v ∷ vs) h k =
    let same : group v.request v.outcome ≡ group t.request t.outcome = ap (λ (q : Request). group q v.outcome) (k.0 ∙ sym h.0) ∙ ap (group t.request) (one r s v.outcome t.outcome k.1 h.1) in
    let rest = begins_settled one rs ss us ts vs h.2 k.2 in
    (rest.0, ap (λ (x : Settled). x ∷ vs) same ∙ ap (λ (xs : List Settled). t ∷ xs) rest.1)
begins_settled one (r ∷ rs) (s ∷ ss) us (t ∷ ts) [] h k = absurd k
begins_settled one _ _ us _ _ h k = absurd h

-- ---- the segments, with more messages

whole_after : (o : Option Status) (m : BackMessage) (whole : List (List BackMessage)) (rest : List BackMessage) → (ws : List (List BackMessage)) × ((put_after o m whole rest).whole ≡ whole ++ ws)
whole_after (Some status) m whole rest = ((rest ++ m ∷ []) ∷ [], refl)
whole_after None m whole rest = ([], sym (append-nil whole))

whole_more : (xs ys : List BackMessage) → (ws : List (List BackMessage)) × ((segments (xs ++ ys)).whole ≡ (segments xs).whole ++ ws)
whole_more xs [] = ([], ap (λ (ms : List BackMessage). (segments ms).whole) (append-nil xs) ∙ sym (append-nil (segments xs).whole))
whole_more xs (m ∷ ys) =
    let one = whole_after (status_of m) m (segments xs).whole (segments xs).rest in
    let rest = whole_more (xs ++ m ∷ []) ys in (
      one.0 ++ rest.0,
      ap (λ (ms : List BackMessage). (segments ms).whole) (sym (append_assoc xs (m ∷ []) ys)) ∙ rest.1
          ∙ ap (λ (ws : List (List BackMessage)). ws ++ rest.0) (ap (λ (s : Segments). s.whole) (segments-more xs m) ∙ one.1)
          ∙ append_assoc (segments xs).whole one.0 rest.0,
    )

groups_more : (whole ws : List (List BackMessage)) → (us : List (List BackMessage)) × (drop 1 (whole ++ ws) ≡ drop 1 whole ++ us)
groups_more [] ws = (drop 1 ws, refl)
groups_more (s ∷ ss) ws = (ws, refl)

-- ---- all are settled

-- where as many groups are settled as turns were begun
all_first : (h : History Settled) (client : ClientView) → IsHistoryOf collecting h client → length (h.given ++ groups_waiting client) ≡ length (turns_in (happenings h)) → AllSettled (requests_in (happenings h)) (h.given ++ groups_waiting client)
all_first h client r full =
    let asked : List Request = map (λ t. t.request) (turns_in (happenings h)) in
    (takes_turns h client r).settled_first
    ∙ ap (λ (n : ℕ). take n asked) (full ∙ sym (length-map (turns_in (happenings h)) (λ t. t.request)))
    ∙ take-length asked
    ∙ sym (requests_of_calls (happenings h))

pub all_settled : (h : History Settled) (client : ClientView) → IsHistoryOf collecting h client → phase_of client ≡ phase.Ready → AllSettled (requests_in (happenings h)) (h.given ++ groups_waiting client)
all_settled h client r ready = all_first h client r ((takes_turns h client r).ready ready)

-- ---- bytes come

settles_fed : OneOutcome → (h : History Settled) (old new : ClientView) (piece : List ℕ) (more : List BackMessage) (rest added : List ℕ) → IsHistoryOf collecting h old → IsHistoryOf collecting (with_heard more rest added (with_fed piece h)) new
    → SettlesLast (requests_in (happenings h)) h.given (groups_waiting old) (groups_waiting new)
settles_fed one h old new piece more rest added r heard =
    let past : History Settled = with_heard more rest added (with_fed piece h) in
    let was : List Happening = happenings h in
    let now : List Happening = happenings past in
    let before = takes_turns h old r in
    let after = takes_turns past new heard in
    let told = keeps_order h in
    let tells = keeps_order past in
    let same : requests_in now ≡ requests_in was = tells.requests ∙ sym told.requests in
    let w = whole_more h.heard more in
    let g = groups_more (segments h.heard).whole w.0 in
    let groups : groups_in now ≡ groups_in was ++ g.0 =
    ap (λ (ms : List BackMessage). drop 1 (segments ms).whole) tells.messages ∙ ap (drop 1) w.1 ∙ g.1 ∙ ap (λ (ms : List BackMessage). drop 1 (segments ms).whole ++ g.0) (sym told.messages) in
    let p = begins_settled one (requests_in was) (groups_in was) g.0 (h.given ++ groups_waiting old) (h.given ++ groups_waiting new) (in_order h old r)
    (subst (λ (rs : List Request). FirstSettled rs (groups_in was ++ g.0) (h.given ++ groups_waiting new)) same
    (subst (λ (ss : List (List BackMessage)). FirstSettled (requests_in now) ss (h.given ++ groups_waiting new)) groups (in_order past new heard))) in
    let turns : length (turns_in now) ≡ length (turns_in was) = ap (λ (cs : List Call). length (turns_of cs)) (tells.calls ∙ sym told.calls) in
    let few : length (turns_in was) ≤ suc (length (groups_in was)) = (before.in_turn was [] (sym (append-nil was))).one_at_most in
    let many : length (groups_in now) ≤ length (turns_in now) = (after.in_turn now [] (sym (append-nil now))).none_ahead in
    let settled_was : length (h.given ++ groups_waiting old) ≡ length (groups_in was) = before.settled_all in
    let settled_now : length (h.given ++ groups_waiting new) ≡ length (groups_in now) = after.settled_all in
    let longer : length (h.given ++ groups_waiting new) ≡ length (h.given ++ groups_waiting old) + length p.0 = ap length p.1 ∙ length-append (h.given ++ groups_waiting old) p.0 in
    record {
      fresh = p.0;
      appended = append_cancel_left h.given (groups_waiting new) (groups_waiting old ++ p.0) (p.1 ∙ append_assoc h.given (groups_waiting old) p.0);
      one_at_most = omega arith;
      last = λ t e.
          let one : length p.0 ≡ 1 = ap length e in
          sym same ∙ sym (all_first past new heard (omega arith))
          ∙ ap (map (λ (s : Settled). s.request)) (p.1 ∙ ap (λ (ts : List Settled). (h.given ++ groups_waiting old) ++ ts) e)
          ∙ map-append (λ (s : Settled). s.request) (h.given ++ groups_waiting old) (t ∷ []);
    }

pub settles_last : OneOutcome → (h : History Settled) (old new : ClientView) (piece : List ℕ) (result : Result Unit FeedFault) (before after : List ℕ)
    → IsHistoryOf collecting h old → Feeds collecting old piece result new before after → SettlesLast (requests_in (happenings h)) h.given (groups_waiting old) (groups_waiting new)
settles_last one h old new piece result before after r feeds = by old.closed piece feeds
  where
    same : new ≡ old → SettlesLast (requests_in (happenings h)) h.given (groups_waiting old) (groups_waiting new)
    same e = record {
      fresh = [];
      appended = ap groups_waiting e ∙ sym (append-nil (groups_waiting old));
      one_at_most = omega arith;
      last = λ t k. absurd (let i : [] ≡ t ∷ [] = k in cc);
    }

    by : (o : Option Cause) (p : List ℕ) → FeedsByCause collecting o old p result new before after → SettlesLast (requests_in (happenings h)) h.given (groups_waiting old) (groups_waiting new)
    by (Some c) p f = same f.1
    by None [] f = same f.1
    by None (b ∷ bs) f =
        let k = f.hears [] h (record { first = old.kept; kept = sym (append-nil old.kept); history = r }) in
        settles_fed one h old new (b ∷ bs) k.more k.rest f.added r k.history

-- ---- for the author of a driver

-- ---- the requests of the calls

pub asked_last : (calls : List (Call × ℕ)) (r : Request) (place : ℕ) → requests_by (calls ++ (call.Request r, place) ∷ []) ≡ requests_by calls ++ r ∷ []
asked_last calls r place =
    ap (map (λ (t : Turn). t.request)) (one_more calls (call.Request r) place)
    ∙ map-append (λ (t : Turn). t.request) (turns_of (calls_of calls)) (record { request = r; copies = [] } ∷ [])

pub all_settled_by_calls : (h : History Settled) (client : ClientView) → IsHistoryOf collecting h client → phase_of client ≡ phase.Ready → AllSettled (requests_by h.calls) (h.given ++ groups_waiting client)
all_settled_by_calls h client r ready = all_settled h client r ready ∙ (keeps_order h).requests

-- ---- the way back

pub ready_again : (h : History Settled) (client : ClientView) → IsHistoryOf collecting h client → client.closed ≡ None → requests_by h.calls ≢ [] → AllSettled (requests_by h.calls) (h.given ++ groups_waiting client) → phase_of client ≡ phase.Ready
ready_again h client r none asked settled =
    let hs : List Happening = happenings h in
    let groups : List Settled = h.given ++ groups_waiting client in
    let told = keeps_order h in
    let all : length (groups_in hs) ≡ length (requests_in hs) =
    sym (takes_turns h client r).settled_all ∙ sym (length-map groups (λ (s : Settled). s.request)) ∙ ap length (settled ∙ sym told.requests) in
    -- as many segments are whole as requests were made, and the startup's
    let ready : IsReady hs = omega (arith, not_empty (requests_in hs) (λ e. asked (sym told.requests ∙ e)), all, length-drop 1 (whole_in hs)) in
    ((history_facts collecting h client r.agrees).phase phase.Ready).1 (subst (λ (o : Option Cause). IsPhase hs o phase.Ready) (sym none) ready)

-- ---- a feed

left_by : (settings : Settings) (hs : List Happening) (rest piece : List ℕ) (result : Result Unit FeedFault) (closed : Option Cause) → FeedAnswers settings hs rest piece result closed → IsLeftBy result closed
left_by settings hs rest piece (Ok x) closed a = a.1
left_by settings hs rest piece (Err feeding.Closed) closed a = absurd a
left_by settings hs rest piece (Err _) closed a = a.1

pub fed_on : (h : History Settled) (old new : ClientView) (piece : List ℕ) (result : Result Unit FeedFault) (before after : List ℕ) → IsHistoryOf collecting h old → Feeds collecting old piece result new before after → IsFedOn h piece result old new
fed_on h old new piece result before after r feeds = by old.closed piece refl refl feeds
  where
    -- where nothing changes
    same : new ≡ old → (old.closed ≡ None → (h.fed ≡ h.fed ++ piece) × IsLeftBy result new.closed) → IsFedOn h piece result old new
    same e left = record {
      history = h;
      is_its_own = subst (IsHistoryOf collecting h) (sym e) r;
      calls = refl;
      given = refl;
      fed = λ none. (left none).0;
      left = λ none. (left none).1;
    }

    by : (o : Option Cause) (p : List ℕ) → old.closed ≡ o → piece ≡ p → FeedsByCause collecting o old p result new before after → IsFedOn h piece result old new
    by (Some c) p e is f = same f.1 (λ none. absurd (let k : Some c ≡ None = sym e ∙ none in cc))
    by None [] e is f = same f.1 (λ none. (sym (ap (λ (bs : List ℕ). h.fed ++ bs) is ∙ append-nil h.fed), subst (λ (x : Result Unit FeedFault). IsLeftBy x new.closed) (sym f.0) (ap (λ (v : ClientView). v.closed) f.1 ∙ none)))
    by None (b ∷ bs) e is f =
        let k = f.hears [] h (record { first = old.kept; kept = sym (append-nil old.kept); history = r }) in
        let past : History Settled = with_heard k.more k.rest f.added (with_fed (b ∷ bs) h) in
        record { history = past; is_its_own = k.history; calls = refl; given = refl; fed = λ none. ap (λ (x : List ℕ). h.fed ++ x) (sym is); left = λ none. left_by new.settings (happenings past) k.rest (b ∷ bs) result new.closed k.answers }
