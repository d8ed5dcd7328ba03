-- The group that is taken is its request's, and the client awaits the next request then.
use Rattle.std.proofs.Common.{◌≡◌, ℕ, List, [], ◌∷◌, ◌++◌, map, length, take, drop, None, Ok, refl, sym, ap, ◌∙◌, append-nil, append_assoc}
use Rattle.std.specs.Prelude.{◌≢◌}
use Rattle.std.proofs.lemmas.List.{append_cancel_left, map-append, take-append-drop}
use Rattle.pg_wire.specs.declared.session.Request.{Request}
use Rattle.pg_wire.specs.Turns.{Turn}
use Rattle.pg_client.specs.declared.call.Call.{Call}
use Rattle.pg_client.specs.declared.call.Call.TheVariants as call
use Rattle.pg_client.specs.declared.phase.Phase.TheVariants as phase
use Rattle.pg_client.specs.declared.settled.Settled.{Settled}
use Rattle.pg_client.specs.Answering.{AllSettled, KeepsOrder, TakesTurns}
use Rattle.pg_client.specs.View.{ClientView, groups_waiting, phase_of}
use Rattle.pg_client.specs.Driving.{requests_by}
use Rattle.pg_client.specs.Client.{History, IsHistoryOf, happenings, with_call, with_given}
use Rattle.pg_client.specs.Turns.{turns_of}
use Rattle.pg_client.specs.Keeping.{collecting}
use Rattle.pg_client.proofs.Histories.Unread.{carried}
use Rattle.pg_drive.specs.declared.event.GroupEvent.TheVariants as event
use Rattle.pg_drive.specs.Carried.{IsDrivenOn}
use Rattle.pg_drive.specs.Group.{TakesGroup}
use Rattle.example_base.specs.Driver.{AwaitsRequest}

-- what the laws requests_of_the_calls, story_of_a_run and answers_of_a_run say to a driver
pub record Laws : Type 0 where
  pub ready : (h : History Settled) (client : ClientView) → IsHistoryOf collecting h client → phase_of client ≡ phase.Ready → AllSettled (requests_by h.calls) (h.given ++ groups_waiting client)
  pub back : (h : History Settled) (client : ClientView) → IsHistoryOf collecting h client → client.closed ≡ None → requests_by h.calls ≢ [] → AllSettled (requests_by h.calls) (h.given ++ groups_waiting client) → phase_of client ≡ phase.Ready
  pub asked : (calls : List (Call × ℕ)) (r : Request) (place : ℕ) → requests_by (calls ++ (call.Request r, place) ∷ []) ≡ requests_by calls ++ r ∷ []
  pub order : (h : History Settled) → KeepsOrder h
  pub turns : (h : History Settled) (client : ClientView) → IsHistoryOf collecting h client → TakesTurns (happenings h) (h.given ++ groups_waiting client) client

abbrev requests : List Settled → List Request
requests groups = map (λ (s : Settled). s.request) groups

none_left : (groups : List Settled) (left : List Request) → requests groups ++ left ≡ [] → (groups ≡ []) × (left ≡ [])
none_left [] left e = (refl, e)
none_left (t ∷ groups) left e = absurd (let k : t.request ∷ (requests groups ++ left) ≡ [] = e in cc)

some_requests : (before : List Request) (r : Request) → before ++ r ∷ [] ≡ [] → ⊥
some_requests [] r e = (let k : r ∷ [] ≡ [] = e in cc)
some_requests (b ∷ before) r e = (let k : b ∷ (before ++ r ∷ []) ≡ [] = e in cc)

-- All requests but the last were settled, and this group is settled too. So it is the last request's, and nothing is left.
last_group : (given : List Settled) (group : Settled) (rest : List Settled) (before : List Request) (r : Request) (left : List Request) → AllSettled before given → requests (given ++ group ∷ rest) ++ left ≡ before ++ r ∷ [] → (group.request ≡ r) × (rest ≡ []) × (left ≡ [])
last_group given group rest before r left was now =
    let whole : requests given ++ (requests (group ∷ rest) ++ left) ≡ requests given ++ r ∷ [] =
    sym (append_assoc (requests given) (requests (group ∷ rest)) left)
    ∙ ap (λ (rs : List Request). rs ++ left) (sym (map-append (λ (s : Settled). s.request) given (group ∷ rest)))
    ∙ now
    ∙ ap (λ (rs : List Request). rs ++ r ∷ []) (sym was) in
    let e : group.request ∷ (requests rest ++ left) ≡ r ∷ [] = append_cancel_left (requests given) (requests (group ∷ rest) ++ left) (r ∷ []) whole in
    let own : group.request ≡ r = cc in
    let more : requests rest ++ left ≡ [] = cc in
    let none = none_left rest left more in
    (own, none.0, none.1)

-- A client that awaited a request made this one and was driven, and is open, and then this group was taken.
pub own_group : Laws → (request : Request) (bytes : List ℕ) (old client new : ClientView) (a : AwaitsRequest old) → IsDrivenOn (with_call old.settings (call.Request request) a.history) bytes client → client.closed ≡ None → (group : Settled) → TakesGroup client (Ok (event.Settled group)) new
    → (group.request ≡ request) × AwaitsRequest new
own_group laws request bytes old client new a k none group t =
    let same : t.group ≡ group = (let e = t.is_group in cc) in
    let h : History Settled = k.history in
    let given : List Settled = a.history.given in
    let before : List Request = requests_by a.history.calls in
    let groups : List Settled = h.given ++ groups_waiting client in
    let asked : List Request = requests_by h.calls in
    let left : List Request = drop (length groups) asked in
    let was : AllSettled before given = ap requests (sym (append-nil given) ∙ ap (λ (gs : List Settled). given ++ gs) (sym a.none_waits)) ∙ laws.ready a.history old a.is_its_own a.ready in
    let calls : asked ≡ before ++ request ∷ [] = ap requests_by k.calls ∙ laws.asked a.history.calls request (length a.history.fed) in
    let first : requests groups ≡ take (length groups) asked = (laws.turns h client k.is_its_own).settled_first ∙ ap (λ (cs : List Call). take (length groups) (map (λ (turn : Turn). turn.request) (turns_of cs))) (laws.order h).calls in
    let whole : requests groups ++ left ≡ asked = ap (λ (rs : List Request). rs ++ left) first ∙ take-append-drop (length groups) asked in
    let these : groups ≡ given ++ t.group ∷ groups_waiting new = ap (λ (gs : List Settled). gs ++ groups_waiting client) k.given ∙ ap (λ (gs : List Settled). given ++ gs) t.oldest in
    let own = last_group given t.group (groups_waiting new) before request left was (ap (λ (gs : List Settled). requests gs ++ left) (sym these) ∙ whole ∙ calls) in
    let all : AllSettled asked groups = sym (append-nil (requests groups)) ∙ ap (λ (rs : List Request). requests groups ++ rs) (sym own.2) ∙ whole in (
      ap (λ (s : Settled). s.request) (sym same) ∙ own.0,
      record {
        history = with_given t.group h;
        is_its_own = carried collecting client new (with_given t.group) t.history h k.is_its_own;
        ready = ap phase_of t.others ∙ laws.back h client k.is_its_own none (λ e. some_requests before request (sym calls ∙ e)) all;
        none_waits = own.1;
      },
    )
