-- What a client that takes turns has of a session that has handled a part of its messages.
use Rattle.std.proofs.Common.{◌≡◌, suc, ◌≤◌, length, List, [], ◌∷◌, ◌++◌, Option, Some, None, map, refl, ap, sym, ◌∙◌, arith, IsSome, inl, inr, true}
use Rattle.std.specs.List.{flat_map}
use Rattle.std.proofs.lemmas.List.{append-nil, length-append}
use Rattle.pg_wire.specs.message.FrontMessage.{FrontMessage}
use Rattle.pg_wire.specs.message.FrontMessage.TheVariants as front
use Rattle.pg_wire.specs.declared.session.Request.{Request}
use Rattle.pg_wire.specs.declared.session.Request.TheVariants as request
use Rattle.pg_wire.specs.declared.session.Step.{Step}
use Rattle.pg_wire.specs.Segment.{step_message, request_messages}
use Rattle.pg_backend.specs.declared.script.Answer.{Answer}
use Rattle.pg_backend.specs.declared.script.Logged.{Logged}
use Rattle.pg_backend.specs.Fitting.{answer_for, others}
use Rattle.pg_backend.specs.Lists.{IsPrefix}
use Rattle.pg_backend.specs.Replies.{Verdict, verdict}
use Rattle.pg_backend.specs.Session.{Exchange, Session, Between, session_past, logged, decided, log_of, session}
use Rattle.pg_wire.specs.Turns.{Turn, turn_messages, is_copy, AreCopies}
use Rattle.pg_backend.specs.Turns.{InTurn, turn_exchanges}
use Rattle.pg_backend.specs.Laws.{AreFirstOf, TurnsLogged, TurnsGoOn, TurnsLeft}
use Rattle.pg_backend.proofs.Beginnings.{all_back, all_front, begins_append, begins_cons, begins_length, begins_map, begins_nil, begins_trans, cut_places, empty_left, not_nil}
use Rattle.pg_backend.proofs.Definitions.SessionGrows.{log_grows}
use Rattle.pg_backend.proofs.Turns.TurnByTurn.{turn_read, request_read, cut_skips, verdict_within, some_value, meaning_step, turns_end}

-- the log of the turns
abbrev pub turn_log : List Answer → List Turn → List Logged
turn_log answers ts = flat_map (λ (e : Exchange). logged e.request e.verdict) (turn_exchanges answers ts)

-- the log of a part of their messages begins it
pub handled_log : (answers : List Answer) (ts : List Turn) (handled : List FrontMessage) → InTurn answers ts → AreFirstOf handled ts → IsPrefix (log_of answers handled) (turn_log answers ts)
handled_log answers ts handled turns h =
    let grows = log_grows answers handled h.0 in
    (grows.0, sym (ap decided (turns_end answers ts turns)) ∙ ap (log_of answers) h.1 ∙ grows.1)

-- ---- the requests of the log

turn_requests : (answers : List Answer) (ts : List Turn) → InTurn answers ts → IsPrefix (map (λ (l : Logged). l.request) (turn_log answers ts)) (map (λ (t : Turn). t.request) ts)
turn_requests answers [] h = begins_nil []
turn_requests answers (t ∷ []) h = one (verdict (answer_for answers t.request) t.copies)
  where
    one : (o : Option Verdict) → IsPrefix (map (λ (l : Logged). l.request) (logged t.request o ++ [])) (t.request ∷ [])
    one None = begins_nil (t.request ∷ [])
    one (Some v) = ([], refl)
turn_requests answers (t ∷ u ∷ ts) h =
    let v = some_value (verdict (answer_for answers t.request) t.copies) h.1 in
    rw (v.1) (begins_cons t.request _ _ (turn_requests (others answers) (u ∷ ts) h.2))

pub turns_logged : TurnsLogged
turns_logged answers ts handled turns h =
    begins_trans _ _ _ (begins_map (λ (l : Logged). l.request) (log_of answers handled) (turn_log answers ts) (handled_log answers ts handled turns h)) (turn_requests answers ts turns)

-- ---- the next turn

at_most_one : (r : Request) (o : Option Verdict) → length (logged r o) ≤ 1
at_most_one r None = omega arith
at_most_one r (Some v) = omega arith

has_one : (r : Request) (o : Option Verdict) → 1 ≤ length (logged r o) → IsSome o
has_one r None h = absurd (omega arith)
has_one r (Some v) h = refl

go_on : (answers : List Answer) (ts : List Turn) (r : Request) → InTurn answers ts → length ts ≤ length (turn_log answers ts) → InTurn answers (ts ++ record { request = r; copies = [] } ∷ [])
go_on answers [] r h all = tt
go_on answers (t ∷ []) r h all =
    let o = verdict (answer_for answers t.request) t.copies in
    (h, has_one t.request o (omega (arith, length-append (logged t.request o) [])), tt)
go_on answers (t ∷ u ∷ ts) r h all =
    let o = verdict (answer_for answers t.request) t.copies in
    let one = at_most_one t.request o in
    (h.0, h.1, go_on (others answers) (u ∷ ts) r h.2 (omega (arith, length-append (logged t.request o) (turn_log (others answers) (u ∷ ts)))))

-- the first of the turns' messages are the first of these and a Terminate
first_of : (handled : List FrontMessage) (ts : List Turn) → IsPrefix handled (flat_map turn_messages ts) → AreFirstOf handled ts
first_of handled ts h = begins_trans _ _ _ h (begins_append (flat_map turn_messages ts) (front.Terminate ∷ []))

pub turns_go_on : TurnsGoOn
turns_go_on answers ts handled r turns h all =
    let short = begins_length _ _ (handled_log answers ts handled turns (first_of handled ts h)) in
    go_on answers ts r turns (omega arith)

-- ---- what is left

-- nothing is decided before a request is whole
group_short : (answers : List Answer) (before steps : List Step) (h : List FrontMessage) (x : FrontMessage) (more : List FrontMessage)
    → map step_message steps ++ front.Sync ∷ [] ≡ h ++ x ∷ more → decided (session_past 0 answers before h) ≡ []
group_short answers before steps [] x more e = refl
group_short answers before [] (y ∷ h) x more e =
    let tails : [] ≡ h ++ x ∷ more = cc in absurd (not_nil h x more tails)
group_short answers before (s ∷ ss) (y ∷ h) x more e =
    let same : y ≡ step_message s = cc in
    let tails : map step_message ss ++ front.Sync ∷ [] ≡ h ++ x ∷ more = cc in
    rw (same, meaning_step s) (group_short answers (before ++ s ∷ []) ss h x more tails)

request_short : (answers : List Answer) (r : Request) (h : List FrontMessage) (x : FrontMessage) (more : List FrontMessage) → request_messages r ≡ h ++ x ∷ more → log_of answers h ≡ []
request_short answers (request.Query text) [] x more e = refl
request_short answers (request.Query text) (y ∷ h) x more e =
    let tails : [] ≡ h ++ x ∷ more = cc in absurd (not_nil h x more tails)
request_short answers (request.Group steps) h x more e = group_short answers [] steps h x more e

-- a request that is decided by these messages leaves the session between requests
begun_left : (answers : List Answer) (r : Request) (h : List FrontMessage) (o : Option Verdict) → verdict (answer_for answers r) h ≡ o → AreCopies h
    → 1 ≤ length (log_of answers (request_messages r ++ h)) → (session answers (request_messages r ++ h)).place ≡ Between
begun_left answers r h None is copies one =
    let none : log_of answers (request_messages r ++ h) ≡ [] = rw (request_read answers r h, is) refl in
    absurd (let l : length (log_of answers (request_messages r ++ h)) ≡ 0 = ap length none in omega arith)
begun_left answers r h (Some v) is copies one =
    let skips : session_past v.taken (others answers) [] (h ++ []) ≡ session_past 0 (others answers) [] [] =
    cut_skips v.taken (others answers) h [] copies (verdict_within (answer_for answers r) h v is) in
    ap (λ (s : Session). s.place) (request_read answers r h) ∙ rw is (ap (λ l. (session_past v.taken (others answers) [] l).place) (sym (append-nil h)) ∙ ap (λ (s : Session). s.place) skips)

record Idle (answers : List Answer) (handled left : List FrontMessage) : Type 0 where
  copies : AreCopies left
  place : (session answers handled).place ≡ Between

log_after : (answers : List Answer) (t : Turn) (rest : List FrontMessage) (v : Verdict) → AreCopies t.copies → verdict (answer_for answers t.request) t.copies ≡ Some v
    → length (log_of answers (turn_messages t ++ rest)) ≡ suc (length (log_of (others answers) rest))
log_after answers t rest v copies is = rw (turn_read answers t rest v copies is, is) refl

place_after_turn : (answers : List Answer) (t : Turn) (rest : List FrontMessage) (v : Verdict) → AreCopies t.copies → verdict (answer_for answers t.request) t.copies ≡ Some v
    → (session answers (turn_messages t ++ rest)).place ≡ (session (others answers) rest).place
place_after_turn answers t rest v copies is = ap (λ (s : Session). s.place) (turn_read answers t rest v copies is)

last_left : (answers : List Answer) (t : Turn) (handled left : List FrontMessage) → AreCopies t.copies → turn_messages t ≡ handled ++ left → 1 ≤ length (log_of answers handled)
    → Idle answers handled left
last_left answers t handled left copies e one =
    elim (cut_places handled left (request_messages t.request) t.copies (sym e)) [
      | inl p ↦
          let all : AreCopies (p.0 ++ left) = rw p.2 copies in
          let log : 1 ≤ length (log_of answers (request_messages t.request ++ p.0)) = rw (← p.1) one in
          record {
            copies = all_back (λ m. is_copy m ≡ true) p.0 left all;
            place = rw p.1 (begun_left answers t.request p.0 (verdict (answer_for answers t.request) p.0) refl (all_front (λ m. is_copy m ≡ true) p.0 left all) log);
          }
      | inr p ↦
          let none : log_of answers handled ≡ [] = request_short answers t.request handled p.0 p.1 p.2 in
          absurd (let l : length (log_of answers handled) ≡ 0 = ap length none in omega arith)
    ]

idle_left : (answers : List Answer) (ts : List Turn) (handled left : List FrontMessage) → InTurn answers ts → flat_map turn_messages ts ≡ handled ++ left
    → length ts ≤ length (log_of answers handled) → Idle answers handled left
idle_left answers [] handled left h e all =
    let nothing = empty_left handled left e in
    record { copies = rw nothing.1 tt; place = rw nothing.0 refl }
idle_left answers (t ∷ []) handled left h e all = last_left answers t handled left h (sym (append-nil (turn_messages t)) ∙ e) all
idle_left answers (t ∷ u ∷ ts) handled left h e all =
    let v = some_value (verdict (answer_for answers t.request) t.copies) h.1 in
    elim (cut_places handled left (turn_messages t) (flat_map turn_messages (u ∷ ts)) (sym e)) [
      | inl p ↦
          let log : length (log_of answers handled) ≡ suc (length (log_of (others answers) p.0)) =
          ap (λ l. length (log_of answers l)) p.1 ∙ log_after answers t p.0 v.0 h.0 v.1 in
          let more : length (u ∷ ts) ≤ length (log_of (others answers) p.0) = omega arith in
          let rest = idle_left (others answers) (u ∷ ts) p.0 left h.2 (sym p.2) more in
          record { copies = rest.copies; place = ap (λ l. (session answers l).place) p.1 ∙ place_after_turn answers t p.0 v.0 h.0 v.1 ∙ rest.place }
      | inr p ↦
          let log : length (log_of answers handled) ≤ length (log_of answers (handled ++ p.0 ∷ p.1)) = begins_length _ _ (log_grows answers handled (p.0 ∷ p.1)) in
          let turn : length (log_of answers (turn_messages t ++ [])) ≡ 1 = log_after answers t [] v.0 h.0 v.1 in
          let same : length (log_of answers (turn_messages t ++ [])) ≡ length (log_of answers (handled ++ p.0 ∷ p.1)) =
          ap (λ l. length (log_of answers l)) (append-nil (turn_messages t) ∙ p.2) in
          absurd (omega arith)
    ]

pub turns_left : TurnsLeft
turns_left answers ts handled left h e all = let idle = idle_left answers ts handled left h e all in (idle.copies, idle.place)
