-- What a client hears of what a backend sends: no whole segment, or the welcome and the first of the replies, after the question for
-- its password.
use Rattle.std.proofs.Common.{◌≡◌, ◌≤◌, arith, ℕ, Bool, true, false, None, List, [], ◌∷◌, ◌++◌, length, map, refl, ap, sym, subst, ◌∙◌, append_assoc, ◌⊎◌, inl, inr}
use Rattle.std.specs.Prelude.{if◌then◌else◌}
use Rattle.std.specs.Str.{bytes_eq}
use Rattle.std.specs.List.{flat_map, AllByRecursion}
use Rattle.std.proofs.lemmas.List.{append-nil}
use Rattle.pg_wire.specs.message.BackMessage.{BackMessage}
use Rattle.pg_wire.specs.message.BackMessage.TheVariants as back
use Rattle.pg_wire.specs.message.FrontMessage.{FrontMessage}
use Rattle.pg_wire.specs.message.FrontMessage.TheVariants as front
use Rattle.pg_wire.specs.Backend.{backend}
use Rattle.pg_wire.specs.Direction.{spelling, HasSpelling}
use Rattle.pg_wire.specs.Laws.{OneSpelling}
use Rattle.pg_wire.specs.Password.{md5_text}
use Rattle.pg_wire.specs.Segment.{put_before, segments, without_asides}
use Rattle.pg_wire.specs.Stream.{IsStream}
use Rattle.pg_client.specs.declared.settings.Settings.{Settings}
use Rattle.pg_client.specs.Sent.{startup_pairs}
use Rattle.pg_client.specs.Turns.{passwords, first_answer}
use Rattle.pg_backend.specs.declared.script.Auth.{Auth}
use Rattle.pg_backend.specs.declared.script.Auth.TheVariants.{Trust, Cleartext, Md5}
use Rattle.pg_backend.specs.declared.script.Logged.{Logged}
use Rattle.pg_backend.specs.declared.script.Script.{Script}
use Rattle.pg_backend.specs.Input.{Input, IsSpelled, transcript, output, sent_bytes, input_log, input_phase, place_phase, end_phase, admission_log, admission_end}
use Rattle.pg_wire.specs.Turns.{copies_begun}
use Rattle.pg_backend.specs.Lists.{IsPrefix}
use Rattle.pg_backend.specs.Opening.{Says, welcome, user_from, question_for, Admission, Refused, Awaited, Stopped, Admitted, by_password, admission, admission_messages, started}
use Rattle.pg_backend.specs.OwnError.{wrong_password}
use Rattle.pg_backend.specs.Session.{Between, Grouping, Copying, Terminated, Stray, session, replies, log_of}
use Rattle.pg_backend.proofs.Beginnings.{begins_head, begins_of_nil}
use Rattle.pg_pair.proofs.OneCopy.{rest_one}
use Rattle.pg_pair.proofs.Opening.{opening, IsUnread, IsRead}
use Rattle.pg_pair.proofs.Streams.{within_spelled, reads_first, segments_grow}

-- the user by whom a backend knows a client
abbrev pub user_of : Settings → List ℕ
user_of settings = user_from [] (startup_pairs settings)

-- No segment is whole, one copy in at most was begun, and nothing is logged.
pub record IsSilent (heard : List BackMessage) (log : List Logged) : Type 0 where
  pub none : (segments heard).whole ≡ []
  pub few : copies_begun (segments heard).rest ≤ 1
  pub no_log : log ≡ []

-- What a client sends after its startup packet is a password at most, for the first message that it heard, and then these messages,
-- of which the first is none.
pub record SendsPassword (settings : Settings) (heard : List BackMessage) (ms : List FrontMessage) : Type 0 where
  pub one : length (passwords settings heard) ≤ 1
  pub first : passwords settings heard ≡ first_answer settings (without_asides heard)
  pub no_other : (password : List ℕ) (more : List FrontMessage) → ms ≡ front.Password password ∷ more → ⊥

-- The client was let in and heard the first of the question for its password, the welcome, and the replies to what the backend has
-- read after the password.
pub record HasMet (s : Script) (settings : Settings) (ms : List FrontMessage) (i : Input) (rest more sent : List ℕ) (heard : List BackMessage) (log : List Logged) : Type 0 where
  pub read : IsRead settings (passwords settings heard ++ ms) i rest more sent
  pub since : List FrontMessage
  pub follows : ms ≡ since ++ read.left
  pub heard_is : IsPrefix heard (question_for s.auth (user_of settings) ++ (welcome s ++ replies s.answers since))
  pub log_is : log ≡ log_of s.answers since
  pub phase : input_phase s i ≡ place_phase (session s.answers since).place

says_bytes : (ms : List BackMessage) → flat_map sent_bytes (map Says ms) ≡ flat_map (spelling backend) ms
says_bytes [] = refl
says_bytes (m ∷ ms) = ap (λ l. spelling backend m ++ l) (says_bytes ms)

says_spelled : (ms : List BackMessage) → AllByRecursion IsSpelled (map Says ms) → AllByRecursion (HasSpelling backend) ms
says_spelled [] h = tt
says_spelled (m ∷ ms) h = (h.0, says_spelled ms h.1)

-- ---- how a client is let in

-- It isn't let in.
abbrev pub IsOutside : Admission → Type 0
IsOutside (Admitted ms) = ⊥
IsOutside _ = Unit {0}

-- A client is let in by no message where it was asked for nothing, or by one password.
abbrev LetsIn : Auth → List ℕ → List FrontMessage → Type 0
LetsIn auth user by = ((question_for auth user ≡ []) × (by ≡ [])) ⊎ ((password : List ℕ) × (by ≡ front.Password password ∷ []))

-- It was let in by the first of these messages, and these are the others.
record IsInside (auth : Auth) (user : List ℕ) (ms : List FrontMessage) : Type 0 where
  pub by : List FrontMessage
  pub since : List FrontMessage
  pub cut : ms ≡ by ++ since
  pub admitted : admission auth user ms ≡ Admitted since
  pub lets_in : LetsIn auth user by

tested : (b : Bool) (ms : List FrontMessage) → IsOutside (if b then Admitted ms else Refused wrong_password) ⊎ ((if b then Admitted ms else Refused wrong_password) ≡ Admitted ms)
tested true ms = inr refl
tested false ms = inl tt

by_one : (expected : List ℕ) (ms : List FrontMessage) → IsOutside (by_password expected ms) ⊎ ((password : List ℕ) × (since : List FrontMessage) × (ms ≡ front.Password password ∷ since) × (by_password expected ms ≡ Admitted since))
by_one expected [] = inl tt
by_one expected (front.Password password ∷ ms) = elim (tested (bytes_eq password expected) ms) [ inl out ↦ inl out | inr is ↦ inr (password, ms, refl, is) ]
by_one expected (front.Terminate ∷ ms) = inl tt
by_one expected (_ ∷ ms) = inl tt

let_in : (auth : Auth) (user : List ℕ) (ms : List FrontMessage) → IsOutside (admission auth user ms) ⊎ IsInside auth user ms
let_in auth [] ms = inl tt
let_in Trust (c ∷ cs) ms = inr (record { by = []; since = ms; cut = refl; admitted = refl; lets_in = inl (refl, refl) })
let_in (Cleartext expected) (c ∷ cs) ms = elim (by_one expected ms) [
  | inl out ↦ inl out
  | inr h ↦ inr (record { by = front.Password h.0 ∷ []; since = h.1; cut = h.2; admitted = h.3; lets_in = inr (h.0, refl) })
]
let_in (Md5 expected salt) (c ∷ cs) ms = elim (by_one (md5_text (c ∷ cs) expected salt) ms) [
  | inl out ↦ inl out
  | inr h ↦ inr (record { by = front.Password h.0 ∷ []; since = h.1; cut = h.2; admitted = h.3; lets_in = inr (h.0, refl) })
]

-- ---- what one hears that isn't let in

-- No segment is whole, and one copy in at most is begun.
abbrev IsQuiet : List BackMessage → Type 0
IsQuiet ms = ((segments ms).whole ≡ []) × (copies_begun (segments ms).rest ≤ 1)

quiet_with : (m : BackMessage) (w : List (List BackMessage)) (r : List BackMessage) → copies_begun (m ∷ r) ≡ copies_begun r → w ≡ [] → copies_begun r ≤ 1
    → ((put_before None m w r).whole ≡ []) × (copies_begun (put_before None m w r).rest ≤ 1)
quiet_with m [] r same none few = (refl, omega (arith, same, few))
quiet_with m (x ∷ xs) r same none few = absurd cc

quiet_asked : (auth : Auth) (user : List ℕ) (ms : List BackMessage) → IsQuiet ms → IsQuiet (question_for auth user ++ ms)
quiet_asked auth [] ms h = h
quiet_asked Trust (c ∷ cs) ms h = h
quiet_asked (Cleartext password) (c ∷ cs) ms h = quiet_with back.AuthCleartext (segments ms).whole (segments ms).rest refl h.0 h.1
quiet_asked (Md5 password salt) (c ∷ cs) ms h = quiet_with (back.AuthMd5 salt) (segments ms).whole (segments ms).rest refl h.0 h.1

quiet_outside : (s : Script) (a : Admission) → IsOutside a → IsQuiet (admission_messages s a)
quiet_outside s (Refused fields) out = (refl, omega arith)
quiet_outside s Awaited out = (refl, omega arith)
quiet_outside s (Stopped Between) out = (refl, omega arith)
quiet_outside s (Stopped (Grouping steps)) out = (refl, omega arith)
quiet_outside s (Stopped Copying) out = (refl, omega arith)
quiet_outside s (Stopped Terminated) out = (refl, omega arith)
quiet_outside s (Stopped Stray) out = (refl, omega arith)
quiet_outside s (Admitted ms) out = absurd out

outside_log : (s : Script) (a : Admission) → IsOutside a → admission_log s a ≡ []
outside_log s (Refused fields) out = refl
outside_log s Awaited out = refl
outside_log s (Stopped place) out = refl
outside_log s (Admitted ms) out = absurd out

-- what begins what is quiet is quiet
hears_quiet : (heard ms : List BackMessage) → IsPrefix heard ms → IsQuiet ms → IsQuiet heard
hears_quiet heard ms b q = (
  begins_of_nil (segments heard).whole (subst (IsPrefix (segments heard).whole) q.0 (segments_grow heard ms b)),
  rest_one heard ms b (subst (AllByRecursion (λ (x : List BackMessage). copies_begun x ≤ 1)) (sym q.0) tt, q.1),
)

-- ---- the password

-- a client that heard the first of the welcome has sent no password
none_sent : (s : Script) (settings : Settings) (heard more : List BackMessage) → IsPrefix heard (welcome s ++ more) → first_answer settings (without_asides heard) ≡ []
none_sent s settings [] more b = refl
none_sent s settings (m ∷ heard) more b = rw (begins_head m back.AuthOk heard _ b) refl

-- what is read after the password is the first of what was sent after it
after_password : (auth : Auth) (s : Script) (settings : Settings) (heard more : List BackMessage) (ms by since left : List FrontMessage)
    → SendsPassword settings heard ms → LetsIn auth (user_of settings) by → IsPrefix heard (question_for auth (user_of settings) ++ (welcome s ++ more))
    → passwords settings heard ++ ms ≡ (by ++ since) ++ left → ms ≡ since ++ left
after_password auth s settings heard more ms by since left sends (inl nothing) begins e =
    let none : passwords settings heard ≡ [] = sends.first ∙ none_sent s settings heard more (subst (λ (l : List BackMessage). IsPrefix heard (l ++ (welcome s ++ more))) nothing.0 begins) in
    ap (λ (l : List FrontMessage). l ++ ms) (sym none) ∙ e ∙ ap (λ (l : List FrontMessage). (l ++ since) ++ left) nothing.1
after_password auth s settings heard more ms by since left sends (inr asks) begins e =
    follows (passwords settings heard) sends.one (e ∙ ap (λ (l : List FrontMessage). (l ++ since) ++ left) asks.1)
  where
    follows : (said : List FrontMessage) → length said ≤ 1 → said ++ ms ≡ front.Password asks.0 ∷ (since ++ left) → ms ≡ since ++ left
    follows [] few k = absurd (sends.no_other asks.0 (since ++ left) k)
    follows (m ∷ []) few k = cc
    follows (m ∷ n ∷ said) few k = absurd (omega (arith, few))

-- what was heard is the first of what was sent
pub heard_first : OneSpelling backend → (limit : ℕ) (fed rest more : List ℕ) (heard ms : List BackMessage) → IsStream backend limit fed heard rest → AllByRecursion (HasSpelling backend) ms
    → fed ++ more ≡ flat_map (spelling backend) ms → IsPrefix heard ms
heard_first one limit fed rest more heard ms stream spelled e =
    let first = reads_first backend one heard ms (rest ++ more) (within_spelled backend limit heard stream.each) spelled
    (sym (append_assoc (flat_map (spelling backend) heard) rest more) ∙ ap (λ l. l ++ more) (sym (stream.whole)) ∙ e) in
    (first.0, first.1)

unread_output : (s : Script) (i : Input) → IsUnread i → i.faulty ≡ false → output s i ≡ []
unread_output s i u sound = rw (u.packets, sound) refl

unread_log : (s : Script) (i : Input) → IsUnread i → input_log s i ≡ []
unread_log s i u = rw (u.packets) refl

-- what is sent after a startup packet
abbrev answered : Script → Settings → List FrontMessage → List BackMessage
answered s settings ms = started s (startup_pairs settings) ms

read_transcript : (s : Script) (settings : Settings) (i : Input) → i.packets ≡ opening settings ∷ [] → i.faulty ≡ false → transcript s i ≡ map Says (answered s settings i.messages)
read_transcript s settings i packets sound = rw (packets, sound) (append-nil (map Says (answered s settings i.messages)))

read_log : (s : Script) (settings : Settings) (i : Input) → i.packets ≡ opening settings ∷ [] → input_log s i ≡ admission_log s (admission s.auth (user_of settings) i.messages)
read_log s settings i packets = rw packets refl

read_phase : (s : Script) (settings : Settings) (i : Input) → i.packets ≡ opening settings ∷ [] → i.faulty ≡ false → input_phase s i ≡ end_phase (admission_end s (admission s.auth (user_of settings) i.messages))
read_phase s settings i packets sound = rw (packets, sound) refl

met : (s : Script) (settings : Settings) (ms : List FrontMessage) (i : Input) (rest more sent : List ℕ) (heard : List BackMessage) (log : List Logged)
    → SendsPassword settings heard ms → IsRead settings (passwords settings heard ++ ms) i rest more sent → i.faulty ≡ false
    → IsOutside (admission s.auth (user_of settings) i.messages) ⊎ IsInside s.auth (user_of settings) i.messages
    → IsPrefix heard (answered s settings i.messages) → log ≡ admission_log s (admission s.auth (user_of settings) i.messages)
    → IsSilent heard log ⊎ HasMet s settings ms i rest more sent heard log
met s settings ms i rest more sent heard log sends read sound (inl out) begins logged =
    let user = user_of settings in
    let a = admission s.auth user i.messages in
    let quiet = hears_quiet heard (question_for s.auth user ++ admission_messages s a) begins (quiet_asked s.auth user (admission_messages s a) (quiet_outside s a out)) in
    inl (record { none = quiet.0; few = quiet.1; no_log = logged ∙ outside_log s a out })
met s settings ms i rest more sent heard log sends read sound (inr inside) begins logged =
    let user = user_of settings in
    let first : IsPrefix heard (question_for s.auth user ++ (welcome s ++ replies s.answers inside.since)) = subst (λ (a : Admission). IsPrefix heard (question_for s.auth user ++ admission_messages s a)) inside.admitted begins in
    inr (record {
      read = read;
      since = inside.since;
      follows = after_password s.auth s settings heard (replies s.answers inside.since) ms inside.by inside.since read.left sends inside.lets_in first
          (read.messages ∙ ap (λ (l : List FrontMessage). l ++ read.left) inside.cut);
      heard_is = first;
      log_is = logged ∙ ap (admission_log s) inside.admitted;
      phase = read_phase s settings i read.packets sound ∙ ap (λ (a : Admission). end_phase (admission_end s a)) inside.admitted;
    })

-- what was heard of what was sent
pub meets : OneSpelling backend → (s : Script) (settings : Settings) (ms : List FrontMessage) (i : Input) (rest more sent : List ℕ) (heard : List BackMessage) (log : List Logged) (limit : ℕ) (fed unheard waits : List ℕ)
    → SendsPassword settings heard ms → IsUnread i ⊎ IsRead settings (passwords settings heard ++ ms) i rest more sent → i.faulty ≡ false → IsStream backend limit fed heard unheard → fed ++ waits ≡ output s i
    → AllByRecursion IsSpelled (transcript s i) → log ≡ input_log s i
    → IsSilent heard log ⊎ HasMet s settings ms i rest more sent heard log
meets one s settings ms i rest more sent heard log limit fed unheard waits sends (inl u) sound stream e spelled logged =
    let none : heard ≡ [] = begins_of_nil heard (heard_first one limit fed unheard waits heard [] stream tt (e ∙ unread_output s i u sound)) in
    inl (record { none = ap (λ l. (segments l).whole) none; few = subst (λ l. copies_begun (segments l).rest ≤ 1) (sym none) (omega arith); no_log = logged ∙ unread_log s i u })
meets one s settings ms i rest more sent heard log limit fed unheard waits sends (inr r) sound stream e spelled logged =
    let said = answered s settings i.messages in
    let is : transcript s i ≡ map Says said = read_transcript s settings i r.packets sound in
    let all : AllByRecursion (HasSpelling backend) said = says_spelled said (subst (AllByRecursion IsSpelled) is spelled) in
    let bytes : fed ++ waits ≡ flat_map (spelling backend) said = e ∙ ap (flat_map sent_bytes) is ∙ says_bytes said in
    met s settings ms i rest more sent heard log sends r sound (let_in s.auth (user_of settings) i.messages)
    (heard_first one limit fed unheard waits heard said stream all bytes) (logged ∙ read_log s settings i r.packets)
