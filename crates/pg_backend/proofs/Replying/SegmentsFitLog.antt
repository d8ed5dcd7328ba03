-- The segments of what is sent in a session.
use Rattle.std.proofs.Common.{◌≡◌, ℕ, zero, suc, List, [], ◌∷◌, ◌++◌, Option, Some, None, map, refl, ap, sym, ◌∙◌, append_assoc}
use Rattle.std.specs.Prelude.{Result, Ok, Err}
use Rattle.std.specs.List.{flat_map, AllByRecursion}
use Rattle.pg_wire.specs.message.BackMessage.{BackMessage}
use Rattle.pg_wire.specs.message.BackMessage.TheVariants as back
use Rattle.pg_wire.specs.value.Column.{Column}
use Rattle.pg_wire.specs.value.ErrorField.{ErrorField}
use Rattle.pg_wire.specs.message.FrontMessage.{FrontMessage}
use Rattle.pg_wire.specs.value.Status.{Status}
use Rattle.pg_wire.specs.value.Status.TheVariants.{Idle}
use Rattle.pg_wire.specs.declared.session.Aside.{Aside}
use Rattle.pg_wire.specs.declared.session.Aside.TheVariants as aside
use Rattle.pg_wire.specs.declared.session.ExecEnd.{ExecEnd}
use Rattle.pg_wire.specs.declared.session.ExecEnd.TheVariants as ends
use Rattle.pg_wire.specs.declared.session.Part.{Part}
use Rattle.pg_wire.specs.declared.session.Part.TheVariants as whole
use Rattle.pg_wire.specs.declared.session.Request.{Request}
use Rattle.pg_wire.specs.declared.session.Request.TheVariants as request
use Rattle.pg_wire.specs.declared.session.Step.{Step}
use Rattle.pg_wire.specs.Segment.{Fits, messages_of, parameters_sent, columns_sent, Segments, status_of, put_before, segments}
use Rattle.pg_wire.specs.Segment as segment
use Rattle.pg_backend.specs.declared.script.Answer.{Answer}
use Rattle.pg_backend.specs.declared.script.Auth.{Auth}
use Rattle.pg_backend.specs.declared.script.Auth.TheVariants.{Trust, Cleartext, Md5}
use Rattle.pg_backend.specs.declared.script.Key.{Key}
use Rattle.pg_backend.specs.declared.script.Script.{Script}
use Rattle.pg_backend.specs.declared.script.ScriptPart.{ScriptPart}
use Rattle.pg_backend.specs.declared.meaning.Meaning.{Meaning}
use Rattle.pg_backend.specs.declared.meaning.Meaning.TheVariants.{Asks, Adds, Closes, Drops, Leaves, Strays}
use Rattle.pg_backend.specs.Fitting.{answer_for, others}
use Rattle.pg_backend.specs.Outcome.{parts_of}
use Rattle.pg_backend.specs.Copies.{copy_end}
use Rattle.pg_backend.specs.Meaning.{in_copy, meaning}
use Rattle.pg_backend.specs.Replies.{Shape, Whole, Copies, shape, Verdict, verdict, verdict_of, at_copy_end, aside_message, parts_sent, error_sent, end_sent, after_end, reply, reply_of}
use Rattle.pg_backend.specs.Session.{Exchange, exchange, Place, Between, Grouping, Copying, Terminated, Stray, Session, only, place_after, copy_place, from_exchange, from_request, from_message, session_past, farewell, all_sent, decided}
use Rattle.pg_backend.specs.Opening.{welcome, pair_message, key_messages, question_for}
use Rattle.pg_backend.specs.Laws.{FitEach, SegmentsFitLog, WelcomeIsSegment}
use Rattle.pg_backend.proofs.Definitions.DecidedStays.{map_some}
use Rattle.pg_backend.proofs.Definitions.SessionGrows.{no_farewell_copy, said_cons, said_open}
use Rattle.pg_backend.proofs.Replying.RepliesFit.{answer_fits, not_ended, reply_fits}

abbrev pub AreInner : List BackMessage → Type 0
AreInner ms = AllByRecursion (λ m. status_of m ≡ None) ms

-- messages without a ReadyForQuery, and one
abbrev pub IsSegment : List BackMessage → Type 0
IsSegment ms = (inner : List BackMessage) × (status : Status) × AreInner inner × (ms ≡ inner ++ back.Ready status ∷ [])

-- ---- segments of inner messages

pub segments_inner : (ms : List BackMessage) → AreInner ms → segments ms ≡ record { whole = []; rest = ms }
segments_inner [] h = refl
segments_inner (m ∷ ms) h = ap (λ (s : Segments). put_before (status_of m) m s.whole s.rest) (segments_inner ms h.1) ∙ rw (h.0) refl

segments_first : (inner : List BackMessage) (status : Status) (ms : List BackMessage) → AreInner inner
    → segments ((inner ++ back.Ready status ∷ []) ++ ms) ≡ record { whole = (inner ++ back.Ready status ∷ []) ∷ (segments ms).whole; rest = (segments ms).rest }
segments_first [] status ms h = refl
segments_first (m ∷ inner) status ms h = ap (λ (s : Segments). put_before (status_of m) m s.whole s.rest) (segments_first inner status ms h.1) ∙ rw (h.0) refl

pub segment_first : (s ms : List BackMessage) → IsSegment s → segments (s ++ ms) ≡ record { whole = s ∷ (segments ms).whole; rest = (segments ms).rest }
segment_first s ms h = rw (h.3) (segments_first h.0 h.1 ms h.2)

inner_append : (xs ys : List BackMessage) → AreInner xs → AreInner ys → AreInner (xs ++ ys)
inner_append [] ys h k = k
inner_append (x ∷ xs) ys h k = (h.0, inner_append xs ys h.1 k)

inner_map : {A : Type 0} (f : A → BackMessage) → ((x : A) → status_of (f x) ≡ None) → (xs : List A) → AreInner (map f xs)
inner_map f h [] = tt
inner_map f h (x ∷ xs) = (h x, inner_map f h xs)

segment_after : (xs s : List BackMessage) → AreInner xs → IsSegment s → IsSegment (xs ++ s)
segment_after xs s h k = (xs ++ k.0, k.1, inner_append xs k.0 h k.2, ap (λ (l : List BackMessage). xs ++ l) k.3 ∙ sym (append_assoc xs k.0 (back.Ready k.1 ∷ [])))

-- ---- what is sent for an answer

aside_inner : (a : Aside) → status_of (aside_message a) ≡ None
aside_inner (aside.Notice fields) = refl
aside_inner (aside.Parameter name value) = refl
aside_inner (aside.Notification process channel payload) = refl

columns_inner : (columns : Option (List Column)) → status_of (columns_sent columns) ≡ None
columns_inner None = refl
columns_inner (Some columns) = refl

parameters_inner : (types : Option (List ℕ)) → AreInner (parameters_sent types)
parameters_inner None = tt
parameters_inner (Some types) = (refl, tt)

end_inner : (end : ExecEnd) → status_of (segment.execute_end_sent end) ≡ None
end_inner (ends.Complete tag) = refl
end_inner ends.Empty = refl
end_inner ends.Suspended = refl

part_inner : (p : Part) → AreInner (messages_of p)
part_inner (whole.Rows columns rows tag) = (refl, inner_append (map back.DataRow rows) _ (inner_map back.DataRow (λ x. refl) rows) (refl, tt))
part_inner (whole.Command tag) = (refl, tt)
part_inner whole.Empty = (refl, tt)
part_inner (whole.CopyOut head chunks tag) = (refl, inner_append (map back.CopyData chunks) _ (inner_map back.CopyData (λ x. refl) chunks) (refl, (refl, tt)))
part_inner (whole.CopyIn head tag) = (refl, (refl, tt))
part_inner whole.Parsed = (refl, tt)
part_inner whole.Bound = (refl, tt)
part_inner (whole.Described types columns) = inner_append (parameters_sent types) _ (parameters_inner types) (columns_inner columns, tt)
part_inner (whole.Executed rows end) = inner_append (map back.DataRow rows) _ (inner_map back.DataRow (λ x. refl) rows) (end_inner end, tt)
part_inner whole.Shut = (refl, tt)

parts_inner : (ps : List Part) → AreInner (flat_map messages_of ps)
parts_inner [] = tt
parts_inner (p ∷ ps) = inner_append (messages_of p) (flat_map messages_of ps) (part_inner p) (parts_inner ps)

error_inner : (error : Option (List ErrorField)) → AreInner (error_sent error)
error_inner None = tt
error_inner (Some fields) = (refl, tt)

end_segment : (error : Option (List ErrorField)) (a : Answer) → IsSegment (end_sent error a)
end_segment error a = (error_sent error, a.status, error_inner error, refl)

after_segment : (a : Answer) (after : List ScriptPart) (end : Result (List ℕ) (List ErrorField)) → IsSegment (after_end a after end)
after_segment a after (Ok tag) = segment_after (back.CommandComplete tag ∷ parts_sent after) (end_sent a.error a) (refl, parts_inner (parts_of after)) (end_segment a.error a)
after_segment a after (Err fields) = end_segment (Some fields) a

reply_of_segment : (a : Answer) (s : Shape) (ms : List FrontMessage) (v : Verdict) → verdict_of a s ms ≡ Some v → IsSegment (reply_of a s ms)
reply_of_segment a Whole ms v is = segment_after (parts_sent a.parts) (end_sent a.error a) (parts_inner (parts_of a.parts)) (end_segment a.error a)
reply_of_segment a (Copies before head load after) ms v is =
    let end = map_some (at_copy_end a before) (copy_end load ms) v is in
    rw (end.1) (segment_after (parts_sent before) _ (parts_inner (parts_of before)) (segment_after (back.CopyIn head ∷ []) _ (refl, tt) (after_segment a after end.0.result)))

reply_of_inner : (a : Answer) (s : Shape) (ms : List FrontMessage) → verdict_of a s ms ≡ None → AreInner (reply_of a s ms)
reply_of_inner a Whole ms is = absurd cc
reply_of_inner a (Copies before head load after) ms is =
    rw (not_ended a before (copy_end load ms) is) (inner_append (parts_sent before) (back.CopyIn head ∷ []) (parts_inner (parts_of before)) (refl, tt))

pub reply_segment : (a : Answer) (ms : List FrontMessage) (v : Verdict) → verdict a ms ≡ Some v → IsSegment (reply a ms)
reply_segment a ms v is = segment_after (map aside_message a.before) _ (inner_map aside_message aside_inner a.before) (reply_of_segment a (shape a.parts) ms v is)

pub reply_inner : (a : Answer) (ms : List FrontMessage) → verdict a ms ≡ None → AreInner (reply a ms)
reply_inner a ms is = inner_append (map aside_message a.before) _ (inner_map aside_message aside_inner a.before) (reply_of_inner a (shape a.parts) ms is)

-- ---- a session

abbrev Agree : Session → Type 0
Agree s = FitEach (decided s) (segments (all_sent s)).whole

only_agrees : (place : Place) → Agree (only place)
only_agrees Between = tt
only_agrees (Grouping steps) = tt
only_agrees Copying = tt
only_agrees Terminated = tt
only_agrees Stray = tt

begun_agrees : (e : Exchange) (o : Option Verdict) (place : Place) (rest : ℕ → Session)
    → e.verdict ≡ o → farewell place ≡ []
    → (o ≡ None → AreInner e.reply)
    → ((v : Verdict) → o ≡ Some v → IsSegment e.reply)
    → ((v : Verdict) → o ≡ Some v → Fits e.request e.reply v.outcome)
    → ((n : ℕ) → Agree (rest n))
    → Agree (from_exchange e o place rest)
begun_agrees e None place rest was silent inner whole fit more =
    let none : (segments (all_sent (record { exchanges = e ∷ []; place = place }))).whole ≡ [] =
    ap (λ (l : List BackMessage). (segments l).whole) (said_open e place silent) ∙ ap (λ (s : Segments). s.whole) (segments_inner e.reply (inner refl)) in
    rw (was, none) tt
begun_agrees e (Some v) place rest was silent inner whole fit more =
    let first : (segments (all_sent (record { exchanges = e ∷ (rest v.taken).exchanges; place = (rest v.taken).place }))).whole ≡ e.reply ∷ (segments (all_sent (rest v.taken))).whole =
    ap (λ (l : List BackMessage). (segments l).whole) (said_cons e (rest v.taken)) ∙ ap (λ (s : Segments). s.whole) (segment_first e.reply (all_sent (rest v.taken)) (whole v refl)) in
    rw (was, first) (fit v refl, more v.taken)

begin_agrees : (answers : List Answer) (r : Request) (ms : List FrontMessage) (rest : ℕ → Session) → ((n : ℕ) → Agree (rest n)) → Agree (from_request answers r ms rest)
begin_agrees answers r ms rest more =
    let a = answer_for answers r in
    begun_agrees (exchange r a ms) (verdict a ms) (copy_place (map in_copy ms)) rest refl (no_farewell_copy (map in_copy ms)) (reply_inner a ms) (reply_segment a ms)
    (λ v is. reply_fits r a ms v (answer_fits answers r) is) more

read_agrees : (answers : List Answer) (k : Meaning) (steps : List Step) (ms : List FrontMessage) (rest : ℕ → List Answer → List Step → Session)
    → ((n : ℕ) (a : List Answer) (s : List Step) → Agree (rest n a s)) → Agree (from_message answers k steps ms rest)
read_agrees answers (Asks text) [] ms rest more = begin_agrees answers (request.Query text) ms _ (λ n. more n (others answers) [])
read_agrees answers (Asks text) (s ∷ ss) ms rest more = tt
read_agrees answers (Adds s) steps ms rest more = more 0 answers (steps ++ s ∷ [])
read_agrees answers Closes steps ms rest more = begin_agrees answers (request.Group steps) ms _ (λ n. more n (others answers) [])
read_agrees answers Drops steps ms rest more = more 0 answers steps
read_agrees answers Leaves steps ms rest more = tt
read_agrees answers Strays steps ms rest more = tt

cut_agrees : (n : ℕ) (answers : List Answer) (steps : List Step) (ms : List FrontMessage) → Agree (session_past n answers steps ms)
cut_agrees n answers steps [] = only_agrees (place_after steps)
cut_agrees zero answers steps (m ∷ ms) = read_agrees answers (meaning m) steps ms _ (λ n a s. cut_agrees n a s ms)
cut_agrees (suc n) answers steps (m ∷ ms) = cut_agrees n answers steps ms

pub segments_fit_log : SegmentsFitLog
segments_fit_log answers ms = cut_agrees 0 answers [] ms

-- ---- the welcome

key_inner : (key : Option Key) → AreInner (key_messages key)
key_inner None = tt
key_inner (Some key) = (refl, tt)

asked_inner : (auth : Auth) (user : List ℕ) → AreInner (question_for auth user)
asked_inner auth [] = tt
asked_inner Trust (c ∷ cs) = tt
asked_inner (Cleartext password) (c ∷ cs) = (refl, tt)
asked_inner (Md5 password salt) (c ∷ cs) = (refl, tt)

welcome_segment : (s : Script) → IsSegment (welcome s)
welcome_segment s = (
  back.AuthOk ∷ (map pair_message s.pairs ++ key_messages s.key),
  Idle,
  (refl, inner_append (map pair_message s.pairs) (key_messages s.key) (inner_map pair_message (λ p. refl) s.pairs) (key_inner s.key)),
  refl,
)

pub welcome_is_segment : WelcomeIsSegment
welcome_is_segment s user ms =
    let first = question_for s.auth user in
    rw (← append_assoc first (welcome s) ms) (segment_first (first ++ welcome s) ms (segment_after first (welcome s) (asked_inner s.auth user) (welcome_segment s)))
