-- The copies from the client in what is sent in a session: one at most for each request.
use Rattle.std.proofs.Common.{◌≡◌, ◌≤◌, ◌+◌, ℕ, zero, suc, Bool, true, false, List, [], ◌∷◌, ◌++◌, Option, Some, None, map, count_by, refl, ap, ◌∙◌, arith, cond, if◌then◌else◌}
use Rattle.std.specs.Prelude.{Result, Ok, Err}
use Rattle.std.specs.List.{flat_map, list_all}
use Rattle.std.proofs.lemmas.Bool.{leb-true}
use Rattle.std.proofs.lemmas.List.Sums.{sum_by-append, sum_by-cons}
use Rattle.pg_wire.specs.message.BackMessage.{BackMessage}
use Rattle.pg_wire.specs.message.BackMessage.TheVariants as back
use Rattle.pg_wire.specs.value.Column.{Column}
use Rattle.pg_wire.specs.value.ErrorField.{ErrorField}
use Rattle.pg_wire.specs.message.FrontMessage.{FrontMessage}
use Rattle.pg_wire.specs.declared.session.Aside.{Aside}
use Rattle.pg_wire.specs.declared.session.Aside.TheVariants as aside
use Rattle.pg_wire.specs.declared.session.ExecEnd.{ExecEnd}
use Rattle.pg_wire.specs.declared.session.ExecEnd.TheVariants as ends
use Rattle.pg_wire.specs.declared.session.Part.{Part}
use Rattle.pg_wire.specs.declared.session.Part.TheVariants as whole
use Rattle.pg_wire.specs.declared.session.Request.{Request}
use Rattle.pg_wire.specs.declared.session.Request.TheVariants as request
use Rattle.pg_wire.specs.declared.session.Step.{Step}
use Rattle.pg_wire.specs.Segment.{messages_of, parameters_sent, columns_sent, segments}
use Rattle.pg_wire.specs.Segment as segment
use Rattle.pg_backend.specs.declared.script.Answer.{Answer}
use Rattle.pg_backend.specs.declared.script.Load.TheVariants.{Accept, Refuse}
use Rattle.pg_backend.specs.declared.script.ScriptPart.{ScriptPart}
use Rattle.pg_backend.specs.declared.script.ScriptPart.TheVariants as part
use Rattle.pg_backend.specs.declared.meaning.Meaning.{Meaning}
use Rattle.pg_backend.specs.declared.meaning.Meaning.TheVariants.{Asks, Adds, Closes, Drops, Leaves, Strays}
use Rattle.pg_backend.specs.Fitting.{fits, answer_for, others}
use Rattle.pg_backend.specs.Check.{is_copy_in, has_one_copy}
use Rattle.pg_backend.specs.Outcome.{parts_of}
use Rattle.pg_backend.specs.OwnError.{no_answer}
use Rattle.pg_backend.specs.Copies.{CopyEnd, copy_end}
use Rattle.pg_backend.specs.Meaning.{in_copy, meaning}
use Rattle.pg_backend.specs.Replies.{Shape, Whole, Copies, shape, Verdict, verdict, aside_message, parts_sent, end_sent, after_end, after_copy, reply, reply_of}
use Rattle.pg_backend.specs.Session.{Exchange, exchange, Place, Between, Grouping, Copying, Terminated, Stray, Session, only, place_after, copy_place, from_exchange, from_request, from_message, session_past, farewell, all_sent}
use Rattle.pg_backend.specs.Turns.{is_copied_in}
use Rattle.pg_wire.specs.Turns.{copies_begun}
use Rattle.pg_backend.specs.Laws.{HaveOneCopy, OneCopyEach}
use Rattle.pg_backend.proofs.Definitions.SessionGrows.{no_farewell_copy, said_cons, said_open}
use Rattle.pg_backend.proofs.Replying.RepliesFit.{and_true, ShapeOf, shape_is}
use Rattle.pg_backend.proofs.Replying.SegmentsFitLog.{AreInner, IsSegment, segments_inner, segment_first, reply_inner, reply_segment}

copies-append : (xs ys : List BackMessage) → copies_begun (xs ++ ys) ≡ copies_begun xs + copies_begun ys
copies-append [] ys = omega arith
copies-append (back.CopyIn head ∷ xs) ys = omega (arith, copies-append xs ys)
copies-append (_ ∷ xs) ys = copies-append xs ys

count_cons : {X : Type 0} (p : X → Bool) (x : X) (xs : List X) → count_by p (x ∷ xs) ≡ count_by p (x ∷ []) + count_by p xs
count_cons p x xs = let one = sum_by-cons (λ y. cond (p y) 1 0) x [] in omega (arith, sum_by-cons (λ y. cond (p y) 1 0) x xs, one)

-- ---- what is sent for an answer

asides_none : (notes : List Aside) → copies_begun (map aside_message notes) ≡ 0
asides_none [] = refl
asides_none (aside.Notice fields ∷ notes) = asides_none notes
asides_none (aside.Parameter name value ∷ notes) = asides_none notes
asides_none (aside.Notification process channel payload ∷ notes) = asides_none notes

end_none : (error : Option (List ErrorField)) (a : Answer) → copies_begun (end_sent error a) ≡ 0
end_none None a = refl
end_none (Some fields) a = refl

rows_none : (rows : List (List (Option (List ℕ)))) (ms : List BackMessage) → copies_begun (map back.DataRow rows ++ ms) ≡ copies_begun ms
rows_none [] ms = refl
rows_none (r ∷ rows) ms = rows_none rows ms

chunks_none : (chunks : List (List ℕ)) (ms : List BackMessage) → copies_begun (map back.CopyData chunks ++ ms) ≡ copies_begun ms
chunks_none [] ms = refl
chunks_none (c ∷ chunks) ms = chunks_none chunks ms

described_none : (types : Option (List ℕ)) (columns : Option (List Column)) → copies_begun (parameters_sent types ++ columns_sent columns ∷ []) ≡ 0
described_none None None = refl
described_none None (Some columns) = refl
described_none (Some types) None = refl
described_none (Some types) (Some columns) = refl

exec_none : (end : ExecEnd) → copies_begun (segment.execute_end_sent end ∷ []) ≡ 0
exec_none (ends.Complete tag) = refl
exec_none ends.Empty = refl
exec_none ends.Suspended = refl

part_copies : (p : Part) → copies_begun (messages_of p) ≡ count_by is_copied_in (p ∷ [])
part_copies (whole.Rows columns rows tag) = rows_none rows _
part_copies (whole.Command tag) = refl
part_copies whole.Empty = refl
part_copies (whole.CopyOut head chunks tag) = chunks_none chunks _
part_copies (whole.CopyIn head tag) = refl
part_copies whole.Parsed = refl
part_copies whole.Bound = refl
part_copies (whole.Described types columns) = described_none types columns
part_copies (whole.Executed rows end) = rows_none rows _ ∙ exec_none end
part_copies whole.Shut = refl

sent_copies : (ps : List Part) → copies_begun (flat_map messages_of ps) ≡ count_by is_copied_in ps
sent_copies [] = refl
sent_copies (p ∷ ps) = omega (arith, copies-append (messages_of p) (flat_map messages_of ps), part_copies p, sent_copies ps, count_cons is_copied_in p ps)

-- a copy that is complete was in the answer
complete_copies : (ps : List ScriptPart) → count_by is_copied_in (parts_of ps) ≤ count_by is_copy_in ps
complete_copies [] = omega arith
complete_copies (part.Rows columns rows tag ∷ ps) = complete_copies ps
complete_copies (part.Command tag ∷ ps) = complete_copies ps
complete_copies (part.Empty ∷ ps) = complete_copies ps
complete_copies (part.CopyOut head chunks tag ∷ ps) = complete_copies ps
complete_copies (part.CopyIn head (Accept tag) ∷ ps) = omega (arith, complete_copies ps, count_cons is_copy_in (part.CopyIn head (Accept tag)) ps, count_cons is_copied_in (whole.CopyIn head tag) (parts_of ps))
complete_copies (part.CopyIn head (Refuse after fields) ∷ ps) = omega (arith, complete_copies ps, count_cons is_copy_in (part.CopyIn head (Refuse after fields)) ps)
complete_copies (part.Parsed ∷ ps) = complete_copies ps
complete_copies (part.Bound ∷ ps) = complete_copies ps
complete_copies (part.Described types columns ∷ ps) = complete_copies ps
complete_copies (part.Executed rows end ∷ ps) = complete_copies ps
complete_copies (part.Shut ∷ ps) = complete_copies ps

parts_copies : (ps : List ScriptPart) → copies_begun (parts_sent ps) ≤ count_by is_copy_in ps
parts_copies ps = omega (arith, sent_copies (parts_of ps), complete_copies ps)

after_copies : (a : Answer) (after : List ScriptPart) (o : Option CopyEnd) → copies_begun (after_copy a after o) ≤ count_by is_copy_in after
after_copies a after None = omega arith
after_copies a after (Some e) = ended (e.result)
  where
    ended : (r : Result (List ℕ) (List ErrorField)) → copies_begun (after_end a after r) ≤ count_by is_copy_in after
    ended (Ok tag) = omega (arith, copies-append (parts_sent after) (end_sent a.error a), parts_copies after, end_none a.error a)
    ended (Err fields) = omega (arith, end_none (Some fields) a)

shape_copies : (a : Answer) (s : Shape) (ms : List FrontMessage) → ShapeOf a.parts s → copies_begun (reply_of a s ms) ≤ count_by is_copy_in a.parts
shape_copies a Whole ms shaped = omega (arith, copies-append (parts_sent a.parts) (end_sent a.error a), parts_copies a.parts, end_none a.error a)
shape_copies a (Copies before head load after) ms shaped =
    let parts : count_by is_copy_in a.parts ≡ count_by is_copy_in before + count_by is_copy_in (part.CopyIn head load ∷ after) = ap (count_by is_copy_in) shaped ∙ sum_by-append (λ y. cond (is_copy_in y) 1 0) before (part.CopyIn head load ∷ after) in
    omega (arith, parts, count_cons is_copy_in (part.CopyIn head load) after, copies-append (parts_sent before) (back.CopyIn head ∷ after_copy a after (copy_end load ms)), parts_copies before, after_copies a after (copy_end load ms))

reply_copies : (a : Answer) (ms : List FrontMessage) → copies_begun (reply a ms) ≤ count_by is_copy_in a.parts
reply_copies a ms = omega (arith, copies-append (map aside_message a.before) (reply_of a (shape a.parts) ms), asides_none a.before, shape_copies a (shape a.parts) ms (shape_is a.parts))

-- ---- the answers

chosen_copies : (a : Answer) (b : Bool) → has_one_copy a ≡ true → has_one_copy (if b then a else no_answer) ≡ true
chosen_copies a true h = h
chosen_copies a false h = refl

answer_copies : (answers : List Answer) (r : Request) → list_all has_one_copy answers ≡ true → has_one_copy (answer_for answers r) ≡ true
answer_copies [] r h = refl
answer_copies (a ∷ more) r h = chosen_copies a (fits r a) (and_true (has_one_copy a) (list_all has_one_copy more) h).0

others_copies : (answers : List Answer) → list_all has_one_copy answers ≡ true → list_all has_one_copy (others answers) ≡ true
others_copies [] h = refl
others_copies (a ∷ more) h = (and_true (has_one_copy a) (list_all has_one_copy more) h).1

reply_one : (answers : List Answer) (r : Request) (ms : List FrontMessage) → list_all has_one_copy answers ≡ true → copies_begun (reply (answer_for answers r) ms) ≤ 1
reply_one answers r ms h =
    let a = answer_for answers r in
    omega (arith, reply_copies a ms, leb-true (count_by is_copy_in a.parts) 1 (answer_copies answers r h))

-- ---- a session

abbrev One : Session → Type 0
One s = HaveOneCopy (segments (all_sent s))

only_one : (place : Place) → One (only place)
only_one Between = (tt, omega arith)
only_one (Grouping steps) = (tt, omega arith)
only_one Copying = (tt, omega arith)
only_one Terminated = (tt, omega arith)
only_one Stray = (tt, omega arith)

begun_one : (e : Exchange) (o : Option Verdict) (place : Place) (rest : ℕ → Session)
    → farewell place ≡ [] → copies_begun e.reply ≤ 1
    → (o ≡ None → AreInner e.reply)
    → ((v : Verdict) → o ≡ Some v → IsSegment e.reply)
    → ((n : ℕ) → One (rest n))
    → One (from_exchange e o place rest)
begun_one e None place rest silent few inner whole more =
    let all : segments (all_sent (record { exchanges = e ∷ []; place = place })) ≡ record { whole = []; rest = e.reply } = ap segments (said_open e place silent) ∙ segments_inner e.reply (inner refl) in
    rw all (tt, few)
begun_one e (Some v) place rest silent few inner whole more =
    let all : segments (all_sent (record { exchanges = e ∷ (rest v.taken).exchanges; place = (rest v.taken).place })) ≡ record { whole = e.reply ∷ (segments (all_sent (rest v.taken))).whole; rest = (segments (all_sent (rest v.taken))).rest } =
    ap segments (said_cons e (rest v.taken)) ∙ segment_first e.reply (all_sent (rest v.taken)) (whole v refl) in
    rw all ((few, (more v.taken).0), (more v.taken).1)

begin_one : (answers : List Answer) (r : Request) (ms : List FrontMessage) (rest : ℕ → Session) → list_all has_one_copy answers ≡ true → ((n : ℕ) → One (rest n)) → One (from_request answers r ms rest)
begin_one answers r ms rest h more =
    let a = answer_for answers r in
    begun_one (exchange r a ms) (verdict a ms) (copy_place (map in_copy ms)) rest (no_farewell_copy (map in_copy ms)) (reply_one answers r ms h) (reply_inner a ms) (reply_segment a ms) more

read_one : (answers : List Answer) (k : Meaning) (steps : List Step) (ms : List FrontMessage) (rest : ℕ → List Answer → List Step → Session) → list_all has_one_copy answers ≡ true
    → ((n : ℕ) (a : List Answer) (s : List Step) → list_all has_one_copy a ≡ true → One (rest n a s)) → One (from_message answers k steps ms rest)
read_one answers (Asks text) [] ms rest h more = begin_one answers (request.Query text) ms _ h (λ n. more n (others answers) [] (others_copies answers h))
read_one answers (Asks text) (s ∷ ss) ms rest h more = only_one Stray
read_one answers (Adds s) steps ms rest h more = more 0 answers (steps ++ s ∷ []) h
read_one answers Closes steps ms rest h more = begin_one answers (request.Group steps) ms _ h (λ n. more n (others answers) [] (others_copies answers h))
read_one answers Drops steps ms rest h more = more 0 answers steps h
read_one answers Leaves steps ms rest h more = only_one Terminated
read_one answers Strays steps ms rest h more = only_one Stray

cut_one : (n : ℕ) (answers : List Answer) (steps : List Step) (ms : List FrontMessage) → list_all has_one_copy answers ≡ true → One (session_past n answers steps ms)
cut_one n answers steps [] h = only_one (place_after steps)
cut_one zero answers steps (m ∷ ms) h = read_one answers (meaning m) steps ms _ h (λ n a s k. cut_one n a s ms k)
cut_one (suc n) answers steps (m ∷ ms) h = cut_one n answers steps ms h

pub one_copy_each : OneCopyEach
one_copy_each answers ms h = cut_one 0 answers [] ms h
