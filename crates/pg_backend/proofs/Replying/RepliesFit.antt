-- What is sent for an answer that fits a request is read as it was meant.
use Rattle.std.proofs.Common.{◌≡◌, ℕ, zero, suc, Bool, true, false, ◌&&◌, List, [], ◌∷◌, ◌++◌, Option, Some, None, is_some, option_map, map, refl, ap, sym, ◌∙◌, append_assoc, inl, inr, if◌then◌else◌}
use Rattle.std.specs.Prelude.{Result, Ok, Err}
use Rattle.std.specs.List.{flat_map, list_all, AllByRecursion}
use Rattle.std.proofs.lemmas.List.{append-nil}
use Rattle.std.proofs.lemmas.List.Concat.{flat_map-append}
use Rattle.std.proofs.lemmas.Option.{same_Some}
use Rattle.pg_wire.specs.message.BackMessage.{BackMessage}
use Rattle.pg_wire.specs.message.BackMessage.TheVariants as back
use Rattle.pg_wire.specs.value.Column.{Column}
use Rattle.pg_wire.specs.value.CopyHead.{CopyHead}
use Rattle.pg_wire.specs.value.ErrorField.{ErrorField}
use Rattle.pg_wire.specs.message.FrontMessage.{FrontMessage}
use Rattle.pg_wire.specs.value.Target.TheVariants.{Statement, Portal}
use Rattle.pg_wire.specs.declared.session.Aside.{Aside}
use Rattle.pg_wire.specs.declared.session.Aside.TheVariants as aside
use Rattle.pg_wire.specs.declared.session.ExecEnd.{ExecEnd}
use Rattle.pg_wire.specs.declared.session.ExecEnd.TheVariants as ends
use Rattle.pg_wire.specs.declared.session.Outcome.{Outcome}
use Rattle.pg_wire.specs.declared.session.Part.{Part}
use Rattle.pg_wire.specs.declared.session.Part.TheVariants as whole
use Rattle.pg_wire.specs.declared.session.Request.{Request}
use Rattle.pg_wire.specs.declared.session.Request.TheVariants as request
use Rattle.pg_wire.specs.declared.session.Step.{Step}
use Rattle.pg_wire.specs.declared.session.Step.TheVariants as step
use Rattle.pg_wire.specs.Segment.{aside_of, asides_of, without_asides, messages_of, parameters_sent, columns_sent, is_result, is_answer, Asked, Results, Steps, asked, Answers, IsDone, IsCutOff, Reads, Fits}
use Rattle.pg_wire.specs.Segment as segment
use Rattle.pg_backend.specs.declared.script.Answer.{Answer}
use Rattle.pg_backend.specs.declared.script.Load.{Load}
use Rattle.pg_backend.specs.declared.script.Load.TheVariants.{Accept, Refuse}
use Rattle.pg_backend.specs.declared.script.ScriptPart.{ScriptPart}
use Rattle.pg_backend.specs.declared.script.ScriptPart.TheVariants as part
use Rattle.pg_backend.specs.declared.meaning.InCopy.{InCopy}
use Rattle.pg_backend.specs.declared.meaning.InCopy.TheVariants as copy
use Rattle.pg_backend.specs.Fitting.{answers_query, answers_step, answers_steps, fits}
use Rattle.pg_backend.specs.Check.{is_copy_in}
use Rattle.pg_backend.specs.Outcome.{complete, parts_of, whole_outcome}
use Rattle.pg_backend.specs.OwnError.{no_answer}
use Rattle.pg_backend.specs.Copies.{CopyEnd, with_chunk, with_wait, ended, accepted, refused, copy_end}
use Rattle.pg_backend.specs.Meaning.{in_copy}
use Rattle.pg_backend.specs.Replies.{Shape, Whole, Copies, after_part, shape, Verdict, verdict_of, outcome_at, at_copy_end, aside_message, parts_sent, error_sent, end_sent, after_end, after_copy, reply, reply_of}
use Rattle.pg_backend.specs.Laws.{AnswerFits, ReplyFits, ReplyBegins}
use Rattle.pg_backend.proofs.Definitions.DecidedStays.{map_some}

pub and_true : (a b : Bool) → (a && b) ≡ true → (a ≡ true) × (b ≡ true)
and_true true b h = (refl, h)
and_true false b h = cc

-- ---- asides

abbrev ArePlain : List BackMessage → Type 0
ArePlain ms = AllByRecursion (λ m. aside_of m ≡ None) ms

plain_asides : (ms : List BackMessage) → ArePlain ms → asides_of ms ≡ []
plain_asides [] h = refl
plain_asides (m ∷ ms) h = rw (h.0) (plain_asides ms h.1)

plain_others : (ms : List BackMessage) → ArePlain ms → without_asides ms ≡ ms
plain_others [] h = refl
plain_others (m ∷ ms) h = rw (h.0) (ap (λ (l : List BackMessage). m ∷ l) (plain_others ms h.1))

aside_itself : (a : Aside) → aside_of (aside_message a) ≡ Some a
aside_itself (aside.Notice fields) = refl
aside_itself (aside.Parameter name value) = refl
aside_itself (aside.Notification process channel payload) = refl

asides_before : (before : List Aside) (ms : List BackMessage) → ArePlain ms → asides_of (map aside_message before ++ ms) ≡ before
asides_before [] ms h = plain_asides ms h
asides_before (a ∷ before) ms h = rw (aside_itself a) (ap (λ (l : List Aside). a ∷ l) (asides_before before ms h))

others_after : (before : List Aside) (ms : List BackMessage) → ArePlain ms → without_asides (map aside_message before ++ ms) ≡ ms
others_after [] ms h = plain_others ms h
others_after (a ∷ before) ms h = rw (aside_itself a) (others_after before ms h)

plain_append : (xs ys : List BackMessage) → ArePlain xs → ArePlain ys → ArePlain (xs ++ ys)
plain_append [] ys h k = k
plain_append (x ∷ xs) ys h k = (h.0, plain_append xs ys h.1 k)

plain_map : {A : Type 0} (f : A → BackMessage) → ((x : A) → aside_of (f x) ≡ None) → (xs : List A) → ArePlain (map f xs)
plain_map f h [] = tt
plain_map f h (x ∷ xs) = (h x, plain_map f h xs)

columns_plain : (columns : Option (List Column)) → aside_of (columns_sent columns) ≡ None
columns_plain None = refl
columns_plain (Some columns) = refl

parameters_plain : (types : Option (List ℕ)) → ArePlain (parameters_sent types)
parameters_plain None = tt
parameters_plain (Some types) = (refl, tt)

end_plain : (end : ExecEnd) → aside_of (segment.execute_end_sent end) ≡ None
end_plain (ends.Complete tag) = refl
end_plain ends.Empty = refl
end_plain ends.Suspended = refl

part_plain : (p : Part) → ArePlain (messages_of p)
part_plain (whole.Rows columns rows tag) = (refl, plain_append (map back.DataRow rows) _ (plain_map back.DataRow (λ x. refl) rows) (refl, tt))
part_plain (whole.Command tag) = (refl, tt)
part_plain whole.Empty = (refl, tt)
part_plain (whole.CopyOut head chunks tag) = (refl, plain_append (map back.CopyData chunks) _ (plain_map back.CopyData (λ x. refl) chunks) (refl, (refl, tt)))
part_plain (whole.CopyIn head tag) = (refl, (refl, tt))
part_plain whole.Parsed = (refl, tt)
part_plain whole.Bound = (refl, tt)
part_plain (whole.Described types columns) = plain_append (parameters_sent types) _ (parameters_plain types) (columns_plain columns, tt)
part_plain (whole.Executed rows end) = plain_append (map back.DataRow rows) _ (plain_map back.DataRow (λ x. refl) rows) (end_plain end, tt)
part_plain whole.Shut = (refl, tt)

parts_plain : (ps : List Part) → ArePlain (flat_map messages_of ps)
parts_plain [] = tt
parts_plain (p ∷ ps) = plain_append (messages_of p) (flat_map messages_of ps) (part_plain p) (parts_plain ps)

error_plain : (error : Option (List ErrorField)) → ArePlain (error_sent error)
error_plain None = tt
error_plain (Some fields) = (refl, tt)

-- asides, then messages that are read so, then ReadyForQuery
fits_after : (r : Request) (before : List Aside) (ms sent : List BackMessage) (o : Outcome)
    → o.asides ≡ before → ArePlain ms → Reads (asked r) ms o.parts o.error → sent ≡ ms ++ back.Ready o.status ∷ [] → Fits r (map aside_message before ++ sent) o
fits_after r before ms sent o same plain reads is = record {
  body = map aside_message before ++ ms;
  closed = ap (λ (l : List BackMessage). map aside_message before ++ l) is ∙ sym (append_assoc (map aside_message before) ms (back.Ready o.status ∷ []));
  asides = asides_before before ms plain ∙ sym same;
  reads = rw (others_after before ms plain) reads;
}

-- ---- whole parts, and maybe an error after them

reads_whole : (a rest : Asked) (parts : List Part) (error : Option (List ErrorField)) → Answers a parts rest → (error ≡ None → IsDone rest)
    → Reads a (flat_map messages_of parts ++ error_sent error) parts error
reads_whole a rest parts None answers done = (rest, answers, done refl, append-nil (flat_map messages_of parts))
reads_whole a rest parts (Some fields) answers done = (rest, answers, [], inl refl, [], refl)

results_read : (ps : List Part) → list_all is_result ps ≡ true → Answers Results ps Results
results_read [] h = refl
results_read (p ∷ ps) h = let one = and_true (is_result p) (list_all is_result ps) h in (one.0, results_read ps one.1)

all_append : (xs ys : List Part) → list_all is_result xs ≡ true → list_all is_result ys ≡ true → list_all is_result (xs ++ ys) ≡ true
all_append [] ys h k = k
all_append (x ∷ xs) ys h k = let one = and_true (is_result x) (list_all is_result xs) h in rw (one.0) (all_append xs ys one.1 k)

query_results : (ps : List ScriptPart) → list_all answers_query ps ≡ true → list_all is_result (parts_of ps) ≡ true
query_results [] h = refl
query_results (p ∷ ps) h = let one = and_true (answers_query p) (list_all answers_query ps) h in all_append (complete p) (parts_of ps) one.0 (query_results ps one.1)

all_before : (xs ys : List ScriptPart) → list_all answers_query (xs ++ ys) ≡ true → list_all answers_query xs ≡ true
all_before [] ys h = refl
all_before (x ∷ xs) ys h = let one = and_true (answers_query x) (list_all answers_query (xs ++ ys)) h in rw (one.0) (all_before xs ys one.1)

-- an answer without a copy, whose parts answer what is asked
whole_fits : (r : Request) (a : Answer) (rest : Asked) → Answers (asked r) (parts_of a.parts) rest → (a.error ≡ None → IsDone rest)
    → Fits r (map aside_message a.before ++ (parts_sent a.parts ++ end_sent a.error a)) (whole_outcome a)
whole_fits r a rest answers done =
    fits_after r a.before (parts_sent a.parts ++ error_sent a.error) _ (whole_outcome a) refl
    (plain_append (parts_sent a.parts) (error_sent a.error) (parts_plain (parts_of a.parts)) (error_plain a.error))
    (reads_whole (asked r) rest (parts_of a.parts) a.error answers done)
    (sym (append_assoc (parts_sent a.parts) (error_sent a.error) (back.Ready a.status ∷ [])))

-- ---- a copy

-- how a copy that is treated so may end: with its own tag, or with any error
abbrev pub EndsSo : Load → Result (List ℕ) (List ErrorField) → Type 0
EndsSo (Accept tag) (Ok t) = t ≡ tag
EndsSo (Refuse after fields) (Ok t) = ⊥
EndsSo load (Err fields) = Unit {0}

copy_parts : (before : List ScriptPart) (head : CopyHead) (tag : List ℕ) (after : List ScriptPart)
    → parts_sent (before ++ part.CopyIn head (Accept tag) ∷ after) ≡ parts_sent before ++ back.CopyIn head ∷ back.CommandComplete tag ∷ parts_sent after
copy_parts before head tag after =
    ap (flat_map messages_of) (flat_map-append complete before (part.CopyIn head (Accept tag) ∷ after))
    ∙ flat_map-append messages_of (parts_of before) (whole.CopyIn head tag ∷ parts_of after)

-- what is sent for an answer whose copy has this end
copy_fits : (text : List ℕ) (a : Answer) (before : List ScriptPart) (head : CopyHead) (load : Load) (after : List ScriptPart) (end : Result (List ℕ) (List ErrorField))
    → list_all answers_query a.parts ≡ true → a.parts ≡ before ++ part.CopyIn head load ∷ after → EndsSo load end
    → Fits (request.Query text) (map aside_message a.before ++ (parts_sent before ++ back.CopyIn head ∷ after_end a after end)) (outcome_at a before end)
copy_fits text a before head (Accept tag) after (Ok t) query parts so =
    let r : Request = request.Query text in
    let sent : parts_sent a.parts ++ end_sent a.error a ≡ parts_sent before ++ back.CopyIn head ∷ after_end a after (Ok t) =
    ap (λ (l : List ScriptPart). parts_sent l ++ end_sent a.error a) parts
    ∙ ap (λ (l : List BackMessage). l ++ end_sent a.error a) (copy_parts before head tag after)
    ∙ append_assoc (parts_sent before) (back.CopyIn head ∷ back.CommandComplete tag ∷ parts_sent after) (end_sent a.error a)
    ∙ ap (λ (x : List ℕ). parts_sent before ++ back.CopyIn head ∷ back.CommandComplete x ∷ (parts_sent after ++ end_sent a.error a)) (sym so) in
    rw (← sent) (whole_fits r a Results (results_read (parts_of a.parts) (query_results a.parts query)) (λ e. tt))
copy_fits text a before head (Refuse n fields) after (Ok t) query parts so = absurd so
copy_fits text a before head load after (Err fields) query parts so =
    let query' : list_all answers_query (before ++ part.CopyIn head load ∷ after) ≡ true = rw (← parts) query in
    fits_after (request.Query text) a.before (parts_sent before ++ back.CopyIn head ∷ back.ErrorResponse fields ∷ []) _ (outcome_at a before (Err fields)) refl
    (plain_append (parts_sent before) _ (parts_plain (parts_of before)) (refl, (refl, tt)))
    (Results, results_read (parts_of before) (query_results before (all_before before _ query')), back.CopyIn head ∷ [], inr (whole.CopyIn head [], back.CommandComplete [], [], Results, (refl, refl), refl), [], refl)
    (sym (append_assoc (parts_sent before) (back.CopyIn head ∷ back.ErrorResponse fields ∷ []) (back.Ready a.status ∷ [])))

-- a copy ends as it may
abbrev AllEndSo : Load → Option CopyEnd → Type 0
AllEndSo load o = (e : CopyEnd) → o ≡ Some e → EndsSo load e.result

end_so : (load : Load) (f : CopyEnd → CopyEnd) → ((e : CopyEnd) → (f e).result ≡ e.result) → (o : Option CopyEnd) → AllEndSo load o → AllEndSo load (option_map f o)
end_so load f keeps None h = λ e is. cc
end_so load f keeps (Some x) h = λ e is.
    let same : x.result ≡ e.result = sym (keeps x) ∙ ap (λ (y : CopyEnd). y.result) (same_Some (f x) e is) in
    rw (← same) (h x refl)

one_end : (load : Load) (result : Result (List ℕ) (List ErrorField)) → EndsSo load result → AllEndSo load (ended result)
one_end load result so = λ e is.
    let same : result ≡ e.result = ap (λ (y : CopyEnd). y.result) (same_Some (record { loaded = []; result = result; taken = 1 }) e is) in
    rw (← same) so

accepted_ends : (tag : List ℕ) (ms : List InCopy) → AllEndSo (Accept tag) (accepted tag ms)
accepted_ends tag [] = λ e is. cc
accepted_ends tag (copy.Chunk bytes ∷ ms) = end_so (Accept tag) (with_chunk bytes) (λ e. refl) (accepted tag ms) (accepted_ends tag ms)
accepted_ends tag (copy.Done ∷ ms) = one_end (Accept tag) (Ok tag) refl
accepted_ends tag (copy.Fails reason ∷ ms) = one_end (Accept tag) (Err _) tt
accepted_ends tag (copy.Strays ∷ ms) = one_end (Accept tag) (Err _) tt
accepted_ends tag (copy.Waits ∷ ms) = end_so (Accept tag) with_wait (λ e. refl) (accepted tag ms) (accepted_ends tag ms)
accepted_ends tag (copy.Leaves ∷ ms) = λ e is. cc

refused_ends : (k : ℕ) (fields : List ErrorField) (n : ℕ) (ms : List InCopy) → AllEndSo (Refuse k fields) (refused fields n ms)
refused_ends k fields zero ms = λ e is.
    let same : Err fields ≡ e.result = ap (λ (y : CopyEnd). y.result) (same_Some (record { loaded = []; result = Err fields; taken = 0 }) e is) in
    rw (← same) tt
refused_ends k fields (suc n) [] = λ e is. cc
refused_ends k fields (suc n) (copy.Chunk bytes ∷ ms) = end_so (Refuse k fields) (with_chunk bytes) (λ e. refl) (refused fields n ms) (refused_ends k fields n ms)
refused_ends k fields (suc n) (copy.Done ∷ ms) = one_end (Refuse k fields) (Err fields) tt
refused_ends k fields (suc n) (copy.Fails reason ∷ ms) = one_end (Refuse k fields) (Err _) tt
refused_ends k fields (suc n) (copy.Strays ∷ ms) = one_end (Refuse k fields) (Err _) tt
refused_ends k fields (suc n) (copy.Waits ∷ ms) = end_so (Refuse k fields) with_wait (λ e. refl) (refused fields (suc n) ms) (refused_ends k fields (suc n) ms)
refused_ends k fields (suc n) (copy.Leaves ∷ ms) = λ e is. cc

copy_ends : (load : Load) (ms : List FrontMessage) → AllEndSo load (copy_end load ms)
copy_ends (Accept tag) ms = accepted_ends tag (map in_copy ms)
copy_ends (Refuse n fields) ms = refused_ends n fields n (map in_copy ms)

-- what the shape of parts says of them
abbrev pub ShapeOf : List ScriptPart → Shape → Type 0
ShapeOf ps Whole = Unit {0}
ShapeOf ps (Copies before head load after) = ps ≡ before ++ part.CopyIn head load ∷ after

shape_more : (p : ScriptPart) (ps : List ScriptPart) (s : Shape) → ShapeOf ps s → ShapeOf (p ∷ ps) (after_part p s)
shape_more p ps Whole h = tt
shape_more p ps (Copies before head load after) h = ap (λ (l : List ScriptPart). p ∷ l) h

pub shape_is : (ps : List ScriptPart) → ShapeOf ps (shape ps)
shape_is [] = tt
shape_is (part.CopyIn head load ∷ ps) = refl
shape_is (p ∷ ps) = shape_more p ps (shape ps) (shape_is ps)

ended_fits : (text : List ℕ) (a : Answer) (before : List ScriptPart) (head : CopyHead) (after : List ScriptPart) (o : Option CopyEnd) (e : CopyEnd) (v : Verdict) → o ≡ Some e → at_copy_end a before e ≡ v
    → Fits (request.Query text) (map aside_message a.before ++ (parts_sent before ++ back.CopyIn head ∷ after_end a after e.result)) (outcome_at a before e.result)
    → Fits (request.Query text) (map aside_message a.before ++ (parts_sent before ++ back.CopyIn head ∷ after_copy a after o)) v.outcome
ended_fits text a before head after o e v is same h = rw (is, ← same) h

query_fits : (text : List ℕ) (a : Answer) (s : Shape) (ms : List FrontMessage) (v : Verdict) → ShapeOf a.parts s → list_all answers_query a.parts ≡ true
    → verdict_of a s ms ≡ Some v → Fits (request.Query text) (map aside_message a.before ++ reply_of a s ms) v.outcome
query_fits text a Whole ms v shaped query is =
    let same : whole_outcome a ≡ v.outcome = ap (λ (x : Verdict). x.outcome) (same_Some (record { outcome = whole_outcome a; loaded = []; taken = 0 }) v is) in
    rw (← same) (whole_fits (request.Query text) a Results (results_read (parts_of a.parts) (query_results a.parts query)) (λ e. tt))
query_fits text a (Copies before head load after) ms v shaped query is =
    let end = map_some (at_copy_end a before) (copy_end load ms) v is in
    let value : at_copy_end a before end.0 ≡ v = same_Some (at_copy_end a before end.0) v (ap (option_map (at_copy_end a before)) (sym end.1) ∙ is) in
    ended_fits text a before head after (copy_end load ms) end.0 v end.1 value (copy_fits text a before head load after end.0.result query shaped (copy_ends load ms end.0 end.1))

-- any error may end a copy
any_end : (load : Load) → EndsSo load (Err [])
any_end (Accept tag) = tt
any_end (Refuse n fields) = tt

pub not_ended : (a : Answer) (before : List ScriptPart) (o : Option CopyEnd) → option_map (at_copy_end a before) o ≡ None → o ≡ None
not_ended a before None h = refl
not_ended a before (Some e) h = cc

query_begins : (text : List ℕ) (a : Answer) (s : Shape) (ms : List FrontMessage) → ShapeOf a.parts s → list_all answers_query a.parts ≡ true
    → verdict_of a s ms ≡ None → segment.Begins (request.Query text) (map aside_message a.before ++ reply_of a s ms)
query_begins text a Whole ms shaped query is = absurd cc
query_begins text a (Copies before head load after) ms shaped query is =
    let none : copy_end load ms ≡ None = not_ended a before (copy_end load ms) is in
    let sent : (map aside_message a.before ++ (parts_sent before ++ back.CopyIn head ∷ [])) ++ after_end a after (Err []) ≡ map aside_message a.before ++ (parts_sent before ++ back.CopyIn head ∷ after_end a after (Err [])) =
    append_assoc (map aside_message a.before) (parts_sent before ++ back.CopyIn head ∷ []) (after_end a after (Err []))
    ∙ ap (λ (l : List BackMessage). map aside_message a.before ++ l) (append_assoc (parts_sent before) (back.CopyIn head ∷ []) (after_end a after (Err []))) in
    rw none (after_end a after (Err []), outcome_at a before (Err []), rw sent (copy_fits text a before head load after (Err []) query shaped (any_end load)))

-- ---- a group

record StepAnswered (s : Step) (p : ScriptPart) : Type 0 where
  answer : Part
  is : complete p ≡ answer ∷ []
  answers : is_answer s answer ≡ true
  no_copy : is_copy_in p ≡ false

step_answered : (s : Step) (p : ScriptPart) → answers_step s p ≡ true → StepAnswered s p
step_answered (step.Parse name text types) part.Parsed h = record { answer = whole.Parsed; is = refl; answers = refl; no_copy = refl }
step_answered (step.Bind portal statement formats values results) part.Bound h = record { answer = whole.Bound; is = refl; answers = refl; no_copy = refl }
step_answered (step.Describe Statement name) (part.Described (Some types) columns) h = record { answer = whole.Described (Some types) columns; is = refl; answers = refl; no_copy = refl }
step_answered (step.Describe Portal name) (part.Described None columns) h = record { answer = whole.Described None columns; is = refl; answers = refl; no_copy = refl }
step_answered (step.Execute portal max_rows) (part.Executed rows end) h = record { answer = whole.Executed rows end; is = refl; answers = refl; no_copy = refl }
step_answered (step.Close target name) part.Shut h = record { answer = whole.Shut; is = refl; answers = refl; no_copy = refl }
step_answered s (part.CopyIn head (Accept tag)) h = none s h
  where
    none : (s : Step) → answers_step s (part.CopyIn head (Accept tag)) ≡ true → StepAnswered s (part.CopyIn head (Accept tag))
    none (step.Parse name text types) k = absurd cc
    none (step.Bind portal statement formats values results) k = absurd cc
    none (step.Describe Statement name) k = absurd cc
    none (step.Describe Portal name) k = absurd cc
    none (step.Execute portal max_rows) k = absurd cc
    none (step.Close target name) k = absurd cc
step_answered s (part.CopyIn head (Refuse n fields)) h = absurd cc
step_answered _ _ h = absurd cc

shape_cons : (p : ScriptPart) (ps : List ScriptPart) → is_copy_in p ≡ false → shape (p ∷ ps) ≡ after_part p (shape ps)
shape_cons (part.CopyIn head load) ps h = absurd cc
shape_cons _ ps h = refl

record StepsAnswered (error : Bool) (ss : List Step) (ps : List ScriptPart) : Type 0 where
  rest : Asked
  answers : Answers (Steps ss) (parts_of ps) rest
  done : error ≡ false → IsDone rest
  no_copy : shape ps ≡ Whole

next_answered : (s : Step) (ss : List Step) (p : ScriptPart) (ps : List ScriptPart) (rest : Asked) → StepAnswered s p → Answers (Steps ss) (parts_of ps) rest → Answers (Steps (s ∷ ss)) (parts_of (p ∷ ps)) rest
next_answered s ss p ps rest one more = rw (one.is) (one.answers, more)

steps_answered : (error : Bool) (ss : List Step) (ps : List ScriptPart) → answers_steps error ss ps ≡ true → StepsAnswered error ss ps
steps_answered error [] [] h = record { rest = Steps []; answers = refl; done = λ e. tt; no_copy = refl }
steps_answered error [] (p ∷ ps) h = absurd cc
steps_answered error (s ∷ ss) [] h = record { rest = Steps (s ∷ ss); answers = refl; done = λ e. absurd cc; no_copy = refl }
steps_answered error (s ∷ ss) (p ∷ ps) h =
    let both = and_true (answers_step s p) (answers_steps error ss ps) h in
    let one = step_answered s p both.0 in
    let more = steps_answered error ss ps both.1 in
    record {
      rest = more.rest;
      answers = next_answered s ss p ps more.rest one more.answers;
      done = more.done;
      no_copy = shape_cons p ps one.no_copy ∙ ap (after_part p) more.no_copy;
    }

no_error : (error : Option (List ErrorField)) → error ≡ None → is_some error ≡ false
no_error None h = refl
no_error (Some fields) h = absurd cc

group_fits : (steps : List Step) (a : Answer) (s : Shape) (ms : List FrontMessage) (v : Verdict) → s ≡ Whole → StepsAnswered (is_some a.error) steps a.parts
    → verdict_of a s ms ≡ Some v → Fits (request.Group steps) (map aside_message a.before ++ reply_of a s ms) v.outcome
group_fits steps a Whole ms v none h is =
    let same : whole_outcome a ≡ v.outcome = ap (λ (x : Verdict). x.outcome) (same_Some (record { outcome = whole_outcome a; loaded = []; taken = 0 }) v is) in
    rw (← same) (whole_fits (request.Group steps) a h.rest h.answers (λ e. h.done (no_error a.error e)))
group_fits steps a (Copies before head load after) ms v none h is = absurd cc

group_begins : (steps : List Step) (a : Answer) (s : Shape) (ms : List FrontMessage) → s ≡ Whole → verdict_of a s ms ≡ None
    → segment.Begins (request.Group steps) (map aside_message a.before ++ reply_of a s ms)
group_begins steps a Whole ms none is = absurd cc
group_begins steps a (Copies before head load after) ms none is = absurd cc

-- ---- requests

pub reply_fits : ReplyFits
reply_fits r a ms v h is = of r h
  where
    of : (r : Request) → fits r a ≡ true → Fits r (reply a ms) v.outcome
    of (request.Query text) k = query_fits text a (shape a.parts) ms v (shape_is a.parts) k is
    of (request.Group steps) k = let all = steps_answered (is_some a.error) steps a.parts k in group_fits steps a (shape a.parts) ms v all.no_copy all is

pub reply_begins : ReplyBegins
reply_begins r a ms h is = of r h
  where
    of : (r : Request) → fits r a ≡ true → segment.Begins r (reply a ms)
    of (request.Query text) k = query_begins text a (shape a.parts) ms (shape_is a.parts) k is
    of (request.Group steps) k = let all = steps_answered (is_some a.error) steps a.parts k in group_begins steps a (shape a.parts) ms all.no_copy is

-- the server's own error answers every request
no_answer_fits : (r : Request) → fits r no_answer ≡ true
no_answer_fits (request.Query text) = refl
no_answer_fits (request.Group []) = refl
no_answer_fits (request.Group (s ∷ ss)) = refl

chosen_fits : (a : Answer) (r : Request) (b : Bool) → fits r a ≡ b → fits r (if b then a else no_answer) ≡ true
chosen_fits a r true is = is
chosen_fits a r false is = no_answer_fits r

pub answer_fits : AnswerFits
answer_fits [] r = no_answer_fits r
answer_fits (a ∷ more) r = chosen_fits a r (fits r a) refl
