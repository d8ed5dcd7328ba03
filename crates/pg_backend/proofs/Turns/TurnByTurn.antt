-- What is sent for the messages of a client that takes turns: for each request what its own copy messages come to.
use Rattle.std.proofs.Common.{◌≡◌, ℕ, zero, suc, ◌≤◌, length, true, List, [], ◌∷◌, ◌++◌, Option, Some, None, option_map, map, refl, ap, sym, ◌∙◌, append_assoc, arith, IsSome}
use Rattle.std.specs.Prelude.{Result, Ok, Err}
use Rattle.std.specs.List.{flat_map}
use Rattle.std.proofs.lemmas.List.{append-nil, length-map, map-append}
use Rattle.std.proofs.lemmas.Option.{same_Some}
use Rattle.pg_wire.specs.message.BackMessage.{BackMessage}
use Rattle.pg_wire.specs.value.ErrorField.{ErrorField}
use Rattle.pg_wire.specs.message.FrontMessage.{FrontMessage}
use Rattle.pg_wire.specs.message.FrontMessage.TheVariants as front
use Rattle.pg_wire.specs.declared.session.Request.{Request}
use Rattle.pg_wire.specs.declared.session.Request.TheVariants as request
use Rattle.pg_wire.specs.declared.session.Step.{Step}
use Rattle.pg_wire.specs.declared.session.Step.TheVariants as step
use Rattle.pg_wire.specs.Segment.{step_message, request_messages}
use Rattle.pg_backend.specs.declared.script.Answer.{Answer}
use Rattle.pg_backend.specs.declared.script.Load.{Load}
use Rattle.pg_backend.specs.declared.script.Load.TheVariants.{Accept, Refuse}
use Rattle.pg_backend.specs.declared.meaning.InCopy.{InCopy}
use Rattle.pg_backend.specs.declared.meaning.InCopy.TheVariants as copy
use Rattle.pg_backend.specs.declared.meaning.Meaning.TheVariants.{Adds, Drops}
use Rattle.pg_backend.specs.Fitting.{answer_for, others}
use Rattle.pg_backend.specs.Copies.{CopyEnd, ended, with_chunk, with_wait, accepted, refused, copy_end}
use Rattle.pg_backend.specs.Meaning.{in_copy, meaning}
use Rattle.pg_backend.specs.Replies.{Shape, Whole, Copies, shape, Verdict, verdict, verdict_of, at_copy_end, after_copy, parts_sent, aside_message, reply_of}
use Rattle.pg_backend.specs.Outcome.{whole_outcome}
use Rattle.pg_wire.specs.message.BackMessage.TheVariants as back
use Rattle.pg_backend.specs.Session.{Exchange, exchange, Place, Terminated, Session, copy_place, from_exchange, from_request, session_past}
use Rattle.pg_wire.specs.Turns.{Turn, turn_messages, is_copy, AreCopies}
use Rattle.pg_backend.specs.Turns.{one_place}
use Rattle.pg_backend.specs.Laws.{TurnsRead, TurnsEnd}
use Rattle.pg_backend.proofs.Definitions.DecidedStays.{verdict_more, reply_more, map_some}

meaning_copy : (m : FrontMessage) → is_copy m ≡ true → meaning m ≡ Drops
meaning_copy (front.CopyData bytes) h = refl
meaning_copy front.CopyDone h = refl
meaning_copy (front.CopyFail reason) h = refl
meaning_copy _ h = absurd cc

pub meaning_step : (s : Step) → meaning (step_message s) ≡ Adds s
meaning_step (step.Parse name text types) = refl
meaning_step (step.Bind portal statement formats values results) = refl
meaning_step (step.Describe target name) = refl
meaning_step (step.Execute portal max_rows) = refl
meaning_step (step.Close target name) = refl

-- copy messages between requests are dropped
pub cut_skips : (n : ℕ) (answers : List Answer) (xs ms : List FrontMessage) → AreCopies xs → n ≤ length xs → session_past n answers [] (xs ++ ms) ≡ session_past 0 answers [] ms
cut_skips zero answers [] ms copies within = refl
cut_skips (suc n) answers [] ms copies within = absurd (omega arith)
cut_skips zero answers (x ∷ xs) ms copies within = rw (meaning_copy x copies.0) (cut_skips 0 answers xs ms copies.1 (omega arith))
cut_skips (suc n) answers (x ∷ xs) ms copies within = cut_skips n answers xs ms copies.1 (omega arith)

group_read : (answers : List Answer) (before steps : List Step) (ms : List FrontMessage)
    → session_past 0 answers before ((map step_message steps ++ front.Sync ∷ []) ++ ms) ≡ from_request answers (request.Group (before ++ steps)) ms (λ n. session_past n (others answers) [] ms)
group_read answers before [] ms = rw (append-nil before) refl
group_read answers before (s ∷ ss) ms = rw (meaning_step s) (group_read answers (before ++ s ∷ []) ss ms ∙ ap (λ l. from_request answers (request.Group l) ms (λ n. session_past n (others answers) [] ms)) (append_assoc before (s ∷ []) ss))

-- the messages of a request are read as that request
pub request_read : (answers : List Answer) (r : Request) (ms : List FrontMessage)
    → session_past 0 answers [] (request_messages r ++ ms) ≡ from_request answers r ms (λ n. session_past n (others answers) [] ms)
request_read answers (request.Query text) ms = refl
request_read answers (request.Group steps) ms = group_read answers [] steps ms

-- ---- a copy takes no more messages than there are

abbrev TakesWithin : ℕ → Option CopyEnd → Type 0
TakesWithin n o = (e : CopyEnd) → o ≡ Some e → e.taken ≤ n

one_more : (f : CopyEnd → CopyEnd) → ((e : CopyEnd) → (f e).taken ≡ suc e.taken) → (n : ℕ) (o : Option CopyEnd) → TakesWithin n o → TakesWithin (suc n) (option_map f o)
one_more f adds n None h = λ e is. cc
one_more f adds n (Some x) h = λ e is.
    let same : f x ≡ e = same_Some (f x) e is in
    let long : e.taken ≡ suc x.taken = ap (λ (y : CopyEnd). y.taken) (sym same) ∙ adds x in
    let short : x.taken ≤ n = h x refl in
    omega arith

one_taken : (result : Result (List ℕ) (List ErrorField)) (n : ℕ) → TakesWithin (suc n) (ended result)
one_taken result n = λ e is.
    let long : 1 ≡ e.taken = ap (λ (y : CopyEnd). y.taken) (same_Some (record { loaded = []; result = result; taken = 1 }) e is) in
    omega arith

accepted_within : (tag : List ℕ) (ms : List InCopy) → TakesWithin (length ms) (accepted tag ms)
accepted_within tag [] = λ e is. cc
accepted_within tag (copy.Chunk bytes ∷ ms) = one_more (with_chunk bytes) (λ e. refl) (length ms) (accepted tag ms) (accepted_within tag ms)
accepted_within tag (copy.Done ∷ ms) = one_taken (Ok tag) (length ms)
accepted_within tag (copy.Fails reason ∷ ms) = one_taken (Err _) (length ms)
accepted_within tag (copy.Strays ∷ ms) = one_taken (Err _) (length ms)
accepted_within tag (copy.Waits ∷ ms) = one_more with_wait (λ e. refl) (length ms) (accepted tag ms) (accepted_within tag ms)
accepted_within tag (copy.Leaves ∷ ms) = λ e is. cc

refused_within : (fields : List ErrorField) (n : ℕ) (ms : List InCopy) → TakesWithin (length ms) (refused fields n ms)
refused_within fields zero ms = λ e is.
    let none : 0 ≡ e.taken = ap (λ (y : CopyEnd). y.taken) (same_Some (record { loaded = []; result = Err fields; taken = 0 }) e is) in
    omega arith
refused_within fields (suc n) [] = λ e is. cc
refused_within fields (suc n) (copy.Chunk bytes ∷ ms) = one_more (with_chunk bytes) (λ e. refl) (length ms) (refused fields n ms) (refused_within fields n ms)
refused_within fields (suc n) (copy.Done ∷ ms) = one_taken (Err fields) (length ms)
refused_within fields (suc n) (copy.Fails reason ∷ ms) = one_taken (Err _) (length ms)
refused_within fields (suc n) (copy.Strays ∷ ms) = one_taken (Err _) (length ms)
refused_within fields (suc n) (copy.Waits ∷ ms) = one_more with_wait (λ e. refl) (length ms) (refused fields (suc n) ms) (refused_within fields (suc n) ms)
refused_within fields (suc n) (copy.Leaves ∷ ms) = λ e is. cc

copy_within : (load : Load) (ms : List FrontMessage) → TakesWithin (length ms) (copy_end load ms)
copy_within (Accept tag) ms = rw (← length-map ms in_copy) (accepted_within tag (map in_copy ms))
copy_within (Refuse n fields) ms = rw (← length-map ms in_copy) (refused_within fields n (map in_copy ms))

verdict_of_within : (a : Answer) (s : Shape) (ms : List FrontMessage) (v : Verdict) → verdict_of a s ms ≡ Some v → v.taken ≤ length ms
verdict_of_within a Whole ms v is =
    let none : 0 ≡ v.taken = ap (λ (y : Verdict). y.taken) (same_Some (record { outcome = whole_outcome a; loaded = []; taken = 0 }) v is) in
    omega arith
verdict_of_within a (Copies before head load after) ms v is =
    let end = map_some (at_copy_end a before) (copy_end load ms) v is in
    let same : Some (at_copy_end a before end.0) ≡ Some v = ap (option_map (at_copy_end a before)) (sym end.1) ∙ is in
    let long : end.0.taken ≡ v.taken = ap (λ (y : Verdict). y.taken) (same_Some (at_copy_end a before end.0) v same) in
    let short : end.0.taken ≤ length ms = copy_within load ms end.0 end.1 in
    omega arith

pub verdict_within : (a : Answer) (ms : List FrontMessage) (v : Verdict) → verdict a ms ≡ Some v → v.taken ≤ length ms
verdict_within a ms v is = verdict_of_within a (shape a.parts) ms v is

-- ---- a turn

pub same_exchange : (r : Request) (o p : Option Verdict) (l k : List BackMessage) → o ≡ p → l ≡ k
    → ◌≡◌ {A = Exchange} (record { request = r; verdict = o; reply = l }) (record { request = r; verdict = p; reply = k })
same_exchange r o p l k e f = rw (e, f) refl

begun_some : (e f : Exchange) (o : Option Verdict) (v : Verdict) (place : Place) (rest : ℕ → Session) (s : Session)
    → o ≡ Some v → e ≡ f → rest v.taken ≡ s
    → from_exchange e o place rest ≡ record { exchanges = f ∷ s.exchanges; place = s.place }
begun_some e f o v place rest s is same then = rw (is, same, then) refl

-- an exchange that is decided is followed by those of the next requests
pub turn_read : (answers : List Answer) (t : Turn) (rest : List FrontMessage) (v : Verdict)
    → AreCopies t.copies → verdict (answer_for answers t.request) t.copies ≡ Some v
    → session_past 0 answers [] (turn_messages t ++ rest)
    ≡ record { exchanges = exchange t.request (answer_for answers t.request) t.copies ∷ (session_past 0 (others answers) [] rest).exchanges; place = (session_past 0 (others answers) [] rest).place }
turn_read answers t rest v copies is =
    let a = answer_for answers t.request in
    ap (λ l. session_past 0 answers [] l) (append_assoc (request_messages t.request) t.copies rest)
    ∙ request_read answers t.request (t.copies ++ rest)
    ∙ begun_some (exchange t.request a (t.copies ++ rest)) (exchange t.request a t.copies) (verdict a (t.copies ++ rest)) v
    (copy_place (map in_copy (t.copies ++ rest))) (λ n. session_past n (others answers) [] (t.copies ++ rest)) (session_past 0 (others answers) [] rest)
    (verdict_more a t.copies rest v is)
    (same_exchange t.request _ _ _ _ (verdict_more a t.copies rest v is ∙ sym is) (reply_more a t.copies rest v is))
    (cut_skips v.taken (others answers) t.copies rest copies (verdict_within a t.copies v is))

begun_none : (e f : Exchange) (o : Option Verdict) (place : Place) (rest : ℕ → Session) → o ≡ None → e ≡ f → from_exchange e o place rest ≡ record { exchanges = f ∷ []; place = place }
begun_none e f o place rest is same = rw (is, same) refl

pub some_value : {A : Type 0} (o : Option A) → IsSome o → (x : A) × (o ≡ Some x)
some_value None h = cc
some_value (Some x) h = (x, refl)

-- ---- a Terminate

leaves_accepted : (tag : List ℕ) (ms : List InCopy) → accepted tag (ms ++ copy.Leaves ∷ []) ≡ accepted tag ms
leaves_accepted tag [] = refl
leaves_accepted tag (copy.Chunk bytes ∷ ms) = ap (option_map (with_chunk bytes)) (leaves_accepted tag ms)
leaves_accepted tag (copy.Done ∷ ms) = refl
leaves_accepted tag (copy.Fails reason ∷ ms) = refl
leaves_accepted tag (copy.Strays ∷ ms) = refl
leaves_accepted tag (copy.Waits ∷ ms) = ap (option_map with_wait) (leaves_accepted tag ms)
leaves_accepted tag (copy.Leaves ∷ ms) = refl

leaves_refused : (fields : List ErrorField) (n : ℕ) (ms : List InCopy) → refused fields n (ms ++ copy.Leaves ∷ []) ≡ refused fields n ms
leaves_refused fields zero ms = refl
leaves_refused fields (suc n) [] = refl
leaves_refused fields (suc n) (copy.Chunk bytes ∷ ms) = ap (option_map (with_chunk bytes)) (leaves_refused fields n ms)
leaves_refused fields (suc n) (copy.Done ∷ ms) = refl
leaves_refused fields (suc n) (copy.Fails reason ∷ ms) = refl
leaves_refused fields (suc n) (copy.Strays ∷ ms) = refl
leaves_refused fields (suc n) (copy.Waits ∷ ms) = ap (option_map with_wait) (leaves_refused fields (suc n) ms)
leaves_refused fields (suc n) (copy.Leaves ∷ ms) = refl

leaves_copy : (load : Load) (ms : List FrontMessage) → copy_end load (ms ++ front.Terminate ∷ []) ≡ copy_end load ms
leaves_copy (Accept tag) ms = rw (map-append in_copy ms (front.Terminate ∷ [])) (leaves_accepted tag (map in_copy ms))
leaves_copy (Refuse n fields) ms = rw (map-append in_copy ms (front.Terminate ∷ [])) (leaves_refused fields n (map in_copy ms))

leaves_verdict : (a : Answer) (s : Shape) (ms : List FrontMessage) → verdict_of a s (ms ++ front.Terminate ∷ []) ≡ verdict_of a s ms
leaves_verdict a Whole ms = refl
leaves_verdict a (Copies before head load after) ms = ap (option_map (at_copy_end a before)) (leaves_copy load ms)

leaves_reply : (a : Answer) (s : Shape) (ms : List FrontMessage) → reply_of a s (ms ++ front.Terminate ∷ []) ≡ reply_of a s ms
leaves_reply a Whole ms = refl
leaves_reply a (Copies before head load after) ms = ap (λ o. parts_sent before ++ back.CopyIn head ∷ after_copy a after o) (leaves_copy load ms)

leaves_place : (ms : List InCopy) → copy_place (ms ++ copy.Leaves ∷ []) ≡ Terminated
leaves_place [] = refl
leaves_place (copy.Leaves ∷ ms) = refl
leaves_place (m ∷ ms) = leaves_place ms

-- the last turn, where it isn't decided
last_read : (answers : List Answer) (t : Turn) → verdict (answer_for answers t.request) t.copies ≡ None
    → session_past 0 answers [] (turn_messages t) ≡ record { exchanges = exchange t.request (answer_for answers t.request) t.copies ∷ []; place = copy_place (map in_copy t.copies) }
last_read answers t is =
    let a = answer_for answers t.request in
    request_read answers t.request t.copies
    ∙ begun_none (exchange t.request a t.copies) (exchange t.request a t.copies) (verdict a t.copies) (copy_place (map in_copy t.copies)) (λ n. session_past n (others answers) [] t.copies) is refl

last_end : (answers : List Answer) (t : Turn) → verdict (answer_for answers t.request) t.copies ≡ None
    → session_past 0 answers [] (turn_messages t ++ front.Terminate ∷ []) ≡ record { exchanges = exchange t.request (answer_for answers t.request) t.copies ∷ []; place = Terminated }
last_end answers t is =
    let a = answer_for answers t.request in
    let ms = t.copies ++ front.Terminate ∷ [] in
    let same : verdict a ms ≡ verdict a t.copies = leaves_verdict a (shape a.parts) t.copies in
    ap (λ l. session_past 0 answers [] l) (append_assoc (request_messages t.request) t.copies (front.Terminate ∷ []))
    ∙ request_read answers t.request ms
    ∙ begun_none (exchange t.request a ms) (exchange t.request a t.copies) (verdict a ms) (copy_place (map in_copy ms)) (λ n. session_past n (others answers) [] ms) (same ∙ is)
    (same_exchange t.request _ _ _ _ same (ap (λ l. map aside_message a.before ++ l) (leaves_reply a (shape a.parts) t.copies)))
    ∙ ap (λ (p : Place). record { exchanges = exchange t.request a t.copies ∷ []; place = p }) (ap copy_place (map-append in_copy t.copies (front.Terminate ∷ [])) ∙ leaves_place (map in_copy t.copies))

-- ---- turns

one_read : (answers : List Answer) (t : Turn) (o : Option Verdict) → AreCopies t.copies → verdict (answer_for answers t.request) t.copies ≡ o
    → session_past 0 answers [] (turn_messages t ++ []) ≡ record { exchanges = exchange t.request (answer_for answers t.request) t.copies ∷ []; place = one_place o t.copies }
one_read answers t None copies is = ap (λ l. session_past 0 answers [] l) (append-nil (turn_messages t)) ∙ last_read answers t is
one_read answers t (Some v) copies is = turn_read answers t [] v copies is

pub turns_read : TurnsRead
turns_read answers [] h = refl
turns_read answers (t ∷ []) h = one_read answers t _ h refl
turns_read answers (t ∷ u ∷ ts) h =
    let v = some_value (verdict (answer_for answers t.request) t.copies) h.1 in
    turn_read answers t (flat_map turn_messages (u ∷ ts)) v.0 h.0 v.1
    ∙ ap (λ (s : Session). record { exchanges = exchange t.request (answer_for answers t.request) t.copies ∷ s.exchanges; place = s.place }) (turns_read (others answers) (u ∷ ts) h.2)

one_end : (answers : List Answer) (t : Turn) (o : Option Verdict) → AreCopies t.copies → verdict (answer_for answers t.request) t.copies ≡ o
    → session_past 0 answers [] (turn_messages t ++ front.Terminate ∷ []) ≡ record { exchanges = exchange t.request (answer_for answers t.request) t.copies ∷ []; place = Terminated }
one_end answers t None copies is = last_end answers t is
one_end answers t (Some v) copies is = turn_read answers t (front.Terminate ∷ []) v copies is

pub turns_end : TurnsEnd
turns_end answers [] h = refl
turns_end answers (t ∷ []) h = ap (λ l. session_past 0 answers [] (l ++ front.Terminate ∷ [])) (append-nil (turn_messages t)) ∙ one_end answers t _ h refl
turns_end answers (t ∷ u ∷ ts) h =
    let v = some_value (verdict (answer_for answers t.request) t.copies) h.1 in
    ap (λ l. session_past 0 answers [] l) (append_assoc (turn_messages t) (flat_map turn_messages (u ∷ ts)) (front.Terminate ∷ []))
    ∙ turn_read answers t (flat_map turn_messages (u ∷ ts) ++ front.Terminate ∷ []) v.0 h.0 v.1
    ∙ ap (λ (s : Session). record { exchanges = exchange t.request (answer_for answers t.request) t.copies ∷ s.exchanges; place = s.place }) (turns_end (others answers) (u ∷ ts) h.2)
