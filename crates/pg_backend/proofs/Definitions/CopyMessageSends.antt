-- What is sent and logged for one message more during a copy.
use Rattle.std.proofs.Common.{◌≡◌, ◌≢◌, ◌⊎◌, inl, inr, ℕ, zero, suc, ◌+◌, ◌-◌, length, Bool, true, false, List, [], ◌∷◌, ◌++◌, Option, Some, None, option_map, map, refl, ap, sym, ◌∙◌, append_assoc, arith, length-append}
use Rattle.std.specs.Prelude.{Result, Ok, Err, ◌==◌, if◌then◌else◌}
use Rattle.std.proofs.lemmas.Bool.Decides.{eqb_tells}
use Rattle.std.proofs.lemmas.List.{append-nil, length-map, map-append}
use Rattle.pg_wire.specs.message.BackMessage.TheVariants as back
use Rattle.pg_wire.specs.value.CopyHead.{CopyHead}
use Rattle.pg_wire.specs.value.ErrorField.{ErrorField}
use Rattle.pg_wire.specs.message.FrontMessage.{FrontMessage}
use Rattle.pg_wire.specs.declared.session.Request.{Request}
use Rattle.pg_backend.specs.declared.meaning.InCopy.{InCopy}
use Rattle.pg_backend.specs.declared.meaning.InCopy.TheVariants as copy
use Rattle.pg_backend.specs.declared.script.Answer.{Answer}
use Rattle.pg_backend.specs.declared.script.Load.{Load}
use Rattle.pg_backend.specs.declared.script.Load.TheVariants.{Accept, Refuse}
use Rattle.pg_backend.specs.declared.script.ScriptPart.{ScriptPart}
use Rattle.pg_backend.specs.declared.script.ScriptPart.TheVariants as part
use Rattle.pg_backend.specs.Fitting.{answer_for, others}
use Rattle.pg_backend.specs.Copies.{CopyEnd, accepted, refused, copy_end}
use Rattle.pg_backend.specs.Meaning.{in_copy}
use Rattle.pg_backend.specs.OwnError.{canceled, out_of_copy}
use Rattle.pg_backend.specs.Replies.{Shape, Whole, Copies, shape, after_part, Verdict, verdict, at_copy_end, outcome_at, aside_message, parts_sent, after_end, after_copy, reply}
use Rattle.pg_backend.specs.Session.{Exchange, exchange, Place, Between, Terminated, Session, only, copy_place, from_exchange, from_request, session_past, farewell, all_sent, decided}
use Rattle.pg_backend.specs.Awaited.{prepend, WithinRequest, chunks_in, AllWait, NotRefused, Undecided}
use Rattle.pg_backend.specs.Private.Moves.{parts_before, parts_after, CopyEffect, Decides, Keeps, Abandons, effect, has_effect}
use Rattle.pg_backend.proofs.Definitions.MessageSends.{Beyond, Grown, grown, now}
use Rattle.pg_backend.proofs.Definitions.CopyCounted.{accepted_on, refused_on}
use Rattle.pg_backend.proofs.Definitions.ReadOn.{passes}
use Rattle.pg_backend.proofs.Definitions.SessionGrows.{no_farewell_copy, said_open}
use Rattle.std.proofs.lemmas.Option.{same_Some}

-- ---- where a copy stands in its answer

shape_parts : (p : ScriptPart) (ps : List ScriptPart) (s : Shape) (before : List ScriptPart) (head : CopyHead) (load : Load) (later : List ScriptPart)
    → after_part p s ≡ Copies before head load later → (b : List ScriptPart) × (before ≡ p ∷ b) × (s ≡ Copies b head load later)
shape_parts p ps Whole before head load later is = cc
shape_parts p ps (Copies b h l a) before head load later is = (b, cc, cc)

-- the parts before the copy, and those after it
pub copy_parts : (ps before : List ScriptPart) (head : CopyHead) (load : Load) (later : List ScriptPart)
    → shape ps ≡ Copies before head load later → (parts_before ps ≡ before) × (parts_after ps ≡ later)
copy_parts [] before head load later is = cc
copy_parts (part.CopyIn h l ∷ ps) before head load later is = (cc, cc)
copy_parts (p ∷ ps) before head load later is =
    let s = shape_parts p ps (shape ps) before head load later is in
    let more = copy_parts ps s.0 head load later s.2 in
    (ap (λ l. p ∷ l) more.0 ∙ sym s.1, more.1)

-- ---- what decides a copy

abbrev pub ends_of : Load → List InCopy → Option CopyEnd
ends_of (Accept tag) ms = accepted tag ms
ends_of (Refuse n fields) ms = refused fields n ms

-- what a message does to a copy after these messages
abbrev pub IsEffect : Load → List InCopy → CopyEffect → Type 0
IsEffect load ms (Decides loaded result) = ends_of load ms ≡ Some (record { loaded = loaded; result = result; taken = length ms })
IsEffect load ms (Keeps loaded) = (ends_of load ms ≡ None) × AllWait ms × (loaded ≡ chunks_in ms) × NotRefused load (length loaded)
IsEffect load ms Abandons = (ends_of load ms ≡ None) × (copy_place ms ≡ Terminated)

some_end : (l k : List (List ℕ)) (r : Result (List ℕ) (List ErrorField)) (n m : ℕ) → l ≡ k → n ≡ m
    → ◌≡◌ {A = Option CopyEnd} (Some (record { loaded = l; result = r; taken = n })) (Some (record { loaded = k; result = r; taken = m }))
some_end l k r n m e f = rw (e, f) refl

waits_chunk : (ms : List InCopy) (bytes : List ℕ) → AllWait ms → AllWait (ms ++ copy.Chunk bytes ∷ [])
waits_chunk [] bytes h = tt
waits_chunk (copy.Chunk b ∷ ms) bytes h = waits_chunk ms bytes h
waits_chunk (copy.Waits ∷ ms) bytes h = waits_chunk ms bytes h
waits_chunk (m ∷ ms) bytes h = absurd h

waits_wait : (ms : List InCopy) → AllWait ms → AllWait (ms ++ copy.Waits ∷ [])
waits_wait [] h = tt
waits_wait (copy.Chunk b ∷ ms) h = waits_wait ms h
waits_wait (copy.Waits ∷ ms) h = waits_wait ms h
waits_wait (m ∷ ms) h = absurd h

chunks_chunk : (ms : List InCopy) (bytes : List ℕ) → AllWait ms → chunks_in (ms ++ copy.Chunk bytes ∷ []) ≡ chunks_in ms ++ bytes ∷ []
chunks_chunk [] bytes h = refl
chunks_chunk (copy.Chunk b ∷ ms) bytes h = ap (λ l. b ∷ l) (chunks_chunk ms bytes h)
chunks_chunk (copy.Waits ∷ ms) bytes h = chunks_chunk ms bytes h
chunks_chunk (m ∷ ms) bytes h = absurd h

chunks_wait : (ms : List InCopy) → AllWait ms → chunks_in (ms ++ copy.Waits ∷ []) ≡ chunks_in ms
chunks_wait [] h = refl
chunks_wait (copy.Chunk b ∷ ms) h = ap (λ l. b ∷ l) (chunks_wait ms h)
chunks_wait (copy.Waits ∷ ms) h = chunks_wait ms h
chunks_wait (m ∷ ms) h = absurd h

place_leaves : (ms : List InCopy) → AllWait ms → copy_place (ms ++ copy.Leaves ∷ []) ≡ Terminated
place_leaves [] h = refl
place_leaves (copy.Chunk b ∷ ms) h = place_leaves ms h
place_leaves (copy.Waits ∷ ms) h = place_leaves ms h
place_leaves (m ∷ ms) h = absurd h

one_more : {A : Type 0} (xs : List A) (x : A) → length (xs ++ x ∷ []) ≡ length xs + 1
one_more xs x = length-append xs (x ∷ [])

effect_accepted : (tag : List ℕ) (loaded : List (List ℕ)) (ms : List InCopy) (k : InCopy) → AllWait ms → loaded ≡ chunks_in ms
    → IsEffect (Accept tag) (ms ++ k ∷ []) (effect (Accept tag) loaded k)
effect_accepted tag loaded ms (copy.Chunk bytes) w e =
    (accepted_on tag ms (copy.Chunk bytes ∷ []) w, waits_chunk ms bytes w, ap (λ l. l ++ bytes ∷ []) e ∙ sym (chunks_chunk ms bytes w), tt)
effect_accepted tag loaded ms copy.Done w e = accepted_on tag ms (copy.Done ∷ []) w ∙ some_end _ loaded (Ok tag) _ (length (ms ++ copy.Done ∷ [])) (append-nil _ ∙ sym e) (sym (one_more ms copy.Done))
effect_accepted tag loaded ms (copy.Fails reason) w e = accepted_on tag ms (copy.Fails reason ∷ []) w ∙ some_end _ loaded (Err (canceled reason)) _ _ (append-nil _ ∙ sym e) (sym (one_more ms (copy.Fails reason)))
effect_accepted tag loaded ms copy.Strays w e = accepted_on tag ms (copy.Strays ∷ []) w ∙ some_end _ loaded (Err out_of_copy) _ _ (append-nil _ ∙ sym e) (sym (one_more ms copy.Strays))
effect_accepted tag loaded ms copy.Waits w e = (accepted_on tag ms (copy.Waits ∷ []) w, waits_wait ms w, e ∙ sym (chunks_wait ms w), tt)
effect_accepted tag loaded ms copy.Leaves w e = (accepted_on tag ms (copy.Leaves ∷ []) w, place_leaves ms w)

-- the chunk that comes is the one that is refused, or more are to come
refused_chunk : (fields : List ErrorField) (n d : ℕ) (loaded : List (List ℕ)) (ms : List InCopy) (bytes : List ℕ) (t : Bool) → AllWait ms → loaded ≡ chunks_in ms
    → n ≡ length (chunks_in ms) + suc d → ((t ≡ true) × (n ≡ length (loaded ++ bytes ∷ []))) ⊎ ((t ≡ false) × (n ≢ length (loaded ++ bytes ∷ [])))
    → IsEffect (Refuse n fields) (ms ++ copy.Chunk bytes ∷ []) (if t then Decides (loaded ++ bytes ∷ []) (Err fields) else Keeps (loaded ++ bytes ∷ []))
refused_chunk fields n zero loaded ms bytes t w e sum (inl h) =
    rw h.0 (refused_on fields 0 n ms (copy.Chunk bytes ∷ []) w sum ∙ some_end _ (loaded ++ bytes ∷ []) (Err fields) _ (length (ms ++ copy.Chunk bytes ∷ [])) (ap (λ l. l ++ bytes ∷ []) (sym e)) (sym (one_more ms (copy.Chunk bytes))))
refused_chunk fields n zero loaded ms bytes t w e sum (inr h) = absurd (h.1 (let same : length loaded ≡ length (chunks_in ms) = ap length e in omega (arith, one_more loaded bytes)))
refused_chunk fields n (suc d) loaded ms bytes t w e sum (inl h) = absurd (let same : length loaded ≡ length (chunks_in ms) = ap length e in omega (arith, one_more loaded bytes, h.1))
refused_chunk fields n (suc d) loaded ms bytes t w e sum (inr h) =
    rw h.0 (
      refused_on fields (suc d) n ms (copy.Chunk bytes ∷ []) w sum,
      waits_chunk ms bytes w,
      ap (λ l. l ++ bytes ∷ []) e ∙ sym (chunks_chunk ms bytes w),
      (let same : length loaded ≡ length (chunks_in ms) = ap length e in omega (arith, one_more loaded bytes)),
    )

effect_refused : (fields : List ErrorField) (n d : ℕ) (loaded : List (List ℕ)) (ms : List InCopy) (k : InCopy) → AllWait ms → loaded ≡ chunks_in ms
    → n ≡ length (chunks_in ms) + suc d
    → IsEffect (Refuse n fields) (ms ++ k ∷ []) (effect (Refuse n fields) loaded k)
effect_refused fields n d loaded ms (copy.Chunk bytes) w e sum = refused_chunk fields n d loaded ms bytes (n == length (loaded ++ bytes ∷ [])) w e sum (eqb_tells n (length (loaded ++ bytes ∷ [])))
effect_refused fields n d loaded ms copy.Done w e sum = refused_on fields d n ms (copy.Done ∷ []) w sum ∙ some_end _ loaded (Err fields) _ (length (ms ++ copy.Done ∷ [])) (append-nil _ ∙ sym e) (sym (one_more ms copy.Done))
effect_refused fields n d loaded ms (copy.Fails reason) w e sum = refused_on fields d n ms (copy.Fails reason ∷ []) w sum ∙ some_end _ loaded (Err (canceled reason)) _ (length (ms ++ copy.Fails reason ∷ [])) (append-nil _ ∙ sym e) (sym (one_more ms (copy.Fails reason)))
effect_refused fields n d loaded ms copy.Strays w e sum = refused_on fields d n ms (copy.Strays ∷ []) w sum ∙ some_end _ loaded (Err out_of_copy) _ (length (ms ++ copy.Strays ∷ [])) (append-nil _ ∙ sym e) (sym (one_more ms copy.Strays))
effect_refused fields n d loaded ms copy.Waits w e sum =
    (refused_on fields d n ms (copy.Waits ∷ []) w sum, waits_wait ms w, e ∙ sym (chunks_wait ms w), (let same : length loaded ≡ length (chunks_in ms) = ap length e in omega arith))
effect_refused fields n d loaded ms copy.Leaves w e sum = (refused_on fields d n ms (copy.Leaves ∷ []) w sum, place_leaves ms w)

effect_is : (load : Load) (loaded : List (List ℕ)) (ms : List InCopy) (k : InCopy) → AllWait ms → loaded ≡ chunks_in ms → NotRefused load (length loaded)
    → IsEffect load (ms ++ k ∷ []) (effect load loaded k)
effect_is (Accept tag) loaded ms k w e room = effect_accepted tag loaded ms k w e
effect_is (Refuse n fields) loaded ms k w e room =
    let same : length loaded ≡ length (chunks_in ms) = ap length e in
    effect_refused fields n (n - (length loaded + 1)) loaded ms k w e (omega arith)

-- ---- what is sent and logged of a request whose copy is undecided or decided

reply_at : (a : Answer) (since : List FrontMessage) (before : List ScriptPart) (head : CopyHead) (load : Load) (later : List ScriptPart) (o : Option CopyEnd)
    → shape a.parts ≡ Copies before head load later → copy_end load since ≡ o
    → reply a since ≡ map aside_message a.before ++ (parts_sent before ++ back.CopyIn head ∷ after_copy a later o)
reply_at a since before head load later o is end = rw is (rw end refl)

pub verdict_at : (a : Answer) (since : List FrontMessage) (before : List ScriptPart) (head : CopyHead) (load : Load) (later : List ScriptPart) (o : Option CopyEnd)
    → shape a.parts ≡ Copies before head load later → copy_end load since ≡ o → verdict a since ≡ option_map (at_copy_end a before) o
verdict_at a since before head load later o is end = rw is (rw end refl)

said_undecided : (left : List Answer) (r : Request) (since : List FrontMessage) (rest : ℕ → Session) → verdict (answer_for left r) since ≡ None
    → (all_sent (from_request left r since rest) ≡ reply (answer_for left r) since) × (decided (from_request left r since rest) ≡ [])
said_undecided left r since rest is = open_exchange (exchange r (answer_for left r) since) _ (copy_place (map in_copy since)) rest is is (no_farewell_copy (map in_copy since))
  where
    open_exchange : (e : Exchange) (o : Option Verdict) (place : Place) (rest : ℕ → Session) → o ≡ None → e.verdict ≡ None → farewell place ≡ []
        → (all_sent (from_exchange e o place rest) ≡ e.reply) × (decided (from_exchange e o place rest) ≡ [])
    open_exchange e None place rest is none silent = (said_open e place silent, rw none refl)
    open_exchange e (Some v) place rest is none silent = cc

-- where all of the messages are taken, nothing comes after the exchange
said_decided : (left : List Answer) (r : Request) (since : List FrontMessage) (v : Verdict)
    → verdict (answer_for left r) since ≡ Some v → v.taken ≡ length since
    → let s = from_request left r since (λ n. session_past n (others left) [] since) in
    (all_sent s ≡ reply (answer_for left r) since) × (decided s ≡ record { request = r; outcome = v.outcome; loaded = v.loaded } ∷ []) × (s.place ≡ Between)
said_decided left r since v is all =
    let a = answer_for left r in
    let rest : session_past v.taken (others left) [] since ≡ only Between = ap (λ n. session_past n (others left) [] since) all ∙ ap (λ l. session_past (length since) (others left) [] l) (sym (append-nil since)) ∙ passes (others left) since [] in
    closed_exchange (exchange r a since) _ (copy_place (map in_copy since)) (λ n. session_past n (others left) [] since) is is rest
  where
    closed_exchange : (e : Exchange) (o : Option Verdict) (place : Place) (rest : ℕ → Session) → o ≡ Some v → e.verdict ≡ Some v → rest v.taken ≡ only Between
        → (all_sent (from_exchange e o place rest) ≡ e.reply) × (decided (from_exchange e o place rest) ≡ record { request = e.request; outcome = v.outcome; loaded = v.loaded } ∷ []) × ((from_exchange e o place rest).place ≡ Between)
    closed_exchange e None place rest is same after_it = cc
    closed_exchange e (Some w) place rest is same after_it =
        let eq : w ≡ v = same_Some w v is in
        rw (eq, after_it, same) (append-nil _ ∙ append-nil _, refl, refl)

pub copy_end_of : (load : Load) (ms : List FrontMessage) → copy_end load ms ≡ ends_of load (map in_copy ms)
copy_end_of (Accept tag) ms = refl
copy_end_of (Refuse n fields) ms = refl

ends_none : (load : Load) (ms : List InCopy) → AllWait ms → NotRefused load (length (chunks_in ms)) → ends_of load ms ≡ None
ends_none (Accept tag) ms w room = ap (accepted tag) (sym (append-nil ms)) ∙ accepted_on tag ms [] w
ends_none (Refuse n fields) ms w room =
    ap (refused fields n) (sym (append-nil ms)) ∙ refused_on fields (n - (length (chunks_in ms) + 1)) n ms [] w (omega arith)

pub joined : {A : Type 0} (x y : List A) (z : A) (w : List A) → x ++ (y ++ z ∷ w) ≡ (x ++ (y ++ z ∷ [])) ++ w
joined x y z w = ap (λ l. x ++ l) (sym (append_assoc y (z ∷ []) w)) ∙ sym (append_assoc x (y ++ z ∷ []) w)

-- what is sent and logged while the copy goes on
record Waiting (left : List Answer) (r : Request) (load : Load) (before : List ScriptPart) (head : CopyHead) (since : List FrontMessage) : Type 0 where
  said_is : all_sent (from_request left r since (λ n. session_past n (others left) [] since)) ≡ map aside_message (answer_for left r).before ++ (parts_sent before ++ back.CopyIn head ∷ [])
  decided_is : decided (from_request left r since (λ n. session_past n (others left) [] since)) ≡ []

waiting : (left : List Answer) (r : Request) (load : Load) (before : List ScriptPart) (head : CopyHead) (later : List ScriptPart) (since : List FrontMessage)
    → shape (answer_for left r).parts ≡ Copies before head load later → copy_end load since ≡ None → Waiting left r load before head since
waiting left r load before head later since is none =
    let a = answer_for left r in
    let u = said_undecided left r since (λ n. session_past n (others left) [] since) (verdict_at a since before head load later None is none) in
    record { said_is = u.0 ∙ reply_at a since before head load later None is none; decided_is = u.1 }

pub still_none : (load : Load) (loaded : List (List ℕ)) (since : List FrontMessage) (a : Answer) → Undecided a load loaded since → copy_end load since ≡ None
still_none load loaded since a u = copy_end_of load since ∙ ends_none load (map in_copy since) u.waits (rw (sym u.chunks) u.room)

goes_on_silent : (left : List Answer) (r : Request) (load : Load) (before : List ScriptPart) (head : CopyHead) (s t : List FrontMessage)
    → Waiting left r load before head s → Waiting left r load before head t
    → Beyond (from_request left r s (λ n. session_past n (others left) [] s)) (from_request left r t (λ n. session_past n (others left) [] t)) [] []
goes_on_silent left r load before head s t v w = record {
  said_is = w.said_is ∙ sym v.said_is ∙ sym (append-nil _);
  decided_is = w.decided_is ∙ sym (append-nil _ ∙ v.decided_is);
}

-- what a message adds during a copy
beyond_effect : (left : List Answer) (r : Request) (load : Load) (loaded : List (List ℕ)) (since : List FrontMessage) (m : FrontMessage) (e : CopyEffect)
    → Undecided (answer_for left r) load loaded since → IsEffect load (map in_copy (since ++ m ∷ [])) e
    → let s = since ++ m ∷ [] in let v = has_effect left r load e in
    Beyond (from_request left r since (λ n. session_past n (others left) [] since)) (from_request left r s (λ n. session_past n (others left) [] s)) v.sent v.logged
beyond_effect left r load loaded since m (Keeps more) u h =
    goes_on_silent left r load u.before u.head since (since ++ m ∷ [])
    (waiting left r load u.before u.head u.later since u.copies (still_none load loaded since (answer_for left r) u))
    (waiting left r load u.before u.head u.later (since ++ m ∷ []) u.copies (copy_end_of load (since ++ m ∷ []) ∙ h.0))
beyond_effect left r load loaded since m Abandons u h =
    goes_on_silent left r load u.before u.head since (since ++ m ∷ [])
    (waiting left r load u.before u.head u.later since u.copies (still_none load loaded since (answer_for left r) u))
    (waiting left r load u.before u.head u.later (since ++ m ∷ []) u.copies (copy_end_of load (since ++ m ∷ []) ∙ h.0))
beyond_effect left r load loaded since m (Decides taken result) u h =
    let a = answer_for left r in
    let s = since ++ m ∷ [] in
    let e : CopyEnd = record { loaded = taken; result = result; taken = length (map in_copy s) } in
    let end : copy_end load s ≡ Some e = copy_end_of load s ∙ h in
    let c = said_decided left r s (at_copy_end a u.before e) (verdict_at a s u.before u.head load u.later (Some e) u.copies end) (length-map s in_copy) in
    let w = waiting left r load u.before u.head u.later since u.copies (still_none load loaded since a u) in
    let parts = copy_parts a.parts u.before u.head load u.later u.copies in
    record {
      said_is = c.0 ∙ reply_at a s u.before u.head load u.later (Some e) u.copies end
          ∙ joined (map aside_message a.before) (parts_sent u.before) (back.CopyIn u.head) (after_end a u.later result)
          ∙ ap (λ l. l ++ after_end a u.later result) (sym w.said_is)
          ∙ ap (λ l. all_sent (from_request left r since (λ n. session_past n (others left) [] since)) ++ after_end a l result) (sym parts.1);
      decided_is = c.1 ∙ ap (λ l. l ++ record { request = r; outcome = outcome_at a u.before result; loaded = taken } ∷ []) (sym w.decided_is)
          ∙ ap (λ l. decided (from_request left r since (λ n. session_past n (others left) [] since)) ++ record { request = r; outcome = outcome_at a l result; loaded = taken } ∷ []) (sym parts.0);
    }

-- what a message does to a copy
pub copy_effect : (load : Load) (loaded : List (List ℕ)) (since : List FrontMessage) (m : FrontMessage) (a : Answer) → Undecided a load loaded since
    → IsEffect load (map in_copy (since ++ m ∷ [])) (effect load loaded (in_copy m))
copy_effect load loaded since m a u =
    rw (map-append in_copy since (m ∷ [])) (effect_is load loaded (map in_copy since) (in_copy m) u.waits u.chunks u.room)

-- what is sent and logged for a message during a copy
pub copying_grows : (answers : List Answer) (ms : List FrontMessage) (m : FrontMessage) (done : List Exchange) (left : List Answer) (r : Request) (load : Load) (loaded : List (List ℕ)) (since : List FrontMessage)
    → WithinRequest answers ms done left r since → Undecided (answer_for left r) load loaded since
    → let v = has_effect left r load (effect load loaded (in_copy m)) in Grown answers ms (ms ++ m ∷ []) v.sent v.logged
copying_grows answers ms m done left r load loaded since b u =
    let v = has_effect left r load (effect load loaded (in_copy m)) in
    grown answers ms (ms ++ m ∷ []) done (from_request left r since (λ n. session_past n (others left) [] since)) (from_request left r (since ++ m ∷ []) (λ n. session_past n (others left) [] (since ++ m ∷ []))) v.sent v.logged
    (now answers ms _ (b.continues [] ∙ ap (λ l. prepend done (from_request left r l (λ n. session_past n (others left) [] l))) (append-nil since)))
    (b.continues (m ∷ []))
    (beyond_effect left r load loaded since m (effect load loaded (in_copy m)) u (copy_effect load loaded since m (answer_for left r) u))
