-- A Terminate at the end adds nothing to what is sent and logged.
use Rattle.std.proofs.Common.{◌≡◌, ℕ, zero, suc, List, [], ◌∷◌, ◌++◌, Option, Some, None, option_map, map, refl, ap, sym, ◌∙◌}
use Rattle.std.proofs.lemmas.List.{map-append}
use Rattle.pg_wire.specs.message.BackMessage.{BackMessage}
use Rattle.pg_wire.specs.message.BackMessage.TheVariants as back
use Rattle.pg_wire.specs.value.ErrorField.{ErrorField}
use Rattle.pg_wire.specs.message.FrontMessage.{FrontMessage}
use Rattle.pg_wire.specs.message.FrontMessage.TheVariants as front
use Rattle.pg_wire.specs.declared.session.Request.{Request}
use Rattle.pg_wire.specs.declared.session.Request.TheVariants as request
use Rattle.pg_wire.specs.declared.session.Step.{Step}
use Rattle.pg_backend.specs.declared.script.Answer.{Answer}
use Rattle.pg_backend.specs.declared.script.Load.{Load}
use Rattle.pg_backend.specs.declared.script.Load.TheVariants.{Accept, Refuse}
use Rattle.pg_backend.specs.Fitting.{answer_for, others}
use Rattle.pg_backend.specs.declared.meaning.InCopy.{InCopy}
use Rattle.pg_backend.specs.declared.meaning.InCopy.TheVariants as copy
use Rattle.pg_backend.specs.Copies.{with_chunk, with_wait, accepted, refused, copy_end}
use Rattle.pg_backend.specs.Meaning.{in_copy, meaning}
use Rattle.pg_backend.specs.Replies.{Shape, Whole, Copies, shape, Verdict, verdict, verdict_of, at_copy_end, aside_message, parts_sent, after_copy, reply, reply_of}
use Rattle.pg_backend.specs.declared.meaning.Meaning.{Meaning}
use Rattle.pg_backend.specs.declared.meaning.Meaning.TheVariants.{Asks, Adds, Closes, Drops, Leaves, Strays}
use Rattle.pg_backend.specs.Session.{Exchange, exchange, Place, Between, Session, copy_place, from_exchange, from_request, from_message, session_past, farewell, replies, decided, log_of}
use Rattle.pg_backend.proofs.Definitions.SessionGrows.{no_farewell_after, no_farewell_copy}

accepted_leaves : (tag : List ℕ) (ms : List InCopy) → accepted tag (ms ++ copy.Leaves ∷ []) ≡ accepted tag ms
accepted_leaves tag [] = refl
accepted_leaves tag (copy.Chunk bytes ∷ ms) = ap (option_map (with_chunk bytes)) (accepted_leaves tag ms)
accepted_leaves tag (copy.Done ∷ ms) = refl
accepted_leaves tag (copy.Fails reason ∷ ms) = refl
accepted_leaves tag (copy.Strays ∷ ms) = refl
accepted_leaves tag (copy.Waits ∷ ms) = ap (option_map with_wait) (accepted_leaves tag ms)
accepted_leaves tag (copy.Leaves ∷ ms) = refl

refused_leaves : (fields : List ErrorField) (n : ℕ) (ms : List InCopy) → refused fields n (ms ++ copy.Leaves ∷ []) ≡ refused fields n ms
refused_leaves fields zero ms = refl
refused_leaves fields (suc n) [] = refl
refused_leaves fields (suc n) (copy.Chunk bytes ∷ ms) = ap (option_map (with_chunk bytes)) (refused_leaves fields n ms)
refused_leaves fields (suc n) (copy.Done ∷ ms) = refl
refused_leaves fields (suc n) (copy.Fails reason ∷ ms) = refl
refused_leaves fields (suc n) (copy.Strays ∷ ms) = refl
refused_leaves fields (suc n) (copy.Waits ∷ ms) = ap (option_map with_wait) (refused_leaves fields (suc n) ms)
refused_leaves fields (suc n) (copy.Leaves ∷ ms) = refl

abbrev leave : List FrontMessage
leave = front.Terminate ∷ []

copy_end_leaves : (load : Load) (ms : List FrontMessage) → copy_end load (ms ++ leave) ≡ copy_end load ms
copy_end_leaves (Accept tag) ms = rw (map-append in_copy ms leave) (accepted_leaves tag (map in_copy ms))
copy_end_leaves (Refuse n fields) ms = rw (map-append in_copy ms leave) (refused_leaves fields n (map in_copy ms))

verdict_of_leaves : (a : Answer) (s : Shape) (ms : List FrontMessage) → verdict_of a s (ms ++ leave) ≡ verdict_of a s ms
verdict_of_leaves a Whole ms = refl
verdict_of_leaves a (Copies before head load after) ms = ap (option_map (at_copy_end a before)) (copy_end_leaves load ms)

reply_of_leaves : (a : Answer) (s : Shape) (ms : List FrontMessage) → reply_of a s (ms ++ leave) ≡ reply_of a s ms
reply_of_leaves a Whole ms = refl
reply_of_leaves a (Copies before head load after) ms =
    ap (λ o. parts_sent before ++ back.CopyIn head ∷ after_copy a after o) (copy_end_leaves load ms)

exchange_leaves : (r : Request) (a : Answer) (ms : List FrontMessage) → exchange r a (ms ++ leave) ≡ exchange r a ms
exchange_leaves r a ms =
    let v : verdict a (ms ++ leave) ≡ verdict a ms = verdict_of_leaves a (shape a.parts) ms in
    let l : reply a (ms ++ leave) ≡ reply a ms = ap (λ l. map aside_message a.before ++ l) (reply_of_leaves a (shape a.parts) ms) in
    built r (verdict a (ms ++ leave)) (verdict a ms) (reply a (ms ++ leave)) (reply a ms) v l
  where
    built : (r : Request) (o p : Option Verdict) (l k : List BackMessage) → o ≡ p → l ≡ k
        → ◌≡◌ {A = Exchange} (record { request = r; verdict = o; reply = l }) (record { request = r; verdict = p; reply = k })
    built r o p l k e f = rw (e, f) refl

-- the same exchanges, and no farewell in either
pub record LeavesSame (s t : Session) : Type 0 where
  pub exchanges : s.exchanges ≡ t.exchanges
  pub silent : farewell s.place ≡ farewell t.place

begun_leaves : (e f : Exchange) (o p : Option Verdict) (place place' : Place) (rest rest' : ℕ → Session)
    → e ≡ f → o ≡ p → farewell place ≡ farewell place' → ((n : ℕ) → LeavesSame (rest n) (rest' n))
    → LeavesSame (from_exchange e o place rest) (from_exchange f p place' rest')
begun_leaves e f None p place place' rest rest' h k silent more = rw (← k, h) (record { exchanges = refl; silent = silent })
begun_leaves e f (Some v) p place place' rest rest' h k silent more =
    let m = more v.taken in rw (← k, h) (record { exchanges = ap (λ l. f ∷ l) m.exchanges; silent = m.silent })

begin_leaves : (answers : List Answer) (r : Request) (ms : List FrontMessage) (rest rest' : ℕ → Session)
    → ((n : ℕ) → LeavesSame (rest n) (rest' n)) → LeavesSame (from_request answers r (ms ++ leave) rest) (from_request answers r ms rest')
begin_leaves answers r ms rest rest' more =
    let a = answer_for answers r in
    begun_leaves (exchange r a (ms ++ leave)) (exchange r a ms) (verdict a (ms ++ leave)) (verdict a ms) (copy_place (map in_copy (ms ++ leave))) (copy_place (map in_copy ms)) rest rest'
    (exchange_leaves r a ms) (verdict_of_leaves a (shape a.parts) ms)
    (no_farewell_copy (map in_copy (ms ++ leave)) ∙ sym (no_farewell_copy (map in_copy ms))) more

read_leaves : (answers : List Answer) (k : Meaning) (steps : List Step) (ms : List FrontMessage) (rest rest' : ℕ → List Answer → List Step → Session)
    → ((n : ℕ) (a : List Answer) (s : List Step) → LeavesSame (rest n a s) (rest' n a s))
    → LeavesSame (from_message answers k steps (ms ++ leave) rest) (from_message answers k steps ms rest')
read_leaves answers (Asks text) [] ms rest rest' more = begin_leaves answers (request.Query text) ms _ _ (λ n. more n (others answers) [])
read_leaves answers (Asks text) (s ∷ ss) ms rest rest' more = record { exchanges = refl; silent = refl }
read_leaves answers (Adds s) steps ms rest rest' more = more 0 answers (steps ++ s ∷ [])
read_leaves answers Closes steps ms rest rest' more = begin_leaves answers (request.Group steps) ms _ _ (λ n. more n (others answers) [])
read_leaves answers Drops steps ms rest rest' more = more 0 answers steps
read_leaves answers Leaves steps ms rest rest' more = record { exchanges = refl; silent = refl }
read_leaves answers Strays steps ms rest rest' more = record { exchanges = refl; silent = refl }

cut_leaves : (n : ℕ) (answers : List Answer) (steps : List Step) (ms : List FrontMessage) → LeavesSame (session_past n answers steps (ms ++ leave)) (session_past n answers steps ms)
cut_leaves zero answers steps [] = record { exchanges = refl; silent = sym (no_farewell_after steps) }
cut_leaves (suc n) answers steps [] = record { exchanges = refl; silent = refl }
cut_leaves zero answers steps (m ∷ ms) = read_leaves answers (meaning m) steps ms _ _ (λ n a s. cut_leaves n a s ms)
cut_leaves (suc n) answers steps (m ∷ ms) = cut_leaves n answers steps ms

pub replies_leave : (answers : List Answer) (ms : List FrontMessage) → replies answers (ms ++ leave) ≡ replies answers ms
replies_leave answers ms = let s = cut_leaves 0 answers [] ms in rw (s.exchanges, s.silent) refl

pub log_leaves : (answers : List Answer) (ms : List FrontMessage) → log_of answers (ms ++ leave) ≡ log_of answers ms
log_leaves answers ms = let s = cut_leaves 0 answers [] ms in ap (λ es. decided (record { exchanges = es; place = Between })) s.exchanges
