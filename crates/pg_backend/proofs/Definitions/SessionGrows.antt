-- What was sent and logged grows at its end alone.
use Rattle.std.proofs.Common.{◌≡◌, ℕ, zero, suc, List, [], ◌∷◌, ◌++◌, Option, Some, None, map, refl, ap, sym, ◌∙◌, append_assoc}
use Rattle.std.specs.List.{flat_map}
use Rattle.std.proofs.lemmas.List.{append-nil}
use Rattle.pg_wire.specs.message.FrontMessage.{FrontMessage}
use Rattle.pg_wire.specs.declared.session.Request.{Request}
use Rattle.pg_wire.specs.declared.session.Request.TheVariants as request
use Rattle.pg_wire.specs.declared.session.Step.{Step}
use Rattle.pg_backend.specs.declared.script.Answer.{Answer}
use Rattle.pg_backend.specs.Lists.{IsPrefix}
use Rattle.pg_backend.specs.Fitting.{answer_for, others}
use Rattle.pg_backend.specs.declared.meaning.InCopy.{InCopy}
use Rattle.pg_backend.specs.declared.meaning.InCopy.TheVariants as copy
use Rattle.pg_backend.specs.Meaning.{in_copy, meaning}
use Rattle.pg_backend.specs.Replies.{Verdict, verdict}
use Rattle.pg_backend.specs.declared.meaning.Meaning.{Meaning}
use Rattle.pg_backend.specs.declared.meaning.Meaning.TheVariants.{Asks, Adds, Closes, Drops, Leaves, Strays}
use Rattle.pg_backend.specs.Session.{Exchange, exchange, Place, Terminated, Stray, Session, only, place_after, copy_place, from_exchange, from_request, from_message, session_past, farewell, all_sent, replies, logged, decided, log_of}
use Rattle.pg_backend.proofs.Beginnings.{begins_after, begins_nil, begins_same, begins_same_as}
use Rattle.pg_backend.proofs.Definitions.DecidedStays.{KeepsSome, verdict_more, reply_grows, reply_more}

-- no farewell where the messages end within a group or a copy, or between requests
pub no_farewell_after : (steps : List Step) → farewell (place_after steps) ≡ []
no_farewell_after [] = refl
no_farewell_after (s ∷ ss) = refl

pub no_farewell_copy : (ms : List InCopy) → farewell (copy_place ms) ≡ []
no_farewell_copy [] = refl
no_farewell_copy (copy.Leaves ∷ ms) = refl
no_farewell_copy (m ∷ ms) = no_farewell_copy ms

pub said_cons : (e : Exchange) (s : Session) → all_sent (record { exchanges = e ∷ s.exchanges; place = s.place }) ≡ e.reply ++ all_sent s
said_cons e s = append_assoc e.reply (flat_map (λ x. x.reply) s.exchanges) (farewell s.place)

pub said_open : (e : Exchange) (place : Place) → farewell place ≡ [] → all_sent (record { exchanges = e ∷ []; place = place }) ≡ e.reply
said_open e place silent = said_cons e (only place) ∙ ap (λ l. e.reply ++ ([] ++ l)) silent ∙ append-nil e.reply

begins_said : (e : Exchange) (o : Option Verdict) (place : Place) (rest : ℕ → Session) → IsPrefix e.reply (all_sent (from_exchange e o place rest))
begins_said e None place rest = (all_sent (only place), said_cons e (only place))
begins_said e (Some v) place rest = (all_sent (rest v.taken), said_cons e (rest v.taken))

begun_grows : (e f : Exchange) (o p : Option Verdict) (place place' : Place) (rest rest' : ℕ → Session)
    → farewell place ≡ []
    → KeepsSome o p
    → IsPrefix e.reply f.reply
    → ((v : Verdict) → o ≡ Some v → f.reply ≡ e.reply)
    → ((n : ℕ) → IsPrefix (all_sent (rest n)) (all_sent (rest' n)))
    → IsPrefix (all_sent (from_exchange e o place rest)) (all_sent (from_exchange f p place' rest'))
begun_grows e f None p place place' rest rest' silent keeps grows same more =
    let start = begins_said f p place' rest' in
    (grows.0 ++ start.0, start.1 ∙ ap (λ l. l ++ start.0) grows.1 ∙ append_assoc e.reply grows.0 start.0 ∙ ap (λ l. l ++ (grows.0 ++ start.0)) (sym (said_open e place silent)))
begun_grows e f (Some v) p place place' rest rest' silent keeps grows same more =
    rw (keeps v refl) (begins_same_as _ (e.reply ++ all_sent (rest v.taken)) _ (e.reply ++ all_sent (rest' v.taken))
    (said_cons e (rest v.taken))
    (said_cons f (rest' v.taken) ∙ ap (λ l. l ++ all_sent (rest' v.taken)) (same v refl))
    (begins_after e.reply _ _ (more v.taken)))

begin_grows : (answers : List Answer) (r : Request) (ms more : List FrontMessage) (rest rest' : ℕ → Session)
    → ((n : ℕ) → IsPrefix (all_sent (rest n)) (all_sent (rest' n)))
    → IsPrefix (all_sent (from_request answers r ms rest)) (all_sent (from_request answers r (ms ++ more) rest'))
begin_grows answers r ms more rest rest' grow =
    let a = answer_for answers r in
    begun_grows (exchange r a ms) (exchange r a (ms ++ more)) (verdict a ms) (verdict a (ms ++ more)) (copy_place (map in_copy ms)) (copy_place (map in_copy (ms ++ more))) rest rest'
    (no_farewell_copy (map in_copy ms)) (verdict_more a ms more) (reply_grows a ms more) (reply_more a ms more) grow

read_grows : (answers : List Answer) (k : Meaning) (steps : List Step) (ms more : List FrontMessage) (rest rest' : ℕ → List Answer → List Step → Session)
    → ((n : ℕ) (a : List Answer) (s : List Step) → IsPrefix (all_sent (rest n a s)) (all_sent (rest' n a s)))
    → IsPrefix (all_sent (from_message answers k steps ms rest)) (all_sent (from_message answers k steps (ms ++ more) rest'))
read_grows answers (Asks text) [] ms more rest rest' grow = begin_grows answers (request.Query text) ms more _ _ (λ n. grow n (others answers) [])
read_grows answers (Asks text) (s ∷ ss) ms more rest rest' grow = begins_same (all_sent (only Stray))
read_grows answers (Adds s) steps ms more rest rest' grow = grow 0 answers (steps ++ s ∷ [])
read_grows answers Closes steps ms more rest rest' grow = begin_grows answers (request.Group steps) ms more _ _ (λ n. grow n (others answers) [])
read_grows answers Drops steps ms more rest rest' grow = grow 0 answers steps
read_grows answers Leaves steps ms more rest rest' grow = begins_same (all_sent (only Terminated))
read_grows answers Strays steps ms more rest rest' grow = begins_same (all_sent (only Stray))

pub cut_grows : (n : ℕ) (answers : List Answer) (steps : List Step) (ms more : List FrontMessage) → IsPrefix (all_sent (session_past n answers steps ms)) (all_sent (session_past n answers steps (ms ++ more)))
cut_grows n answers steps [] more = rw (no_farewell_after steps) (begins_nil _)
cut_grows zero answers steps (m ∷ ms) more = read_grows answers (meaning m) steps ms more _ _ (λ n a s. cut_grows n a s ms more)
cut_grows (suc n) answers steps (m ∷ ms) more = cut_grows n answers steps ms more

-- what is sent grows at its end alone as messages come
pub replies_grow : (answers : List Answer) (ms more : List FrontMessage) → IsPrefix (replies answers ms) (replies answers (ms ++ more))
replies_grow answers ms more = cut_grows 0 answers [] ms more

-- the log likewise
begun_logs : (e f : Exchange) (o p : Option Verdict) (place place' : Place) (rest rest' : ℕ → Session)
    → e.verdict ≡ o → f.verdict ≡ p → f.request ≡ e.request
    → KeepsSome o p
    → ((n : ℕ) → IsPrefix (decided (rest n)) (decided (rest' n)))
    → IsPrefix (decided (from_exchange e o place rest)) (decided (from_exchange f p place' rest'))
begun_logs e f None p place place' rest rest' was is same keeps more = rw was (begins_nil _)
begun_logs e f (Some v) p place place' rest rest' was is same keeps more =
    let now : f.verdict ≡ Some v = is ∙ keeps v refl in
    rw (keeps v refl, was, now, same) (begins_after (logged e.request (Some v)) _ _ (more v.taken))

begin_logs : (answers : List Answer) (r : Request) (ms more : List FrontMessage) (rest rest' : ℕ → Session)
    → ((n : ℕ) → IsPrefix (decided (rest n)) (decided (rest' n)))
    → IsPrefix (decided (from_request answers r ms rest)) (decided (from_request answers r (ms ++ more) rest'))
begin_logs answers r ms more rest rest' grow =
    let a = answer_for answers r in
    begun_logs (exchange r a ms) (exchange r a (ms ++ more)) (verdict a ms) (verdict a (ms ++ more)) (copy_place (map in_copy ms)) (copy_place (map in_copy (ms ++ more))) rest rest'
    refl refl refl (verdict_more a ms more) grow

read_logs : (answers : List Answer) (k : Meaning) (steps : List Step) (ms more : List FrontMessage) (rest rest' : ℕ → List Answer → List Step → Session)
    → ((n : ℕ) (a : List Answer) (s : List Step) → IsPrefix (decided (rest n a s)) (decided (rest' n a s)))
    → IsPrefix (decided (from_message answers k steps ms rest)) (decided (from_message answers k steps (ms ++ more) rest'))
read_logs answers (Asks text) [] ms more rest rest' grow = begin_logs answers (request.Query text) ms more _ _ (λ n. grow n (others answers) [])
read_logs answers (Asks text) (s ∷ ss) ms more rest rest' grow = begins_same (decided (only Stray))
read_logs answers (Adds s) steps ms more rest rest' grow = grow 0 answers (steps ++ s ∷ [])
read_logs answers Closes steps ms more rest rest' grow = begin_logs answers (request.Group steps) ms more _ _ (λ n. grow n (others answers) [])
read_logs answers Drops steps ms more rest rest' grow = grow 0 answers steps
read_logs answers Leaves steps ms more rest rest' grow = begins_same (decided (only Terminated))
read_logs answers Strays steps ms more rest rest' grow = begins_same (decided (only Stray))

pub cut_logs : (n : ℕ) (answers : List Answer) (steps : List Step) (ms more : List FrontMessage) → IsPrefix (decided (session_past n answers steps ms)) (decided (session_past n answers steps (ms ++ more)))
cut_logs n answers steps [] more = begins_nil _
cut_logs zero answers steps (m ∷ ms) more = read_logs answers (meaning m) steps ms more _ _ (λ n a s. cut_logs n a s ms more)
cut_logs (suc n) answers steps (m ∷ ms) more = cut_logs n answers steps ms more

-- what is logged grows at its end alone as messages come
pub log_grows : (answers : List Answer) (ms more : List FrontMessage) → IsPrefix (log_of answers ms) (log_of answers (ms ++ more))
log_grows answers ms more = cut_logs 0 answers [] ms more
