-- A session message by message: what a machine has to know of what came before.
use Rattle.std.proofs.Common.{◌≡◌, ℕ, length, List, [], ◌∷◌, ◌++◌, Option, Some, map, refl, ap, sym, ◌∙◌, append_assoc}
use Rattle.pg_wire.specs.message.FrontMessage.{FrontMessage}
use Rattle.pg_wire.specs.declared.session.Request.{Request}
use Rattle.pg_wire.specs.declared.session.Request.TheVariants as request
use Rattle.pg_wire.specs.declared.session.Step.{Step}
use Rattle.pg_backend.specs.declared.script.Answer.{Answer}
use Rattle.pg_backend.specs.Fitting.{answer_for, others}
use Rattle.pg_backend.specs.Replies.{Verdict, verdict}
use Rattle.pg_backend.specs.Meaning.{in_copy, meaning}
use Rattle.pg_backend.specs.declared.meaning.Meaning.TheVariants.{Asks, Adds, Closes, Drops}
use Rattle.pg_backend.specs.Session.{Exchange, exchange, Place, Session, copy_place, from_exchange, from_request, from_message, session_past, session}
use Rattle.pg_backend.specs.Awaited.{prepend, BetweenRequests, WithinRequest}
use Rattle.pg_backend.proofs.Definitions.DecidedStays.{verdict_more, reply_more}
use Rattle.pg_backend.proofs.Turns.TurnByTurn.{same_exchange}

pub starts : (answers : List Answer) → BetweenRequests answers [] [] answers []
starts answers = record { continues = λ more. refl }

-- one message more
step_on : (answers : List Answer) (ms : List FrontMessage) (m : FrontMessage) (done : List Exchange) (left : List Answer) (steps : List Step)
    → BetweenRequests answers ms done left steps → (more : List FrontMessage)
    → session answers ((ms ++ m ∷ []) ++ more) ≡ prepend done (from_message left (meaning m) steps more (λ n a s. session_past n a s more))
step_on answers ms m done left steps r more = ap (session answers) (append_assoc ms (m ∷ []) more) ∙ r.continues (m ∷ more)

pub drops : (answers : List Answer) (ms : List FrontMessage) (m : FrontMessage) (done : List Exchange) (left : List Answer) (steps : List Step)
    → meaning m ≡ Drops → BetweenRequests answers ms done left steps → BetweenRequests answers (ms ++ m ∷ []) done left steps
drops answers ms m done left steps is r = record { continues = λ more. step_on answers ms m done left steps r more ∙ rw is refl }

pub adds : (answers : List Answer) (ms : List FrontMessage) (m : FrontMessage) (s : Step) (done : List Exchange) (left : List Answer) (steps : List Step)
    → meaning m ≡ Adds s → BetweenRequests answers ms done left steps → BetweenRequests answers (ms ++ m ∷ []) done left (steps ++ s ∷ [])
adds answers ms m s done left steps is r = record { continues = λ more. step_on answers ms m done left steps r more ∙ rw is refl }

-- a request begins, and nothing has come after it
pub asks : (answers : List Answer) (ms : List FrontMessage) (m : FrontMessage) (text : List ℕ) (done : List Exchange) (left : List Answer)
    → meaning m ≡ Asks text → BetweenRequests answers ms done left [] → WithinRequest answers (ms ++ m ∷ []) done left (request.Query text) []
asks answers ms m text done left is r = record { continues = λ more. step_on answers ms m done left [] r more ∙ rw is refl }

pub closes : (answers : List Answer) (ms : List FrontMessage) (m : FrontMessage) (done : List Exchange) (left : List Answer) (steps : List Step)
    → meaning m ≡ Closes → BetweenRequests answers ms done left steps → WithinRequest answers (ms ++ m ∷ []) done left (request.Group steps) []
closes answers ms m done left steps is r = record { continues = λ more. step_on answers ms m done left steps r more ∙ rw is refl }

-- a message during a copy
pub waits : (answers : List Answer) (ms : List FrontMessage) (m : FrontMessage) (done : List Exchange) (left : List Answer) (r : Request) (since : List FrontMessage)
    → WithinRequest answers ms done left r since → WithinRequest answers (ms ++ m ∷ []) done left r (since ++ m ∷ [])
waits answers ms m done left r since c = record {
  continues = λ more.
      ap (session answers) (append_assoc ms (m ∷ []) more) ∙ c.continues (m ∷ more)
      ∙ ap (λ l. prepend done (from_request left r l (λ n. session_past n (others left) [] l))) (sym (append_assoc since (m ∷ []) more));
}

-- what a copy has taken is passed over
pub passes : (answers : List Answer) (xs ms : List FrontMessage) → session_past (length xs) answers [] (xs ++ ms) ≡ session_past 0 answers [] ms
passes answers [] ms = refl
passes answers (x ∷ xs) ms = passes answers xs ms

begun_some : (done : List Exchange) (e f : Exchange) (o : Option Verdict) (v : Verdict) (place : Place) (rest : ℕ → Session) (s : Session)
    → o ≡ Some v → e ≡ f → rest v.taken ≡ s
    → prepend done (from_exchange e o place rest) ≡ prepend (done ++ f ∷ []) s
begun_some done e f o v place rest s is same then =
    rw (is, same, then) (ap (λ l. record { exchanges = l; place = s.place }) (sym (append_assoc done (f ∷ []) s.exchanges)))

-- a request that is decided by the messages since: its exchange is done, and the next one's answers are left
pub decides : (answers : List Answer) (ms : List FrontMessage) (done : List Exchange) (left : List Answer) (r : Request) (since : List FrontMessage) (v : Verdict)
    → verdict (answer_for left r) since ≡ Some v → v.taken ≡ length since
    → WithinRequest answers ms done left r since
    → BetweenRequests answers ms (done ++ exchange r (answer_for left r) since ∷ []) (others left) []
decides answers ms done left r since v is all c = record {
  continues = λ more.
      let a = answer_for left r in
      c.continues more ∙ begun_some done (exchange r a (since ++ more)) (exchange r a since) (verdict a (since ++ more)) v
      (copy_place (map in_copy (since ++ more))) (λ n. session_past n (others left) [] (since ++ more)) (session_past 0 (others left) [] more)
      (verdict_more a since more v is)
      (same_exchange r _ _ _ _ (verdict_more a since more v is ∙ sym is) (reply_more a since more v is))
      (ap (λ n. session_past n (others left) [] (since ++ more)) all ∙ passes (others left) since more);
}
