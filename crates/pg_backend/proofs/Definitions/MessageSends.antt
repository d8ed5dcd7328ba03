-- What is sent and logged for one message more.
use Rattle.std.proofs.Common.{◌≡◌, List, [], ◌∷◌, ◌++◌, Option, Some, None, refl, ap, sym, ◌∙◌, append_assoc}
use Rattle.std.specs.List.{flat_map}
use Rattle.std.proofs.lemmas.Grind.{flat_map-append}
use Rattle.std.proofs.lemmas.List.{append-nil}
use Rattle.pg_wire.specs.message.BackMessage.{BackMessage}
use Rattle.pg_wire.specs.message.BackMessage.TheVariants as back
use Rattle.pg_wire.specs.message.FrontMessage.{FrontMessage}
use Rattle.pg_wire.specs.declared.session.Request.{Request}
use Rattle.pg_wire.specs.declared.session.Request.TheVariants as request
use Rattle.pg_wire.specs.declared.session.Step.{Step}
use Rattle.pg_backend.specs.declared.meaning.Meaning.{Meaning}
use Rattle.pg_backend.specs.declared.meaning.Meaning.TheVariants.{Asks, Adds, Closes, Drops, Leaves, Strays}
use Rattle.pg_backend.specs.declared.script.Answer.{Answer}
use Rattle.pg_backend.specs.declared.script.Logged.{Logged}
use Rattle.pg_backend.specs.Fitting.{answer_for}
use Rattle.pg_backend.specs.Replies.{Verdict, verdict}
use Rattle.pg_backend.specs.Session.{Exchange, exchange, Between, Copying, Session, only, place_after, from_exchange, from_message, session_past, session, farewell, all_sent, replies, decided, log_of}
use Rattle.pg_backend.specs.OwnError.{fatal_unexpected}
use Rattle.pg_backend.specs.Meaning.{meaning}
use Rattle.pg_backend.specs.Awaited.{prepend, BetweenRequests}
use Rattle.pg_backend.specs.Private.Moves.{opened, between}
use Rattle.pg_backend.proofs.Definitions.SessionGrows.{no_farewell_after}

said_prepend : (done : List Exchange) (s : Session) → all_sent (prepend done s) ≡ flat_map (λ e. e.reply) done ++ all_sent s
said_prepend done s = rw (flat_map-append (λ (e : Exchange). e.reply) done s.exchanges)
    (append_assoc (flat_map (λ (e : Exchange). e.reply) done) (flat_map (λ (e : Exchange). e.reply) s.exchanges) (farewell s.place))

-- The second session has this sent and logged beyond the first.
pub record Beyond (s t : Session) (sent : List BackMessage) (log : List Logged) : Type 0 where
  pub said_is : all_sent t ≡ all_sent s ++ sent
  pub decided_is : decided t ≡ decided s ++ log

-- What was sent and logged of messages, and of more of them.
pub record Grown (answers : List Answer) (ms more : List FrontMessage) (sent : List BackMessage) (log : List Logged) : Type 0 where
  pub replies_are : replies answers more ≡ replies answers ms ++ sent
  pub log_is : log_of answers more ≡ log_of answers ms ++ log

pub grown : (answers : List Answer) (ms more : List FrontMessage) (done : List Exchange) (s t : Session) (sent : List BackMessage) (log : List Logged)
    → session answers ms ≡ prepend done s → session answers more ≡ prepend done t → Beyond s t sent log → Grown answers ms more sent log
grown answers ms more done s t sent log was is b = record {
  replies_are = ap all_sent is ∙ said_prepend done t ∙ ap (λ l. flat_map (λ e. e.reply) done ++ l) b.said_is
      ∙ sym (append_assoc (flat_map (λ e. e.reply) done) (all_sent s) sent) ∙ ap (λ l. l ++ sent) (sym (said_prepend done s) ∙ sym (ap all_sent was));
  log_is = ap decided is ∙ decided_prepend done t ∙ ap (λ l. decided (record { exchanges = done; place = Between }) ++ l) b.decided_is
      ∙ sym (append_assoc (decided (record { exchanges = done; place = Between })) (decided s) log) ∙ ap (λ l. l ++ log) (sym (decided_prepend done s) ∙ sym (ap decided was));
}
  where
    decided_prepend : (done : List Exchange) (s : Session) → decided (prepend done s) ≡ decided (record { exchanges = done; place = Between }) ++ decided s
    decided_prepend done s = flat_map-append _ done s.exchanges

-- what the messages come to, where nothing comes after them
pub now : (answers : List Answer) (ms : List FrontMessage) (s : Session) → session answers (ms ++ []) ≡ s → session answers ms ≡ s
now answers ms s is = ap (session answers) (sym (append-nil ms)) ∙ is

-- ---- where a request is awaited

opened_said : (left : List Answer) (r : Request) (a : Answer) (o : Option Verdict) → all_sent (from_exchange (exchange r a []) o Copying (λ n. only Between)) ≡ (opened left r a o).sent
opened_said left r a None = simp append-nil
opened_said left r a (Some v) = simp append-nil

opened_logged : (left : List Answer) (r : Request) (a : Answer) (o : Option Verdict) → verdict a [] ≡ o → decided (from_exchange (exchange r a []) o Copying (λ n. only Between)) ≡ (opened left r a o).logged
opened_logged left r a None is = rw is refl
opened_logged left r a (Some v) is = rw is refl

opened_beyond : (left : List Answer) (steps : List Step) (r : Request) (a : Answer) (o : Option Verdict) → verdict a [] ≡ o
    → Beyond (only (place_after steps)) (from_exchange (exchange r a []) o Copying (λ n. only Between)) (opened left r a o).sent (opened left r a o).logged
opened_beyond left steps r a o is = record {
  said_is = opened_said left r a o ∙ ap (λ l. l ++ (opened left r a o).sent) (sym (no_farewell_after steps));
  decided_is = opened_logged left r a o is;
}

silent_beyond : (steps more : List Step) → Beyond (only (place_after steps)) (only (place_after more)) [] []
silent_beyond steps more = record { said_is = no_farewell_after more ∙ sym (append-nil _ ∙ no_farewell_after steps); decided_is = refl }

between_beyond : (left : List Answer) (k : Meaning) (steps : List Step) → let v = between left steps k in
    Beyond (only (place_after steps)) (from_message left k steps [] (λ n a s. session_past n a s [])) v.sent v.logged
between_beyond left (Asks text) [] = opened_beyond left [] (request.Query text) (answer_for left (request.Query text)) _ refl
between_beyond left (Asks text) (s ∷ ss) = record { said_is = refl; decided_is = refl }
between_beyond left (Adds s) steps = silent_beyond steps (steps ++ s ∷ [])
between_beyond left Closes steps = opened_beyond left steps (request.Group steps) (answer_for left (request.Group steps)) _ refl
between_beyond left Drops steps = silent_beyond steps steps
between_beyond left Leaves steps = record { said_is = sym (append-nil _ ∙ no_farewell_after steps); decided_is = refl }
between_beyond left Strays steps = record { said_is = ap (λ l. l ++ back.ErrorResponse fatal_unexpected ∷ []) (sym (no_farewell_after steps)); decided_is = refl }

-- what a message adds where a request is awaited
pub reading_grows : (answers : List Answer) (ms : List FrontMessage) (m : FrontMessage) (done : List Exchange) (left : List Answer) (steps : List Step)
    → BetweenRequests answers ms done left steps → let v = between left steps (meaning m) in Grown answers ms (ms ++ m ∷ []) v.sent v.logged
reading_grows answers ms m done left steps r =
    let v = between left steps (meaning m) in
    grown answers ms (ms ++ m ∷ []) done (only (place_after steps)) (from_message left (meaning m) steps [] (λ n a s. session_past n a s [])) v.sent v.logged
    (now answers ms _ (r.continues [])) (r.continues (m ∷ [])) (between_beyond left (meaning m) steps)
