-- One message more: what is sent and logged for it, and where the session stands after it.
use Rattle.std.proofs.Common.{◌≡◌, ℕ, zero, suc, length, List, [], ◌∷◌, ◌++◌, Option, Some, None, map, refl, ap, sym, ◌∙◌, arith}
use Rattle.std.proofs.lemmas.List.{append-nil, length-map}
use Rattle.std.proofs.lemmas.Option.{same_Some}
use Rattle.pg_wire.specs.message.FrontMessage.{FrontMessage}
use Rattle.pg_wire.specs.message.FrontMessage.TheVariants as front
use Rattle.pg_wire.specs.declared.session.Request.{Request}
use Rattle.pg_wire.specs.declared.session.Request.TheVariants as request
use Rattle.pg_wire.specs.declared.session.Step.{Step}
use Rattle.pg_wire.specs.Frontend.{frontend}
use Rattle.pg_backend.specs.declared.meaning.InCopy.{InCopy}
use Rattle.pg_backend.specs.declared.meaning.InCopy.TheVariants as copy
use Rattle.pg_backend.specs.declared.meaning.Meaning.{Meaning}
use Rattle.pg_backend.specs.declared.meaning.Meaning.TheVariants.{Asks, Adds, Closes, Drops, Leaves, Strays}
use Rattle.pg_backend.specs.declared.script.Answer.{Answer}
use Rattle.pg_backend.specs.declared.script.Load.{Load}
use Rattle.pg_backend.specs.declared.script.Load.TheVariants.{Accept, Refuse}
use Rattle.pg_backend.specs.declared.script.Script.{Script}
use Rattle.pg_backend.specs.declared.stage.Awaits.{Awaits}
use Rattle.pg_backend.specs.declared.stage.Awaits.TheVariants as awaits
use Rattle.pg_backend.specs.declared.stage.Next.{Next}
use Rattle.pg_backend.specs.declared.stage.Next.TheVariants as next
use Rattle.pg_backend.specs.Fitting.{answer_for, others}
use Rattle.pg_backend.specs.Meaning.{in_copy, meaning}
use Rattle.pg_backend.specs.Replies.{Shape, Whole, Copies, shape, Verdict, verdict, verdict_of, at_copy_end}
use Rattle.pg_backend.specs.Session.{Exchange, exchange, Place, Copying, Terminated, Stray, Session, copy_place, from_exchange, from_request, from_message, session_past, session}
use Rattle.pg_backend.specs.Awaited.{BetweenRequests, WithinRequest, AllWait, Undecided, SessionAwaits}
use Rattle.pg_backend.specs.Input.{At}
use Rattle.pg_backend.specs.Stage.{awaited_end}
use Rattle.pg_backend.specs.Private.Moves.{Move, move, between, opened, load_of, CopyEffect, Decides, Keeps, Abandons, effect, has_effect}
use Rattle.pg_backend.proofs.Definitions.MessageSends.{Grown, now, reading_grows}
use Rattle.pg_backend.proofs.Definitions.CopyMessageSends.{IsEffect, copy_effect, copy_end_of, copying_grows, verdict_at, still_none}
use Rattle.pg_backend.proofs.Definitions.ReadOn.{asks, adds, drops, closes, waits, decides}

-- What stands after the messages, of which the last has this tag.
abbrev pub NextStands : List Answer → List FrontMessage → ℕ → List Answer → Next → Type 0
NextStands answers ms tag left (next.Goes awaits) = SessionAwaits answers ms left awaits
NextStands answers ms tag left next.Ends = (session answers ms).place ≡ Terminated
NextStands answers ms tag left (next.Strays t) = ((session answers ms).place ≡ Stray) × (t ≡ tag)

-- ---- a request

taken_none : (a : Answer) (s : Shape) (v : Verdict) → verdict_of a s [] ≡ Some v → v.taken ≡ 0
taken_none a Whole v is = ap (λ (w : Verdict). w.taken) (sym (same_Some _ v is))
taken_none a (Copies before head (Accept tag) later) v is = cc
taken_none a (Copies before head (Refuse zero fields) later) v is = ap (λ (w : Verdict). w.taken) (sym (same_Some _ v is))
taken_none a (Copies before head (Refuse (suc n) fields) later) v is = cc

undecided : (a : Answer) (s : Shape) → shape a.parts ≡ s → verdict_of a s [] ≡ None → Undecided a (load_of s) [] []
undecided a Whole is none = cc
undecided a (Copies before head (Accept tag) later) is none = record { before = before; head = head; later = later; copies = is; waits = tt; chunks = refl; room = tt }
undecided a (Copies before head (Refuse zero fields) later) is none = cc
undecided a (Copies before head (Refuse (suc n) fields) later) is none = record { before = before; head = head; later = later; copies = is; waits = tt; chunks = refl; room = omega arith }

-- after a request that nothing has followed
opened_stands : (answers : List Answer) (ms : List FrontMessage) (tag : ℕ) (done : List Exchange) (left : List Answer) (r : Request) (o : Option Verdict)
    → verdict (answer_for left r) [] ≡ o → WithinRequest answers ms done left r [] → let v = opened left r (answer_for left r) o in NextStands answers ms tag v.left v.next
opened_stands answers ms tag done left r None is b = let a = answer_for left r in (done, [], b, undecided a (shape a.parts) refl is)
opened_stands answers ms tag done left r (Some v) is b =
    let a = answer_for left r in
    (done ++ exchange r a [] ∷ [], decides answers ms done left r [] v is (taken_none a (shape a.parts) v is) b)

asks_tag : (m : FrontMessage) (text : List ℕ) → meaning m ≡ Asks text → 81 ≡ frontend.tag m
asks_tag (front.Query text) t is = refl
asks_tag (front.CopyData bytes) t is = cc
asks_tag (front.CopyFail reason) t is = cc
asks_tag m t is = cc

strays_tag : (m : FrontMessage) → meaning m ≡ Strays → 112 ≡ frontend.tag m
strays_tag (front.Password password) is = refl
strays_tag m is = cc

-- where a message leads that closes the session
reading_place : (answers : List Answer) (ms : List FrontMessage) (m : FrontMessage) (done : List Exchange) (left : List Answer) (steps : List Step) (k : Meaning) → meaning m ≡ k
    → BetweenRequests answers ms done left steps → (session answers (ms ++ m ∷ [])).place ≡ (from_message left k steps [] (λ n a s. session_past n a s [])).place
reading_place answers ms m done left steps k is r = ap (λ (s : Session). s.place) (r.continues (m ∷ [])) ∙ ap (λ x. (from_message left x steps [] (λ n a s. session_past n a s [])).place) is

between_stands : (answers : List Answer) (ms : List FrontMessage) (m : FrontMessage) (done : List Exchange) (left : List Answer) (steps : List Step) (k : Meaning) → meaning m ≡ k
    → BetweenRequests answers ms done left steps → let v = between left steps k in NextStands answers (ms ++ m ∷ []) (frontend.tag m) v.left v.next
between_stands answers ms m done left [] (Asks text) is r = opened_stands answers (ms ++ m ∷ []) (frontend.tag m) done left (request.Query text) _ refl (asks answers ms m text done left is r)
between_stands answers ms m done left (s ∷ ss) (Asks text) is r = (reading_place answers ms m done left (s ∷ ss) (Asks text) is r, asks_tag m text is)
between_stands answers ms m done left steps (Adds s) is r = (done, adds answers ms m s done left steps is r)
between_stands answers ms m done left steps Closes is r = opened_stands answers (ms ++ m ∷ []) (frontend.tag m) done left (request.Group steps) _ refl (closes answers ms m done left steps is r)
between_stands answers ms m done left steps Drops is r = (done, drops answers ms m done left steps is r)
between_stands answers ms m done left steps Leaves is r = reading_place answers ms m done left steps Leaves is r
between_stands answers ms m done left steps Strays is r = (reading_place answers ms m done left steps Strays is r, strays_tag m is)

-- ---- the data of a copy

-- a copy that isn't decided
undecided_place : (left : List Answer) (r : Request) (s : List FrontMessage) (rest : ℕ → Session) → verdict (answer_for left r) s ≡ None → (from_request left r s rest).place ≡ copy_place (map in_copy s)
undecided_place left r s rest is = open_place (exchange r (answer_for left r) s) _ (copy_place (map in_copy s)) rest is
  where
    open_place : (e : Exchange) (o : Option Verdict) (place : Place) (rest : ℕ → Session) → o ≡ None → (from_exchange e o place rest).place ≡ place
    open_place e None place rest is = refl
    open_place e (Some v) place rest is = cc

effect_stands : (answers : List Answer) (ms : List FrontMessage) (m : FrontMessage) (done : List Exchange) (left : List Answer) (r : Request) (load : Load) (loaded : List (List ℕ)) (since : List FrontMessage) (e : CopyEffect)
    → WithinRequest answers ms done left r since → Undecided (answer_for left r) load loaded since → IsEffect load (map in_copy (since ++ m ∷ [])) e
    → let v = has_effect left r load e in NextStands answers (ms ++ m ∷ []) (frontend.tag m) v.left v.next
effect_stands answers ms m done left r load loaded since (Keeps more) b u h = (
  done,
  since ++ m ∷ [],
  waits answers ms m done left r since b,
  record { before = u.before; head = u.head; later = u.later; copies = u.copies; waits = h.1; chunks = h.2; room = h.3 },
)
effect_stands answers ms m done left r load loaded since (Decides more result) b u h =
    let a = answer_for left r in
    let s = since ++ m ∷ [] in
    let v = at_copy_end a u.before (record { loaded = more; result = result; taken = length (map in_copy s) }) in (
      done ++ exchange r a s ∷ [],
      decides answers (ms ++ m ∷ []) done left r s v (verdict_at a s u.before u.head load u.later _ u.copies (copy_end_of load s ∙ h)) (length-map s in_copy) (waits answers ms m done left r since b),
    )
effect_stands answers ms m done left r load loaded since Abandons b u h =
    let s = since ++ m ∷ [] in
    ap (λ (x : Session). x.place) (b.continues (m ∷ []))
    ∙ undecided_place left r s (λ n. session_past n (others left) [] s) (verdict_at (answer_for left r) s u.before u.head load u.later None u.copies (copy_end_of load s ∙ h.0))
    ∙ h.1

-- ---- both

-- What is sent and logged for the message, and where it leads.
pub record Moved (answers : List Answer) (ms : List FrontMessage) (m : FrontMessage) (v : Move) : Type 0 where
  pub grows : Grown answers ms (ms ++ m ∷ []) v.sent v.logged
  pub stands : NextStands answers (ms ++ m ∷ []) (frontend.tag m) v.left v.next

pub moved : (s : Script) (answers : List Answer) (ms : List FrontMessage) (m : FrontMessage) (left : List Answer) (a : Awaits) → SessionAwaits answers ms left a → Moved answers ms m (move s left a m)
moved s answers ms m left (awaits.Password expected) h = absurd h
moved s answers ms m left (awaits.Request steps) h = record {
  grows = reading_grows answers ms m h.0 left steps h.1;
  stands = between_stands answers ms m h.0 left steps (meaning m) refl h.1;
}
moved s answers ms m left (awaits.Data c) h = record {
  grows = copying_grows answers ms m h.0 left c.request c.load c.loaded h.1 h.2 h.3;
  stands = effect_stands answers ms m h.0 left c.request c.load c.loaded h.1 (effect c.load c.loaded (in_copy m)) h.2 h.3 (copy_effect c.load c.loaded h.1 m (answer_for left c.request) h.3);
}

-- where the messages end
pub stands_at : (answers : List Answer) (ms : List FrontMessage) (left : List Answer) (a : Awaits) → SessionAwaits answers ms left a → At (session answers ms).place ≡ awaited_end a
stands_at answers ms left (awaits.Password expected) h = absurd h
stands_at answers ms left (awaits.Request steps) h = ap (λ (s : Session). At s.place) (now answers ms _ (h.1.continues []))
stands_at answers ms left (awaits.Data c) h =
    let a = answer_for left c.request in
    let since = h.1 in
    let u = h.3 in
    ap At (ap (λ (s : Session). s.place) (now answers ms _ (h.2.continues []))
    ∙ ap (λ l. (from_request left c.request l (λ n. session_past n (others left) [] l)).place) (append-nil since)
    ∙ undecided_place left c.request since (λ n. session_past n (others left) [] since) (verdict_at a since u.before u.head c.load u.later None u.copies (still_none c.load c.loaded since a u))
    ∙ waiting_place (map in_copy since) u.waits)
  where
    waiting_place : (ms : List InCopy) → AllWait ms → copy_place ms ≡ Copying
    waiting_place [] w = refl
    waiting_place (copy.Chunk bytes ∷ ms) w = waiting_place ms w
    waiting_place (copy.Waits ∷ ms) w = waiting_place ms w
    waiting_place (m ∷ ms) w = absurd w
