-- What a backend awaits, by what any further messages would come to after those that have come.
use Rattle.std.specs.Prelude.{◌≡◌, ℕ, ◌<◌, length, List, [], ◌∷◌, ◌++◌, map}
use Rattle.pg_wire.specs.message.First.{First}
use Rattle.pg_wire.specs.message.FrontMessage.{FrontMessage}
use Rattle.pg_wire.specs.value.CopyHead.{CopyHead}
use Rattle.pg_wire.specs.declared.session.Request.{Request}
use Rattle.pg_wire.specs.declared.session.Step.{Step}
use Rattle.pg_backend.specs.declared.meaning.InCopy.{InCopy}
use Rattle.pg_backend.specs.declared.meaning.InCopy.TheVariants as copy
use Rattle.pg_backend.specs.declared.script.Answer.{Answer}
use Rattle.pg_backend.specs.declared.script.Load.{Load}
use Rattle.pg_backend.specs.declared.script.Load.TheVariants.{Accept, Refuse}
use Rattle.pg_backend.specs.declared.script.Script.{Script}
use Rattle.pg_backend.specs.declared.script.ScriptPart.{ScriptPart}
use Rattle.pg_backend.specs.Fitting.{answer_for, others}
use Rattle.pg_backend.specs.Input.{admission_log, packets_log, At, admission_end, packets_end}
use Rattle.pg_backend.specs.Meaning.{in_copy}
use Rattle.pg_backend.specs.Opening.{Sent, Says, by_password, admission_messages, sent_for}
use Rattle.pg_backend.specs.Replies.{Copies, shape}
use Rattle.pg_backend.specs.Session.{Exchange, Session, from_request, session_past, session, replies, log_of}
use Rattle.pg_backend.specs.declared.stage.Awaits.{Awaits}
use Rattle.pg_backend.specs.declared.stage.Awaits.TheVariants as awaits

-- ---- in a session

-- a session that has these exchanges before its own
abbrev pub prepend : List Exchange → Session → Session
prepend done s = record { exchanges = done ++ s.exchanges; place = s.place }

-- After `ms` no request is undecided: the exchanges `done` were made, and whatever comes next is
-- read with the answers `left`, after these steps of a group that is open.
pub record BetweenRequests (answers : List Answer) (ms : List FrontMessage)
    (done : List Exchange) (left : List Answer) (steps : List Step) : Type 0 where
  pub continues : (more : List FrontMessage)
      → session answers (ms ++ more) ≡ prepend done (session_past 0 left steps more)

-- After `ms` this request is undecided: `since` came after it, and whatever comes next is read as
-- more of its copy.
pub record WithinRequest (answers : List Answer) (ms : List FrontMessage) (done : List Exchange)
    (left : List Answer) (r : Request) (since : List FrontMessage) : Type 0 where
  pub continues : (more : List FrontMessage)
      → session answers (ms ++ more)
      ≡ prepend done (from_request left r (since ++ more)
      (λ n. session_past n (others left) [] (since ++ more)))

-- the bytes of the CopyData among the messages of a copy, in order
abbrev pub chunks_in : List InCopy → List (List ℕ)
chunks_in [] = []
chunks_in (copy.Chunk bytes ∷ ms) = bytes ∷ chunks_in ms
chunks_in (m ∷ ms) = chunks_in ms

-- None of these messages ends a copy: each is a chunk, a Flush or a Sync.
abbrev pub AllWait : List InCopy → Type 0
AllWait [] = Unit {0}
AllWait (copy.Chunk bytes ∷ ms) = AllWait ms
AllWait (copy.Waits ∷ ms) = AllWait ms
AllWait (m ∷ ms) = ⊥

-- A copy with this way to end isn't rejected yet where n chunks were taken.
abbrev pub NotRefused : Load → ℕ → Type 0
NotRefused (Accept tag) n = Unit {0}
NotRefused (Refuse after fields) n = n < after

-- The answer has a copy from the client, which these messages don't decide. `loaded` are their
-- chunks.
pub record Undecided (a : Answer) (load : Load)
    (loaded : List (List ℕ)) (since : List FrontMessage) : Type 0 where
  pub before : List ScriptPart
  pub head : CopyHead
  pub later : List ScriptPart
  pub copies : shape a.parts ≡ Copies before head load later
  pub waits : AllWait (map in_copy since)
  pub chunks : loaded ≡ chunks_in (map in_copy since)
  pub room : NotRefused load (length loaded)

-- After these messages the session awaits this, and the answers `left` aren't used up: the first of
-- them is for the next request, or in a copy for the copy's own.
abbrev pub SessionAwaits : List Answer → List FrontMessage → List Answer → Awaits → Type 0
SessionAwaits answers ms left (awaits.Password expected) = ⊥
SessionAwaits answers ms left (awaits.Request steps) = (done : List Exchange)
    × BetweenRequests answers ms done left steps
SessionAwaits answers ms left (awaits.Data c) = (done : List Exchange)
    × (since : List FrontMessage) × WithinRequest answers ms done left c.request since
    × Undecided (answer_for left c.request) c.load c.loaded since

-- ---- from the first packets on

-- These first packets made the backend ask for this password; `before` was sent by then. What comes
-- of any messages is decided by whether the first of them is that password.
pub record IsAsked (s : Script) (packets : List First) (expected : List ℕ) : Type 0 where
  pub before : List Sent
  pub sends : (ms : List FrontMessage)
      → sent_for s packets ms ≡ before ++ map Says (admission_messages s (by_password expected ms))
  pub logs : (ms : List FrontMessage)
      → packets_log s packets ms ≡ admission_log s (by_password expected ms)
  pub ends : (ms : List FrontMessage)
      → packets_end s packets ms ≡ admission_end s (by_password expected ms)

-- The client of these first packets was let in by these messages (its password, or none). `before`
-- was sent by then, and whatever comes next is the session's.
pub record LetIn (s : Script) (packets : List First) (by : List FrontMessage) : Type 0 where
  pub before : List Sent
  pub sends : (ms : List FrontMessage)
      → sent_for s packets (by ++ ms) ≡ before ++ map Says (replies s.answers ms)
  pub logs : (ms : List FrontMessage) → packets_log s packets (by ++ ms) ≡ log_of s.answers ms
  pub ends : (ms : List FrontMessage)
      → packets_end s packets (by ++ ms) ≡ At (session s.answers ms).place

-- After these first packets and messages the backend awaits this, and these answers are left.
abbrev pub AwaitsAt : Script → List Answer → List First → List FrontMessage → Awaits → Type 0
AwaitsAt s left packets ms (awaits.Password expected) =
    IsAsked s packets expected × (ms ≡ []) × (left ≡ s.answers)
AwaitsAt s left packets ms a = (by since : List FrontMessage) × (ms ≡ by ++ since)
    × LetIn s packets by × SessionAwaits s.answers since left a
