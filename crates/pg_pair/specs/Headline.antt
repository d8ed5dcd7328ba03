-- What the groups that the client has settled say about those that the backend has answered.
use Rattle.std.specs.Prelude.{◌≡◌, ◌≤◌, suc, ℕ, true, false, List, ◌++◌, length, map, take}
use Rattle.std.specs.List.{flat_map}
use Rattle.pg_wire.specs.message.FrontMessage.{FrontMessage}
use Rattle.pg_wire.specs.declared.session.Outcome.{Outcome}
use Rattle.pg_wire.specs.declared.session.Request.{Request}
use Rattle.pg_wire.specs.Direction.{spelling}
use Rattle.pg_wire.specs.First.{packet}
use Rattle.pg_wire.specs.Frontend.{frontend}
use Rattle.pg_client.specs.declared.settled.Settled.{Settled}
use Rattle.pg_client.specs.declared.phase.Phase.TheVariants as client_phase
use Rattle.pg_client.specs.Client.{History, IsHistoryOf}
use Rattle.pg_client.specs.View as client
use Rattle.pg_client.specs.Keeping.{collecting}
use Rattle.pg_backend.specs.declared.script.Logged.{Logged}
use Rattle.pg_backend.specs.declared.phase.BackPhase.TheVariants as backend_phase
use Rattle.pg_backend.specs.Backend.{HasHandled, had_memory}
use Rattle.pg_backend.specs.Backend as backend
use Rattle.pg_backend.specs.Input.{Input}
use Rattle.pg_wire.specs.Turns.{Turn, AreCopies}
use Rattle.pg_backend.specs.Turns.{TookEach}
use Rattle.pg_pair.specs.Copies.{turns_made, handed_for}
use Rattle.pg_pair.specs.View.{arrived, PairView}

-- the request and the outcome of a group that the client has settled
abbrev pub settled_as : Settled → Request × Outcome
settled_as s = (s.request, s.outcome)

-- the request and the outcome of a group that the backend has answered
abbrev pub answered_as : Logged → Request × Outcome
answered_as l = (l.request, l.outcome)

-- the requests of these turns, in order
abbrev pub requests_of : List Turn → List Request
requests_of ts = map (λ t. t.request) ts

-- the requests of a log, in order
abbrev pub requests_logged : List Logged → List Request
requests_logged ls = map (λ l. l.request) ls

-- By this history the client was fed what has reached it, gave the pair its settled groups, put out
-- what was sent to the backend, and accepted each call once it was fed as many bytes as
-- `fed_before` says. The log's requests are the first that these calls made, and `handed` has the
-- chunks of each that they made.
pub record MatchesCalls {C : Type 0} (p : PairView C) : Type 0 where
  pub history : History Settled
  pub client_history : IsHistoryOf collecting history p.client
  pub fed : history.fed ≡ arrived p.to_client
  pub given : history.given ≡ p.settled
  pub sent : history.sent ≡ p.to_backend.sent
  pub fed_before : map (λ c. c.1) history.calls ≡ p.fed_before
  pub logged : requests_logged p.backend.log
      ≡ take (length p.backend.log) (requests_of (turns_made history.calls))
  pub handed : p.handed ≡ handed_for (turns_made history.calls)

-- the bytes of first packets and of the messages after them
abbrev pub input_bytes : Input → List ℕ
input_bytes i = flat_map packet i.packets ++ flat_map (spelling frontend) i.messages

-- All bytes sent to the backend are those of the packets and messages that it has handled, and then
-- those of copy messages (CopyData, CopyDone, CopyFail) alone.
pub record LeavesCopies {C : Type 0} (p : PairView C) : Type 0 where
  pub input : Input
  pub rest : List ℕ
  pub handled : HasHandled p.backend (arrived p.to_backend) input rest p.to_client.sent
  pub unhandled : List FrontMessage
  pub sent : p.to_backend.sent ≡ input_bytes input ++ flat_map (spelling frontend) unhandled
  pub copies : AreCopies unhandled

-- The backend's phase is Ready, and what was sent to it beyond what it has handled is copy messages
-- alone, which it drops.
pub record StandsReady {C : Type 0} (p : PairView C) : Type 0 where
  pub phase : backend.phase_of p.backend.stage ≡ backend_phase.Ready
  pub leaves_copies : ∥ LeavesCopies p ∥₁

-- The theorem of a pair, true at any time: what the client has settled is what the backend has
-- answered.
pub record Headline {C : Type 0} (p : PairView C) : Type 0 where
  -- the settled groups are, in order, a beginning of those that the backend has answered, each
  -- with its request and its outcome
  pub beginning : map settled_as p.settled
      ≡ take (length p.settled) (map answered_as p.backend.log)
  -- the chunks that the backend took for a request are the first of those that were handed over for
  -- it, and all of them where its outcome has a copy from the client
  pub copied : TookEach p.backend.log p.handed
  -- the log's requests are the first that the client's calls made; entry k of the log and list k of
  -- `handed` belong to one request, even where it isn't settled
  pub asked : ∥ MatchesCalls p ∥₁
  -- at most one of the requests that were made isn't settled
  pub one_at_most : length p.handed ≤ suc (length p.settled)
  -- where the client's phase is Ready, so is the backend's, with copy messages alone left to drop,
  -- unless the way to the backend is broken or a step of the backend ran out of memory
  pub ready : client.phase_of p.client ≡ client_phase.Ready
      → p.to_backend.broken ≡ false → had_memory p.backend.stage ≡ true → StandsReady p
