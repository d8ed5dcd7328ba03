-- What is so of a pair at any time: of its client, of its backend, and of both together.
use Rattle.std.specs.Prelude.{◌≡◌, ◌≤◌, false, List, [], length, map}
use Rattle.pg_wire.specs.Direction.{longest}
use Rattle.pg_client.specs.declared.settled.Settled.{Settled}
use Rattle.pg_client.specs.View.{groups_waiting}
use Rattle.pg_client.specs.Client.{History, IsHistoryOf}
use Rattle.pg_client.specs.Keeping.{collecting}
use Rattle.pg_backend.specs.Check.{IsChecked}
use Rattle.pg_backend.specs.Backend.{was_lost}
use Rattle.pg_backend.specs.History as back
use Rattle.pg_wire.specs.Turns.{Turn, AreCopied}
use Rattle.pg_backend.specs.Turns.{InTurn}
use Rattle.pg_pair.specs.Copies.{turns_made, handed_for}
use Rattle.pg_pair.specs.View.{WayState, arrived, PairView}

-- No more bytes have reached an end than were sent to it.
abbrev pub IsWithin : WayState → Type 0
IsWithin s = s.reached ≤ length s.sent

-- The client's part: it has a history by which it was fed the bytes that have reached it, has put
-- out what was sent to the backend, and accepted each call once it was fed as many bytes as
-- `fed_before` says. All groups that it has settled are with the pair.
abbrev pub ClientTied : {C : Type 0} → PairView C → Type 0
ClientTied p = record {
  history : History Settled;
  is_history : IsHistoryOf collecting history p.client;
  fed : history.fed ≡ arrived p.to_client;
  given : history.given ≡ p.settled;
  sent : history.sent ≡ p.to_backend.sent;
  fed_before : map (λ c. c.1) history.calls ≡ p.fed_before;
  taken : groups_waiting p.client ≡ [];
  within : IsWithin p.to_client;
}

-- The backend's part: its script can be played, and its limit is the greatest. It has a history by
-- which it was given the bytes that have reached it, found no fault in them, and has put out what
-- was sent to the client. It counts as lost only once the way to it is broken.
abbrev pub BackendTied : {C : Type 0} → PairView C → Type 0
BackendTied p = record {
  checked : IsChecked p.backend.script;
  limit : p.backend.limit ≡ longest;
  history : back.History;
  is_history : back.IsHistoryOf history p.backend;
  pushed : history.pushed ≡ arrived p.to_backend;
  sent : history.sent ≡ p.to_client.sent;
  faultless : history.input.faulty ≡ false;
  not_lost : p.to_backend.broken ≡ false → was_lost p.backend.stage ≡ false;
  within : IsWithin p.to_backend;
}

-- What ties both: each request of these turns but the last is decided, by the copy messages sent
-- for it. These are chunks and at most one end, and the chunks are those that the pair has noted.
abbrev pub TurnsTied : {C : Type 0} → PairView C → List Turn → Type 0
TurnsTied p turns = record {
  in_turn : InTurn p.backend.script.answers turns;
  copied : AreCopied turns;
  handed : p.handed ≡ handed_for turns;
}

-- What holds of a pair at any time: of its client, of its backend, and of the requests that the
-- client's calls made, with the copy messages sent for each.
pub record Tied {C : Type 0} (p : PairView C) : Type 0 where
  pub client : ClientTied p
  pub backend : BackendTied p
  pub turns : TurnsTied p (turns_made client.history.calls)
