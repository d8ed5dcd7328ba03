-- What the author of a driver goes by: the requests of its calls, and what a feed leaves.
use Rattle.std.specs.Prelude.{◌≡◌, ℕ, List, ◌++◌, map, Option, None, Result, Ok, Err}
use Rattle.pg_wire.specs.declared.session.Request.{Request}
use Rattle.pg_client.specs.declared.call.Call.{Call}
use Rattle.pg_client.specs.declared.phase.Cause.{Cause}
use Rattle.pg_client.specs.declared.fault.FeedFault.{FeedFault}
use Rattle.pg_client.specs.declared.fault.FeedFault.TheVariants as feeding
use Rattle.pg_client.specs.Answering.{calls_of}
use Rattle.pg_client.specs.View.{ClientView}
use Rattle.pg_client.specs.Closed.{cause_of}
use Rattle.pg_client.specs.declared.settled.Settled.{Settled}
use Rattle.pg_client.specs.Client.{History, IsHistoryOf}
use Rattle.pg_client.specs.Keeping.{collecting}
use Rattle.pg_client.specs.Turns.{turns_of}

-- The requests that these calls made, in order.
abbrev pub requests_by : List (Call × ℕ) → List Request
requests_by calls = map (λ t. t.request) (turns_of (calls_of calls))

-- How a client is left by a feed with this result, if it was open before: open after Ok, and else
-- closed with the cause of the fault. The fault Closed doesn't come there.
abbrev pub IsLeftBy : Result Unit FeedFault → Option Cause → Type 0
IsLeftBy (Ok x) closed = closed ≡ None
IsLeftBy (Err feeding.Closed) closed = ⊥
IsLeftBy (Err f) closed = closed ≡ cause_of f

-- What a history becomes by a feed: the client after it has a history with the same calls and the
-- same groups taken. If the client was open, the whole piece was fed.
pub record IsFedOn (past : History Settled) (piece : List ℕ) (result : Result Unit FeedFault)
    (old new : ClientView) : Type 0 where
  -- the history of the client after the feed
  pub history : History Settled
  pub is_its_own : IsHistoryOf collecting history new
  pub calls : history.calls ≡ past.calls
  pub given : history.given ≡ past.given
  -- a client that was closed before is fed nothing
  pub fed : old.closed ≡ None → history.fed ≡ past.fed ++ piece
  pub left : old.closed ≡ None → IsLeftBy result new.closed
