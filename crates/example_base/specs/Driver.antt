-- What the author of a driver that asks one request at a time knows of a session. A history is a
-- value of contracts alone: no code stores it.
use Rattle.std.specs.Prelude.{◌≡◌, ℕ, ◌⊎◌, List, [], Result, Ok, Err, IfOk}
use Rattle.std.specs.List.{concat}
use Rattle.pg_wire.specs.declared.session.Request.{Request}
use Rattle.pg_client.specs.declared.call.Call.TheVariants as call
use Rattle.pg_client.specs.declared.fault.CallFault.{CallFault}
use Rattle.pg_client.specs.declared.phase.Phase.TheVariants as phase
use Rattle.pg_client.specs.declared.settled.Settled.{Settled}
use Rattle.pg_client.specs.Client.{Accepts, RefusesUnless, History, IsHistoryOf, with_call}
use Rattle.pg_client.specs.View.{ClientView, groups_waiting, phase_of}
use Rattle.pg_client.specs.Keeping.{collecting}
use Rattle.pg_drive.specs.declared.event.GroupEvent.{GroupEvent}
use Rattle.pg_drive.specs.declared.event.GroupEvent.TheVariants as event
use Rattle.pg_drive.specs.declared.event.SessionFault.{SessionFault}
use Rattle.pg_drive.specs.declared.event.SessionFault.TheVariants as session
use Rattle.pg_drive.specs.Carried.{IsDrivenOn, pieces_fed}
use Rattle.pg_drive.specs.Drive.{LinkedClient, Drives, connected}
use Rattle.pg_drive.specs.Group.{GroupTells, TakesGroup}
use Rattle.pg_drive.specs.Session.{Tells}
use Rattle.example_base.specs.declared.driver.AskFault.{AskFault}
use Rattle.example_base.specs.declared.driver.AskFault.TheVariants as fault

-- The client may be asked the next request: its phase is Ready, and no settled group waits to be
-- taken.
pub record AwaitsRequest (client : ClientView) : Type 0 where
  pub history : History Settled
  pub is_its_own : IsHistoryOf collecting history client
  pub ready : phase_of client ≡ phase.Ready
  pub none_waits : groups_waiting client ≡ []

-- what the session's `next` returned, where `ask` made the request and returned this
abbrev pub next_result : Result Settled AskFault → Result GroupEvent SessionFault
next_result (Ok group) = Ok (event.Settled group)
next_result (Err (fault.Session f)) = Err f
next_result (Err fault.CopyIn) = Ok event.CopyIn

-- This holds where `ask` returned CopyIn.
abbrev pub OnCopyIn : Result Settled AskFault → Type 0 → Type 0
OnCopyIn (Err fault.CopyIn) p = p
OnCopyIn _ p = Unit {0}

-- The client rejected the request, and nothing has changed.
pub record RefusesRequest {L : Type 0} (request : Request) (old : LinkedClient L)
    (result : Result Settled AskFault) (new : LinkedClient L) : Type 0 where
  pub reason : CallFault
  pub is_fault : result ≡ Err (fault.Session (session.Call reason))
  pub refused : RefusesUnless phase.Ready old.client (call.Request request) reason
  pub same : (new.client ≡ old.client) × (new.out ≡ old.out) × (new.link ≡ old.link)

-- `gives`, `has_ended` and `receive_failures` are those of the link as a source, `takes` and
-- `send_failures` as a sink.
module _ {L : Type 0} (gives takes : L → List ℕ → L → Type 0) (has_ended : L → Type 0)
    (receive_failures send_failures : L → ℕ) where
  -- The client made the request, and was driven until `next` returned this. By each history it made
  -- the request, and was fed the pieces that the link gave, and nothing else. Then the group that
  -- is returned was taken.
  pub record MakesRequest (most : ℕ) (request : Request) (old : LinkedClient L)
      (result : Result Settled AskFault) (new : LinkedClient L) : Type 0 where
    -- the client when it had made the request, and what waited to be sent then
    pub client : ClientView
    pub put : List ℕ
    pub made : Accepts collecting (call.Request request) old.client client old.out put
    pub told : Tells (Drives gives takes has_ended receive_failures send_failures most) GroupTells
        (connected old.link client put) (next_result result) new
    pub history : (h : History Settled) → IsHistoryOf collecting h old.client
        → IsDrivenOn (with_call old.client.settings (call.Request request) h)
        (concat (pieces_fed gives takes has_ended receive_failures send_failures most
        (connected old.link client put) told.came (connected new.link told.client new.out)
        told.driven))
        told.client
    pub taken : IfOk result
        (λ group. TakesGroup told.client (Ok (event.Settled group)) new.client)

  -- What `ask` does, where at most so many pieces are received.
  abbrev pub Asks : ℕ → Request → LinkedClient L → Result Settled AskFault → LinkedClient L → Type 0
  Asks most request old result new =
      RefusesRequest request old result new ⊎ MakesRequest most request old result new
