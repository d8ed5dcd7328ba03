-- How a session begins and ends, of either kind of client. A session is a client, what it has put
-- out, and its link.
use Rattle.std.specs.Prelude.{◌≡◌, ◌⊎◌, ℕ, List, codes, Result, Ok, Err}
use Rattle.pg_wire.specs.declared.link.LinkFault.{LinkFault}
use Rattle.pg_wire.specs.Sending.{SendsOut}
use Rattle.pg_client.specs.declared.call.Call.TheVariants as call
use Rattle.pg_client.specs.declared.fault.CallFault.{CallFault}
use Rattle.pg_client.specs.declared.phase.Cause.TheVariants as cause
use Rattle.pg_client.specs.declared.phase.Phase.TheVariants as phase
use Rattle.pg_client.specs.declared.settled.Loss.{Loss}
use Rattle.pg_client.specs.Client.{Accepts, RefusesUnless, IsLost, Keeps}
use Rattle.pg_client.specs.View.{IsOpenPhase, View, phase_of}
use Rattle.pg_drive.specs.declared.answer.DriveFault.{DriveFault}
use Rattle.pg_drive.specs.declared.answer.DriveFault.TheVariants as drive
use Rattle.pg_drive.specs.declared.event.SessionFault.{SessionFault}
use Rattle.pg_drive.specs.declared.event.SessionFault.TheVariants as fault
use Rattle.pg_drive.specs.Drive.{Linked, connected}

-- The code of the fault with which a session gives nothing.
abbrev pub session_code : SessionFault → List ℕ
session_code (fault.Call f) = codes "N1"
session_code (fault.Feed f loss) = codes "N2"
session_code (fault.Lost loss) = codes "N3"
session_code fault.PiecesUsed = codes "N4"
session_code fault.Memory = codes "N5"

-- ---- the start

-- The fault of a session for a fault of driving: that the connection is lost; or that what came was
-- rejected, and then `lost` was called on the client and handed this back.
abbrev pub TellsFault : {C : Type 0} → (C → Loss → C → Type 0) → C → DriveFault → SessionFault → C
    → Type 0
TellsFault is_lost old (drive.Link loss) result new = (result ≡ fault.Lost loss) × (new ≡ old)
TellsFault is_lost old (drive.Feed f) result new = (loss : Loss) × (result ≡ fault.Feed f loss)
    × is_lost old loss new

-- What is returned for what driving the client came to. The first two arguments say what a session
-- returns for a result of driving, and what `lost` does.
abbrev pub TellsCame : {A B C : Type 0} → (A → Result B SessionFault) → (C → Loss → C → Type 0)
    → Result A DriveFault → C → Result B SessionFault → C → Type 0
TellsCame told is_lost (Ok answer) old result new = (result ≡ told answer) × (new ≡ old)
TellsCame told is_lost (Err f) old result new = (why : SessionFault) × (result ≡ Err why)
    × TellsFault is_lost old f why new

-- A session's client was driven, and this was returned for what that came to.
pub record Tells {A B C L : Type 0}
    (drives : Linked C L → Result A DriveFault → Linked C L → Type 0)
    (told : Result A DriveFault → C → B → C → Type 0) (old : Linked C L) (result : B)
    (new : Linked C L) : Type 0 where
  pub came : Result A DriveFault
  -- the client when it had been driven
  pub client : C
  pub driven : drives old came (connected new.link client new.out)
  pub tells : told came client result new.client

-- The client was New, and accepted to start, or it stood in phase Starting, and nothing has changed:
-- its startup packet was put out. The lists are the output before and after.
abbrev pub Begins : {K : Type 0} → Keeps K → View K → View K → List ℕ → List ℕ → Type 0
Begins way old new before after =
    ((phase_of old ≡ phase.New) × (phase_of new ≡ phase.Starting)
    × Accepts way call.Start old new before after)
    ⊎ ((phase_of old ≡ phase.Starting) × (new ≡ old) × (after ≡ before))

module _ {K L A : Type 0} (way : Keeps K) (told : A → Result Unit SessionFault)
    (drives : Linked (View K) L → Result A DriveFault → Linked (View K) L → Type 0) where
  -- The client rejected to start for this reason, and nothing has changed.
  pub record RefusesStart (old : Linked (View K) L) (result : Result Unit SessionFault)
      (new : Linked (View K) L) : Type 0 where
    pub reason : CallFault
    pub is_fault : result ≡ Err (fault.Call reason)
    pub refused : RefusesUnless phase.New old.client call.Start reason
    pub same : new ≡ old

  -- The startup packet waits, the client is driven, and this is returned for what that came to.
  pub record StartsBy (old : Linked (View K) L) (result : Result Unit SessionFault)
      (new : Linked (View K) L) : Type 0 where
    -- the client and what waited to be sent when driving began
    pub client : View K
    pub put : List ℕ
    pub begun : Begins way old.client client old.out put
    pub tells : Tells drives (TellsCame told (IsLost way)) (connected old.link client put) result
        new

  -- What `start` does.
  abbrev pub StartsAs : Linked (View K) L → Result Unit SessionFault → Linked (View K) L → Type 0
  StartsAs old result new = RefusesStart old result new ⊎ StartsBy old result new

-- ---- the end

-- What `end` does that isn't rejected: the client accepts to terminate, all that waits is sent,
-- unless a call of `send` fails, and then `lost` is called on the client, which hands this back.
pub record Terminates {K L : Type 0} (way : Keeps K) (takes : L → List ℕ → L → Type 0)
    (send_failures : L → ℕ) (old : Linked (View K) L) (loss : Loss)
    (new : Linked (View K) L) : Type 0 where
  -- the client when it had put the message out, and what waited to be sent then
  pub client : View K
  pub put : List ℕ
  pub was_open : IsOpenPhase (phase_of old.client)
  pub ended : phase_of client ≡ phase.Closed cause.Terminated
  pub accepted : Accepts way call.Terminate old.client client old.out put
  pub answer : Result Unit LinkFault
  pub sent : SendsOut takes send_failures old.link put answer new.link new.out
  pub lost : IsLost way client loss new.client
