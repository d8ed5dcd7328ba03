-- What becomes of a client's history as it is driven, and how it is left.
use Rattle.std.specs.Prelude.{◌≡◌, ℕ, List, [], ◌∷◌, ◌++◌, length, Option, Some, None, Result, Ok, Err}
use mathlib.Core.Logic.{inl, inr}
use Rattle.pg_client.specs.declared.phase.Cause.{Cause}
use Rattle.pg_client.specs.declared.phase.Cause.TheVariants as cause
use Rattle.pg_client.specs.declared.phase.Phase.{Phase}
use Rattle.pg_client.specs.View.{ClientView, phase_of}
use Rattle.pg_client.specs.Driving.{IsLeftBy}
use Rattle.pg_client.specs.Client.{History, IsHistoryOf}
use Rattle.pg_client.specs.Keeping.{collecting}
use Rattle.pg_client.specs.declared.settled.Settled.{Settled}
use Rattle.pg_drive.specs.declared.answer.DriveFault.{DriveFault}
use Rattle.pg_drive.specs.declared.answer.DriveFault.TheVariants as fault
use Rattle.pg_drive.specs.declared.answer.Driven.{Driven}
use Rattle.pg_drive.specs.declared.answer.Driven.TheVariants as driven
use Rattle.pg_drive.specs.Drive.{Answers, LinkedClient, Drives}

-- What a history becomes as its client is driven: the client has a history with the same calls and
-- the same groups taken, in which these bytes were fed after those before.
pub record IsDrivenOn (past : History Settled) (bytes : List ℕ) (new : ClientView) : Type 0 where
  pub history : History Settled
  pub is_its_own : IsHistoryOf collecting history new
  pub calls : history.calls ≡ past.calls
  pub given : history.given ≡ past.given
  pub fed : history.fed ≡ past.fed ++ bytes

-- How a client that was open is left by this result of `drive`: closed as Lost, where the server's
-- bytes have ended or the link failed; closed with the cause of the fault, where it rejected a
-- piece; and else open.
abbrev pub IsLeftDriven : Result Driven DriveFault → Option Cause → Type 0
IsLeftDriven (Ok (driven.Lost loss)) closed = closed ≡ Some cause.Lost
IsLeftDriven (Ok _) closed = closed ≡ None
IsLeftDriven (Err (fault.Feed f)) closed = IsLeftBy (Err f) closed
IsLeftDriven (Err (fault.Link loss)) closed = closed ≡ Some cause.Lost

module _ {L : Type 0} (gives takes : L → List ℕ → L → Type 0) (has_ended : L → Type 0)
    (receive_failures send_failures : L → ℕ) where
  -- The piece that was fed in the last turn: one, unless the turns were used, or receiving found
  -- the end or failed.
  abbrev pub last_fed : (began : Phase) (turns count : ℕ) (old : LinkedClient L)
      (result : Result Driven DriveFault) (new : LinkedClient L)
      → Answers gives takes has_ended receive_failures send_failures began turns count old result
      new
      → List (List ℕ)
  last_fed began turns count old (Ok driven.Settled) new a = a.1.0 ∷ []
  last_fed began turns count old (Ok driven.Ready) new a = a.1.0 ∷ []
  last_fed began turns count old (Ok driven.CopyIn) new a = a.1.0 ∷ []
  last_fed began turns count old (Ok driven.TurnsUsed) new a = []
  last_fed began turns count old (Ok (driven.Lost loss)) new a = []
  last_fed began turns count old (Err (fault.Feed f)) new a = a.1.piece ∷ []
  last_fed began turns count old (Err (fault.Link loss)) new (less, inl failed) = []
  last_fed began turns count old (Err (fault.Link loss)) new (less, inr failed) =
      failed.piece ∷ []

  -- The pieces that were fed: those of the turns that went on, and that of the last one.
  abbrev pub pieces_fed : (turns : ℕ) (old : LinkedClient L) (result : Result Driven DriveFault)
      (new : LinkedClient L)
      → Drives gives takes has_ended receive_failures send_failures turns old result new
      → List (List ℕ)
  pieces_fed turns old result new (inl failed) = []
  pieces_fed turns old result new (inr did) =
      did.pieces ++ last_fed (phase_of old.client) turns (length did.pieces) did.last result new
      did.answered
