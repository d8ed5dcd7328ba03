-- What `drive_early` does: it gives each item that waits, and sends, receives and feeds where none
-- does.
use Rattle.std.specs.Prelude.{◌≡◌, ◌≢◌, ℕ, ◌<◌, ◌≤◌, ◌⊎◌, List, [], ◌∷◌, Option, Some, None, Result, Ok, Err}
use Rattle.pg_client.specs.declared.phase.Phase.{Phase}
use Rattle.pg_client.specs.declared.phase.Phase.TheVariants as phase
use Rattle.pg_client.specs.View.{EarlyView, items_waiting, phase_of, with_items}
use Rattle.pg_client.specs.Keeping.{queueing}
use Rattle.pg_drive.specs.declared.answer.DriveFault.{DriveFault}
use Rattle.pg_drive.specs.declared.answer.DrivenEarly.{DrivenEarly}
use Rattle.pg_drive.specs.declared.answer.DrivenEarly.TheVariants as driven
use Rattle.pg_drive.specs.Drive.{ClientKind, Ends, Fails, FailsAtFirst, Linked, TakesTurns, Turn, kind_of}

-- ---- the early client

-- What an early client does as it is driven.
abbrev pub early_kind : ClientKind EarlyView
early_kind = kind_of queueing

-- The startup has ended in this call: the client stood in phase Starting when the call began, and
-- is Ready now.
abbrev pub IsStarted : Phase → Phase → Type 0
IsStarted began now = (began ≡ phase.Starting) × (now ≡ phase.Ready)

-- What there is for the caller, the first of these that holds: the startup has ended in this call;
-- an item waits, and the oldest one is taken and given; the server waits for a copy's data; or
-- nothing (None). The phases are that in which the call began and that of now.
abbrev pub Finds : Phase → Phase → EarlyView → Option DrivenEarly → EarlyView → Type 0
Finds began now old (Some driven.Ready) new = IsStarted began now × (new ≡ old)
Finds began now old (Some (driven.Item t)) new = (IsStarted began now → ⊥)
    × (items_waiting old ≡ t ∷ items_waiting new)
    × (new ≡ with_items old (items_waiting new))
Finds began now old (Some driven.CopyIn) new = (now ≡ phase.CopyingIn)
    × (items_waiting old ≡ []) × (new ≡ old)
Finds began now old None new = (IsStarted began now → ⊥) × (now ≢ phase.CopyingIn)
    × (items_waiting old ≡ []) × (new ≡ old)
Finds began now old (Some _) new = ⊥

-- A look found this. The first argument is the phase in which the call began.
abbrev pub Looks : Phase → EarlyView → Option DrivenEarly → EarlyView → Type 0
Looks began old found new = Finds began (phase_of old) old found new

-- ---- an early client over a link

-- What `drive_early` drives: an early client over a link.
abbrev pub LinkedEarly : Type 0 → Type 0
LinkedEarly L = Linked EarlyView L

-- A look found this, and nothing of the link was touched.
pub record LooksAt {L : Type 0} (began : Phase) (old : LinkedEarly L)
    (found : Option DrivenEarly) (new : LinkedEarly L) : Type 0 where
  pub looks : Looks began old.client found new.client
  pub link : new.link ≡ old.link
  pub out : new.out ≡ old.out

module _ {L : Type 0} (gives takes : L → List ℕ → L → Type 0) (has_ended : L → Type 0)
    (receive_failures send_failures : L → ℕ) where
  -- A turn, where a look found nothing before.
  abbrev pub EarlyTurnsOn : Phase → LinkedEarly L → List ℕ → LinkedEarly L → Type 0
  EarlyTurnsOn began old piece new = Looks began old.client None old.client
      × Turn early_kind gives takes has_ended receive_failures send_failures old piece new

  -- After so many turns this was returned: what a look found; TurnsUsed, where it found nothing and
  -- as many turns were wanted; and else, where it found nothing, the end of the server's bytes or a
  -- fault in one more turn.
  abbrev pub EarlyAnswers : Phase → ℕ → ℕ → LinkedEarly L → Result DrivenEarly DriveFault
      → LinkedEarly L → Type 0
  EarlyAnswers began turns count old (Ok driven.TurnsUsed) new = (count ≡ turns)
      × LooksAt began old None new
  EarlyAnswers began turns count old (Ok (driven.Lost loss)) new = (count < turns)
      × Looks began old.client None old.client
      × Ends early_kind gives takes has_ended receive_failures send_failures old loss new
  EarlyAnswers began turns count old (Ok answer) new = (count ≤ turns)
      × LooksAt began old (Some answer) new
  EarlyAnswers began turns count old (Err f) new = (count < turns)
      × Looks began old.client None old.client
      × Fails early_kind gives takes has_ended receive_failures send_failures old f new

  -- What `drive_early` does with so many turns.
  abbrev pub DrivesEarly : ℕ → LinkedEarly L → Result DrivenEarly DriveFault
      → LinkedEarly L → Type 0
  DrivesEarly turns old result new =
      FailsAtFirst early_kind gives takes has_ended receive_failures send_failures old result new
      ⊎ TakesTurns early_kind gives takes has_ended receive_failures send_failures
      (EarlyTurnsOn (phase_of old.client)) (EarlyAnswers (phase_of old.client) turns) old result
      new
