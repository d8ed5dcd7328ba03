-- What a session gives that gives whole answers.
use Rattle.std.proofs.Common.{◌≡◌, ℕ, List, [], Result, sym, inl, inr, subst, ◌∙◌}
use Rattle.pg_client.specs.declared.phase.Phase.{Phase}
use Rattle.pg_client.specs.declared.phase.Phase.TheVariants as phase
use Rattle.pg_client.specs.View.{ClientView, groups_waiting, phase_of}
use Rattle.pg_drive.specs.declared.event.GroupEvent.{GroupEvent}
use Rattle.pg_drive.specs.declared.event.SessionFault.{SessionFault}
use Rattle.pg_drive.specs.Drive.{LinkedClient, Drives, connected}
use Rattle.pg_drive.specs.Group.{AwaitsCopy, GivesGroup, GroupTells}
use Rattle.pg_drive.specs.Session.{Tells}

module _ {L : Type 0} (gives takes : L → List ℕ → L → Type 0) (has_ended : L → Type 0) (receive_failures send_failures : L → ℕ) where
  -- no group waits, and the server awaits the data of a copy
  pub awaits_copy : (most : ℕ) (link : L) (old same : ClientView) (out : List ℕ) (p : Phase) (result : Result GroupEvent SessionFault) (new : LinkedClient L) → groups_waiting old ≡ [] → same ≡ old → p ≡ phase_of same → p ≡ phase.CopyingIn
      → AwaitsCopy gives takes has_ended receive_failures send_failures (connected link same out) result new → GivesGroup gives takes has_ended receive_failures send_failures most (connected link old out) result new
  awaits_copy most link old same out p result new none stays is copying a =
      let in_phase : phase_of old ≡ phase.CopyingIn = subst (λ (v : ClientView). phase_of v ≡ phase.CopyingIn) stays (sym is ∙ copying) in
      inr (inl (none, in_phase, subst (λ (v : ClientView). AwaitsCopy gives takes has_ended receive_failures send_failures (connected link v out) result new) stays a))

  -- no group waits, and the client is driven
  pub drives_on : (most : ℕ) (link : L) (old same : ClientView) (out : List ℕ) (p : Phase) (result : Result GroupEvent SessionFault) (new : LinkedClient L) → groups_waiting old ≡ [] → same ≡ old → p ≡ phase_of same → (p ≡ phase.CopyingIn → ⊥)
      → Tells (Drives gives takes has_ended receive_failures send_failures most) GroupTells (connected link same out) result new → GivesGroup gives takes has_ended receive_failures send_failures most (connected link old out) result new
  drives_on most link old same out p result new none stays is other t =
      let not_copying : phase_of old ≡ phase.CopyingIn → ⊥ = subst (λ (v : ClientView). phase_of v ≡ phase.CopyingIn → ⊥) stays (λ e. other (is ∙ e)) in
      inr (inr (none, not_copying, subst (λ (v : ClientView). Tells (Drives gives takes has_ended receive_failures send_failures most) GroupTells (connected link v out) result new) stays t))
