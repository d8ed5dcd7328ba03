-- What a session does that gives the answer to a request whole.
use Rattle.std.specs.Prelude.{◌≡◌, ◌≢◌, ℕ, ◌⊎◌, List, [], ◌∷◌, Result, Ok, Err}
use Rattle.pg_wire.specs.Sending.{FailsToSend, Sends}
use Rattle.pg_client.specs.declared.phase.Phase.TheVariants as phase
use Rattle.pg_client.specs.declared.settled.Settled.{Settled}
use Rattle.pg_client.specs.View.{ClientView, groups_waiting, phase_of, with_groups}
use Rattle.pg_client.specs.Client.{Carries, with_given, IsLost}
use Rattle.pg_client.specs.Keeping.{collecting}
use Rattle.pg_drive.specs.declared.answer.DriveFault.{DriveFault}
use Rattle.pg_drive.specs.declared.answer.Driven.{Driven}
use Rattle.pg_drive.specs.declared.answer.Driven.TheVariants as driven
use Rattle.pg_drive.specs.declared.event.GroupEvent.{GroupEvent}
use Rattle.pg_drive.specs.declared.event.GroupEvent.TheVariants as event
use Rattle.pg_drive.specs.declared.event.SessionFault.{SessionFault}
use Rattle.pg_drive.specs.declared.event.SessionFault.TheVariants as fault
use Rattle.pg_drive.specs.Drive.{LinkedClient, Drives}
use Rattle.pg_drive.specs.Session.{StartsAs, Tells, TellsFault}

-- What `start` returns for a result of `drive`: that the startup has ended; that the connection is
-- lost; and else that the pieces are used. In a startup nothing is settled, and no copy begins.
abbrev pub group_start_told : Driven → Result Unit SessionFault
group_start_told driven.Ready = Ok tt
group_start_told (driven.Lost loss) = Err (fault.Lost loss)
group_start_told _ = Err fault.PiecesUsed

module _ {L : Type 0} (gives takes : L → List ℕ → L → Type 0) (has_ended : L → Type 0)
    (receive_failures send_failures : L → ℕ) where
  -- What `start` does, where at most so many pieces are received: it is rejected, or the startup
  -- packet waits, the client is driven as by `drive`, and this is returned.
  abbrev pub GroupStarts : ℕ → LinkedClient L → Result Unit SessionFault → LinkedClient L → Type 0
  GroupStarts most old result new =
      StartsAs collecting group_start_told
      (Drives gives takes has_ended receive_failures send_failures most) old result new

-- The oldest settled group is taken and given.
pub record TakesGroup (old : ClientView) (result : Result GroupEvent SessionFault)
    (new : ClientView) : Type 0 where
  pub group : Settled
  pub is_group : result ≡ Ok (event.Settled group)
  pub oldest : groups_waiting old ≡ group ∷ groups_waiting new
  pub others : new ≡ with_groups old (groups_waiting new)
  pub history : Carries collecting old new (with_given group)

-- What `next` returns for what driving the client came to: the group that is settled, that the
-- server awaits the data of a copy, that the connection is lost, that what came was rejected, and
-- else that the pieces are used.
abbrev pub GroupTells : Result Driven DriveFault → ClientView → Result GroupEvent SessionFault
    → ClientView → Type 0
GroupTells (Ok driven.Settled) old result new = groups_waiting old ≢ [] → TakesGroup old result new
GroupTells (Ok driven.CopyIn) old result new = (result ≡ Ok event.CopyIn) × (new ≡ old)
GroupTells (Ok (driven.Lost loss)) old result new = (result ≡ Err (fault.Lost loss)) × (new ≡ old)
GroupTells (Ok other) old result new = (result ≡ Err fault.PiecesUsed) × (new ≡ old)
GroupTells (Err f) old result new = (why : SessionFault) × (result ≡ Err why)
    × TellsFault (IsLost collecting) old f why new

module _ {L : Type 0} (gives takes : L → List ℕ → L → Type 0) (has_ended : L → Type 0)
    (receive_failures send_failures : L → ℕ) where
  -- Where the server awaits the data of a copy: all that waits is sent, and this is returned, or a
  -- call of `send` failed.
  abbrev pub AwaitsCopy : LinkedClient L → Result GroupEvent SessionFault → LinkedClient L → Type 0
  AwaitsCopy old (Ok answer) new = (answer ≡ event.CopyIn)
      × Sends takes send_failures old.link old.out new.link × (new.out ≡ [])
      × (new.client ≡ old.client)
  AwaitsCopy old (Err (fault.Lost loss)) new =
      FailsToSend takes send_failures old.link old.out new.out new.link
      × IsLost collecting old.client loss new.client
  AwaitsCopy old (Err _) new = ⊥

  -- What `next` does where at most so many pieces are received. Where a settled group waits, that
  -- is given, and nothing of the link is touched. Where none does, and the server awaits the data
  -- of a copy, that is returned. Else the client is driven.
  abbrev pub GivesGroup : ℕ → LinkedClient L → Result GroupEvent SessionFault → LinkedClient L
      → Type 0
  GivesGroup most old result new =
      (TakesGroup old.client result new.client × (new.link ≡ old.link) × (new.out ≡ old.out))
      ⊎ (((groups_waiting old.client ≡ []) × (phase_of old.client ≡ phase.CopyingIn)
      × AwaitsCopy old result new)
      ⊎ ((groups_waiting old.client ≡ []) × (phase_of old.client ≢ phase.CopyingIn)
      × Tells (Drives gives takes has_ended receive_failures send_failures most) GroupTells old
      result new))
