-- What a session gives, one event at a time: it hears what has come, message by message, with the
-- rows lent, and sends and receives where nothing of it is an event.
use Rattle.std.specs.Prelude.{◌≡◌, ◌≢◌, ℕ, ◌<◌, ◌≤◌, ◌⊎◌, List, [], length, Option, Some, None, Result, Ok, Err}
use Rattle.std.specs.List.{FoldsTo}
use Rattle.pg_wire.specs.message.BackMessage.TheVariants.{DataRow}
use Rattle.pg_wire.specs.Sending.{FailsToSend, Sends}
use Rattle.pg_client.specs.declared.fault.FeedFault.{FeedFault}
use Rattle.pg_client.specs.declared.item.Item.TheVariants as item
use Rattle.pg_client.specs.declared.next.Next.{Next}
use Rattle.pg_client.specs.declared.next.Next.TheVariants as next
use Rattle.pg_client.specs.declared.phase.Phase.{Phase}
use Rattle.pg_client.specs.declared.phase.Phase.TheVariants as phase
use Rattle.pg_client.specs.declared.settled.Loss.{Loss}
use Rattle.pg_client.specs.View.{EarlyView, lent_row, phase_of}
use Rattle.pg_client.specs.Client.{IsLost}
use Rattle.pg_client.specs.Keeping.{queueing}
use Rattle.pg_client.specs.Lent.{Pushes, TakesLent}
use Rattle.pg_client.specs.Collected.{RowValues}
use Rattle.pg_drive.specs.declared.answer.DrivenEarly.{DrivenEarly}
use Rattle.pg_drive.specs.declared.answer.DrivenEarly.TheVariants as driven
use Rattle.pg_drive.specs.declared.event.Event.{Event}
use Rattle.pg_drive.specs.declared.event.Event.TheVariants as event
use Rattle.pg_drive.specs.declared.event.SessionFault.{SessionFault}
use Rattle.pg_drive.specs.declared.event.SessionFault.TheVariants as fault
use Rattle.pg_drive.specs.Drive.{ClientKind, Ends, FailsToReceive, Refuses, Turn, connected}
use Rattle.pg_drive.specs.Early.{DrivesEarly, LinkedEarly}
use Rattle.pg_drive.specs.Session.{StartsAs}

-- ---- an early client that lends its rows

-- What an early client does as it is driven with its rows lent: a piece is pushed, and nothing is put
-- out.
abbrev pub lending_kind : ClientKind EarlyView
lending_kind =
    record {
      feeds = λ old piece result new before after. Pushes old piece result new × (after ≡ before);
      is_lost = IsLost queueing;
    }

-- ---- what has come

-- The next item was heard, or a row that is lent, and nothing of the link was touched.
pub record HearsNext {L : Type 0} (old : LinkedEarly L) (heard : Next)
    (new : LinkedEarly L) : Type 0 where
  pub takes : TakesLent old.client (Ok heard) new.client old.out new.out
  pub link : new.link ≡ old.link

-- What had come was heard up to what the client rejected, which handed back what is lost then.
pub record HearsFault {L : Type 0} (old : LinkedEarly L) (f : FeedFault) (loss : Loss)
    (new : LinkedEarly L) : Type 0 where
  -- the client before it handed that back
  pub client : EarlyView
  pub takes : TakesLent old.client (Err f) client old.out new.out
  pub lost : IsLost queueing client loss new.client
  pub link : new.link ≡ old.link

-- `takes` and `send_failures` are those of the link as a sink.
module _ {L : Type 0} (takes : L → List ℕ → L → Type 0) (send_failures : L → ℕ) where
  -- All that had come was heard, and gave nothing. All that waited then was sent, and the client is
  -- in this phase.
  pub record HearsAll (old : LinkedEarly L) (now : Phase) (new : LinkedEarly L)
      : Type 0 where
    -- what waited to be sent
    pub put : List ℕ
    pub heard : TakesLent old.client (Ok next.Nothing) new.client old.out put
    pub sent : Sends takes send_failures old.link put new.link
    pub none_left : new.out ≡ []
    pub in_phase : phase_of new.client ≡ now

  -- All that had come was heard, and gave nothing, and then a call of `send` failed.
  pub record FailsHeard (old : LinkedEarly L) (loss : Loss) (new : LinkedEarly L)
      : Type 0 where
    -- what waited to be sent, and the client before `lost` was called on it
    pub put : List ℕ
    pub client : EarlyView
    pub heard : TakesLent old.client (Ok next.Nothing) client old.out put
    pub sent : FailsToSend takes send_failures old.link put new.out new.link
    pub lost : IsLost queueing client loss new.client

  -- What is found in what has come: a row, which is lent; a message; that the request is settled;
  -- or, where nothing of it is an event, that the server awaits the data of a copy, or nothing
  -- (None). All that waits is sent before these two.
  abbrev pub Hears : LinkedEarly L → Result (Option Event) SessionFault → LinkedEarly L
      → Type 0
  Hears old (Ok None) new = (now : Phase) × (now ≢ phase.CopyingIn) × HearsAll old now new
  Hears old (Ok (Some event.CopyIn)) new = HearsAll old phase.CopyingIn new
  Hears old (Ok (Some event.Row)) new = HearsNext old next.Held new
  Hears old (Ok (Some (event.Message m))) new = HearsNext old (next.Item (item.Early m)) new
  Hears old (Ok (Some (event.Settled request status))) new =
      HearsNext old (next.Item (item.Settled request status)) new
  Hears old (Err (fault.Feed f loss)) new = HearsFault old f loss new
  Hears old (Err (fault.Lost loss)) new = FailsHeard old loss new
  Hears old (Err _) new = ⊥

-- ---- what comes

-- What is returned for an event that is to be owned, where this row is lent: a row as a message, or
-- that memory for it ran out, and any other event as it is.
abbrev pub Owns : Event → Option RowValues → Result Event SessionFault → Type 0
Owns event.Row held (Ok owned) = (row : RowValues) × (held ≡ Some row)
    × (owned ≡ event.Message (DataRow row))
Owns event.Row held (Err f) = f ≡ fault.Memory
Owns lent held result = result ≡ Ok lent

-- `gives`, `has_ended` and `receive_failures` are those of the link as a source.
module _ {L : Type 0} (gives takes : L → List ℕ → L → Type 0) (has_ended : L → Type 0)
    (receive_failures send_failures : L → ℕ) where
  -- A turn: nothing that had come was an event, all that waited was sent, and a piece was received
  -- and pushed.
  pub record LentTurn (old : LinkedEarly L) (piece : List ℕ) (new : LinkedEarly L)
      : Type 0 where
    pub between : LinkedEarly L
    pub heard : Hears takes send_failures old (Ok None) between
    pub turn : Turn lending_kind gives takes has_ended receive_failures send_failures between piece
        new

  -- Why no piece was pushed: the server's bytes have ended, or a call of `receive` failed; or the
  -- client rejected the piece, and handed back what is lost then.
  abbrev pub PushesNone : LinkedEarly L → SessionFault → LinkedEarly L → Type 0
  PushesNone old (fault.Lost loss) new =
      Ends lending_kind gives takes has_ended receive_failures send_failures old loss new
      ⊎ FailsToReceive lending_kind gives takes has_ended receive_failures send_failures old loss
      new
  PushesNone old (fault.Feed f loss) new = (client : EarlyView)
      × Refuses lending_kind gives takes has_ended receive_failures send_failures old f
      (connected new.link client new.out) × IsLost queueing client loss new.client
  PushesNone old _ new = ⊥

  -- The last turn, in which no piece was pushed.
  pub record FailsTurn (old : LinkedEarly L) (f : SessionFault) (new : LinkedEarly L)
      : Type 0 where
    pub between : LinkedEarly L
    pub heard : Hears takes send_failures old (Ok None) between
    pub failed : PushesNone between f new

  -- After so many turns this was returned: an event that was found in what had come; that the
  -- pieces are used, where nothing was found and as many were wanted; and else a fault, in what had
  -- come or in one more turn.
  abbrev pub LentAnswers : ℕ → ℕ → LinkedEarly L → Result Event SessionFault
      → LinkedEarly L → Type 0
  LentAnswers most count old (Ok found) new = (count ≤ most)
      × Hears takes send_failures old (Ok (Some found)) new
  LentAnswers most count old (Err fault.PiecesUsed) new = (count ≡ most)
      × Hears takes send_failures old (Ok None) new
  LentAnswers most count old (Err f) new =
      ((count ≤ most) × Hears takes send_failures old (Err f) new)
      ⊎ ((count < most) × FailsTurn old f new)

  -- What `next_lent` does, where at most so many pieces are received: these were, one after the
  -- other, each in a turn, and then this was returned.
  pub record GivesLent (most : ℕ) (old : LinkedEarly L) (result : Result Event SessionFault)
      (new : LinkedEarly L) : Type 0 where
    pub pieces : List (List ℕ)
    pub last : LinkedEarly L
    pub went_on : FoldsTo LentTurn old pieces last
    pub answered : LentAnswers most (length pieces) last result new

  -- What `next` does: what `next_lent` does, and its event is owned; a fault is returned as it is.
  abbrev pub Gives : ℕ → LinkedEarly L → Result Event SessionFault → LinkedEarly L → Type 0
  Gives most old result new =
      ((lent : Event) × GivesLent most old (Ok lent) new × Owns lent (lent_row new.client) result)
      ⊎ ((f : SessionFault) × (result ≡ Err f) × GivesLent most old (Err f) new)

-- ---- the start

-- What `start` returns for a result of `drive_early`: that the startup has ended; that the
-- connection is lost; and else that the pieces are used. In a startup no item comes, and no copy
-- begins.
abbrev pub start_told : DrivenEarly → Result Unit SessionFault
start_told driven.Ready = Ok tt
start_told (driven.Lost loss) = Err (fault.Lost loss)
start_told _ = Err fault.PiecesUsed

module _ {L : Type 0} (gives takes : L → List ℕ → L → Type 0) (has_ended : L → Type 0)
    (receive_failures send_failures : L → ℕ) where
  -- What `start` does, where at most so many pieces are received: it is rejected, or the startup
  -- packet waits, the client is driven as by `drive_early`, and this is returned.
  abbrev pub Starts : ℕ → LinkedEarly L → Result Unit SessionFault → LinkedEarly L → Type 0
  Starts most old result new =
      StartsAs queueing start_told
      (DrivesEarly gives takes has_ended receive_failures send_failures most) old result new
