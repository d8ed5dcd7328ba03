-- The steps by which a session finds its next event, by their results.
use Rattle.std.specs.Prelude.{◌≡◌, ◌≢◌, ◌⊎◌, ℕ, List, [], Option, Some, None, Result, Ok, Err}
use Rattle.pg_wire.specs.Sending.{FailsToSend, Sends}
use Rattle.pg_client.specs.declared.item.Item.{Item}
use Rattle.pg_client.specs.declared.item.Item.TheVariants as item
use Rattle.pg_client.specs.declared.next.Next.{Next}
use Rattle.pg_client.specs.declared.next.Next.TheVariants as next
use Rattle.pg_client.specs.declared.phase.Phase.{Phase}
use Rattle.pg_client.specs.declared.phase.Phase.TheVariants as phase
use Rattle.pg_client.specs.declared.settled.Loss.{Loss}
use Rattle.pg_client.specs.View.{phase_of}
use Rattle.pg_client.specs.Client.{IsLost}
use Rattle.pg_client.specs.Keeping.{queueing}
use Rattle.pg_drive.specs.declared.event.Event.{Event}
use Rattle.pg_drive.specs.declared.event.Event.TheVariants as event
use Rattle.pg_drive.specs.declared.event.SessionFault.{SessionFault}
use Rattle.pg_drive.specs.declared.event.SessionFault.TheVariants as fault
use Rattle.pg_drive.specs.Drive.{Turn}
use Rattle.pg_drive.specs.Early.{LinkedEarly}
use Rattle.pg_drive.specs.Lent.{FailsTurn, Hears, LentTurn, PushesNone, lending_kind}

-- The event of an item.
abbrev pub event_of : Item → Event
event_of (item.Early m) = event.Message m
event_of (item.Settled request status) = event.Settled request status

module _ {L : Type 0} (takes : L → List ℕ → L → Type 0) (send_failures : L → ℕ) where
  -- All that waits was sent, and the client is in this phase.
  pub record IsSent (old : LinkedEarly L) (now : Phase) (new : LinkedEarly L)
      : Type 0 where
    pub sent : Sends takes send_failures old.link old.out new.link
    pub none_left : new.out ≡ []
    pub client : new.client ≡ old.client
    pub in_phase : phase_of new.client ≡ now

  -- A call of `send` failed.
  pub record FailsSent (old : LinkedEarly L) (loss : Loss) (new : LinkedEarly L)
      : Type 0 where
    pub sent : FailsToSend takes send_failures old.link old.out new.out new.link
    pub lost : IsLost queueing old.client loss new.client

  -- Where all that has come was heard: what waits is sent, and it is told whether the server awaits
  -- the data of a copy.
  abbrev pub WaitsOn : LinkedEarly L → Result (Option Event) SessionFault → LinkedEarly L
      → Type 0
  WaitsOn old (Ok None) new = (now : Phase) × (now ≢ phase.CopyingIn) × IsSent old now new
  WaitsOn old (Ok (Some event.CopyIn)) new = IsSent old phase.CopyingIn new
  WaitsOn old (Ok (Some _)) new = ⊥
  WaitsOn old (Err (fault.Lost loss)) new = FailsSent old loss new
  WaitsOn old (Err _) new = ⊥

  -- What is told of what was heard.
  abbrev pub TellsNext : Next → LinkedEarly L → Result (Option Event) SessionFault
      → LinkedEarly L → Type 0
  TellsNext next.Nothing old result new = WaitsOn old result new
  TellsNext next.Held old result new = (result ≡ Ok (Some event.Row)) × (new ≡ old)
  TellsNext (next.Item t) old result new = (result ≡ Ok (Some (event_of t))) × (new ≡ old)

module _ {L : Type 0} (gives takes : L → List ℕ → L → Type 0) (has_ended : L → Type 0)
    (receive_failures send_failures : L → ℕ) where
  -- Receiving and pushing a piece, by the result.
  abbrev pub TakesPiece : LinkedEarly L → Result Unit SessionFault → LinkedEarly L → Type 0
  TakesPiece old (Ok x) new = (piece : List ℕ)
      × Turn lending_kind gives takes has_ended receive_failures send_failures old piece new
  TakesPiece old (Err f) new =
      PushesNone gives takes has_ended receive_failures send_failures old f new

  -- A turn, by its result: it goes on (None), or an event is given, or a fault.
  abbrev pub TakesLentTurn : LinkedEarly L → Result (Option Event) SessionFault
      → LinkedEarly L → Type 0
  TakesLentTurn old (Ok None) new = (piece : List ℕ)
      × LentTurn gives takes has_ended receive_failures send_failures old piece new
  TakesLentTurn old (Ok (Some found)) new = Hears takes send_failures old (Ok (Some found)) new
  TakesLentTurn old (Err f) new = Hears takes send_failures old (Err f) new
      ⊎ FailsTurn gives takes has_ended receive_failures send_failures old f new
