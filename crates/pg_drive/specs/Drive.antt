-- What `drive` does: it sends, receives and feeds, until there is something to return.
use Rattle.std.specs.Prelude.{◌≡◌, ◌≢◌, ℕ, ◌<◌, ◌≤◌, ◌⊎◌, List, [], length, codes, Option, Some, None, Result, Ok, Err}
use Rattle.std.specs.List.{FoldsTo}
use Rattle.pg_wire.specs.Link.{HasRisen}
pub use Rattle.pg_wire.specs.Link.{longest_piece}
use Rattle.pg_client.specs.declared.phase.Phase.{Phase}
use Rattle.pg_client.specs.declared.phase.Phase.TheVariants as phase
use Rattle.pg_client.specs.declared.fault.FeedFault.{FeedFault}
use Rattle.pg_client.specs.declared.settled.Loss.{Loss}
use Rattle.pg_client.specs.View.{ClientView, View, groups_waiting, phase_of}
use Rattle.pg_client.specs.Client.{Feeds, Keeps, IsLost}
use Rattle.pg_client.specs.Keeping.{collecting}
use Rattle.pg_drive.specs.declared.answer.DriveFault.{DriveFault}
use Rattle.pg_drive.specs.declared.answer.DriveFault.TheVariants as fault
use Rattle.pg_drive.specs.declared.answer.Driven.{Driven}
use Rattle.pg_drive.specs.declared.answer.Driven.TheVariants as driven
use Rattle.pg_wire.specs.Sending.{FailsToSend, Sends}

-- The code of the fault with which a client can't be driven.
abbrev pub drive_code : DriveFault → List ℕ
drive_code (fault.Feed f) = codes "D1"
drive_code (fault.Link loss) = codes "D2"

-- ---- what is driven

-- What a kind of client does as it is driven.
pub record ClientKind (C : Type 0) : Type 1 where
  -- what `feed` does. The arguments are the client before, the piece, the result, the client after,
  -- and the output before and after.
  pub feeds : C → List ℕ → Result Unit FeedFault → C → List ℕ → List ℕ → Type 0
  -- `lost` was called and returned this
  pub is_lost : C → Loss → C → Type 0

-- What is driven: a link, the client over it, and the bytes that wait to be sent.
pub record Linked (C L : Type 0) : Type 0 where
  pub link : L
  pub client : C
  pub out : List ℕ

-- this client over this link, and the bytes that wait
abbrev pub connected : {C L : Type 0} → L → C → List ℕ → Linked C L
connected link client out = record { link = link; client = client; out = out }

-- `gives`, `has_ended` and `receive_failures` are those of the link as a source, `takes` and
-- `send_failures` as a sink.
module _ {C L : Type 0} (kind : ClientKind C) (gives takes : L → List ℕ → L → Type 0)
    (has_ended : L → Type 0) (receive_failures send_failures : L → ℕ) where
  -- A turn: this piece was received, just this piece was fed, and all that the client put out was
  -- sent.
  pub record Turn (old : Linked C L) (piece : List ℕ) (new : Linked C L) : Type 0 where
    -- the link when the piece was received, and the bytes that waited when it was fed
    pub between : L
    pub put : List ℕ
    pub received : gives old.link piece between
    pub none_failed : receive_failures between ≡ receive_failures old.link
    pub has_some : 0 < length piece
    pub within : length piece ≤ longest_piece
    pub fed : kind.feeds old.client piece (Ok tt) new.client old.out put
    pub sent : Sends takes send_failures between put new.link
    pub none_left : new.out ≡ []

  -- The client rejected a piece, and was fed nothing after it. What it put out before isn't sent.
  pub record Refuses (old : Linked C L) (f : FeedFault) (new : Linked C L) : Type 0 where
    pub piece : List ℕ
    pub received : gives old.link piece new.link
    pub none_failed : receive_failures new.link ≡ receive_failures old.link
    pub has_some : 0 < length piece
    pub within : length piece ≤ longest_piece
    pub fed : kind.feeds old.client piece (Err f) new.client old.out new.out

  -- A call of `receive` failed, which gave nothing.
  pub record FailsToReceive (old : Linked C L) (loss : Loss) (new : Linked C L) : Type 0 where
    pub gave_none : gives old.link [] new.link
    pub counted : HasRisen (receive_failures old.link) (receive_failures new.link)
    pub lost : kind.is_lost old.client loss new.client
    pub out : new.out ≡ old.out

  -- A piece was received and fed, and then a call of `send` failed.
  pub record FailsToAnswer (old : Linked C L) (loss : Loss) (new : Linked C L) : Type 0 where
    pub piece : List ℕ
    pub between : L
    pub put : List ℕ
    -- the client that was fed, before `lost` was called on it
    pub client : C
    pub received : gives old.link piece between
    pub none_failed : receive_failures between ≡ receive_failures old.link
    pub has_some : 0 < length piece
    pub within : length piece ≤ longest_piece
    pub fed : kind.feeds old.client piece (Ok tt) client old.out put
    pub sent : FailsToSend takes send_failures between put new.out new.link
    pub lost : kind.is_lost client loss new.client

  -- A call of `receive` found the end of the server's bytes.
  pub record Ends (old : Linked C L) (loss : Loss) (new : Linked C L) : Type 0 where
    pub gave_none : gives old.link [] new.link
    pub none_failed : receive_failures new.link ≡ receive_failures old.link
    pub ended : has_ended new.link
    pub lost : kind.is_lost old.client loss new.client
    pub out : new.out ≡ old.out

  -- The last turn, by the fault that was returned in it.
  abbrev pub Fails : Linked C L → DriveFault → Linked C L → Type 0
  Fails old (fault.Feed f) new = Refuses old f new
  Fails old (fault.Link loss) new = FailsToReceive old loss new ⊎ FailsToAnswer old loss new

  -- What waited couldn't all be sent, and nothing was received.
  pub record FailsAtFirst {A : Type 0} (old : Linked C L) (result : Result A DriveFault)
      (new : Linked C L) : Type 0 where
    pub loss : Loss
    pub is_fault : result ≡ Err (fault.Link loss)
    pub sent : FailsToSend takes send_failures old.link old.out new.out new.link
    pub lost : kind.is_lost old.client loss new.client

  -- All that waited was sent, then these pieces were received and fed, one after the other, each in
  -- a turn that went on, and then this was returned.
  pub record TakesTurns {A : Type 0} (goes_on : Linked C L → List ℕ → Linked C L → Type 0)
      (answers : ℕ → Linked C L → Result A DriveFault → Linked C L → Type 0) (old : Linked C L)
      (result : Result A DriveFault) (new : Linked C L) : Type 0 where
    -- the link when all that waited was sent
    pub begun : L
    pub sent : Sends takes send_failures old.link old.out begun
    pub pieces : List (List ℕ)
    pub last : Linked C L
    pub went_on : FoldsTo goes_on (connected begun old.client []) pieces last
    pub answered : answers (length pieces) last result new

-- ---- the client

-- What a client does as it is driven.
abbrev pub kind_of : {K : Type 0} → Keeps K → ClientKind (View K)
kind_of way = record { feeds = Feeds way; is_lost = IsLost way }

-- one of which settled groups are taken
abbrev pub client_kind : ClientKind ClientView
client_kind = kind_of collecting

-- The startup has ended in this call: the client stood in phase Starting when the call began, and
-- is Ready now.
abbrev pub HasStarted : Phase → ClientView → Type 0
HasStarted began client = (began ≡ phase.Starting) × (phase_of client ≡ phase.Ready)

-- After a piece there is nothing to return: no settled group waits, the startup hasn't ended in
-- this call, and the server doesn't wait for a copy's data.
pub record GoesOn (began : Phase) (client : ClientView) : Type 0 where
  pub none_waits : groups_waiting client ≡ []
  pub not_started : HasStarted began client → ⊥
  pub no_copy : phase_of client ≢ phase.CopyingIn

-- What is returned after a piece, the first of these that holds: a settled group waits, the startup
-- has ended in this call, the server waits for a copy's data; or that it goes on (None).
abbrev pub IsSeen : Phase → ClientView → Option Driven → Type 0
IsSeen began client None = GoesOn began client
IsSeen began client (Some driven.Settled) = groups_waiting client ≢ []
IsSeen began client (Some driven.Ready) = (groups_waiting client ≡ []) × HasStarted began client
IsSeen began client (Some driven.CopyIn) = (groups_waiting client ≡ [])
    × (phase_of client ≡ phase.CopyingIn)
IsSeen began client (Some _) = ⊥

-- ---- a client over a link

-- What `drive` drives: a client over a link.
abbrev pub LinkedClient : Type 0 → Type 0
LinkedClient L = Linked ClientView L

module _ {L : Type 0} (gives takes : L → List ℕ → L → Type 0) (has_ended : L → Type 0)
    (receive_failures send_failures : L → ℕ) where
  -- A turn after which there is nothing to return. `began` is the client's phase when the call
  -- began.
  abbrev pub TurnsOn : Phase → LinkedClient L → List ℕ → LinkedClient L → Type 0
  TurnsOn began old piece new =
      Turn client_kind gives takes has_ended receive_failures send_failures old piece new
      × GoesOn began new.client

  -- The last turn, by what was returned in it. TurnsUsed isn't returned in a turn.
  abbrev pub LastTurn : Phase → LinkedClient L → Result Driven DriveFault → LinkedClient L → Type 0
  LastTurn began old (Ok driven.TurnsUsed) new = ⊥
  LastTurn began old (Ok (driven.Lost loss)) new =
      Ends client_kind gives takes has_ended receive_failures send_failures old loss new
  LastTurn began old (Ok answer) new = (piece : List ℕ)
      × Turn client_kind gives takes has_ended receive_failures send_failures old piece new
      × IsSeen began new.client (Some answer)
  LastTurn began old (Err f) new =
      Fails client_kind gives takes has_ended receive_failures send_failures old f new

  -- After so many turns with nothing to return, this was returned: TurnsUsed where as many were
  -- wanted, and else something in one more turn.
  abbrev pub Answers : Phase → ℕ → ℕ → LinkedClient L → Result Driven DriveFault → LinkedClient L
      → Type 0
  Answers began turns count old (Ok driven.TurnsUsed) new = (count ≡ turns) × (new ≡ old)
  Answers began turns count old result new = (count < turns) × LastTurn began old result new

  -- What `drive` does with so many turns.
  abbrev pub Drives : ℕ → LinkedClient L → Result Driven DriveFault → LinkedClient L → Type 0
  Drives turns old result new =
      FailsAtFirst client_kind gives takes has_ended receive_failures send_failures old result new
      ⊎ TakesTurns client_kind gives takes has_ended receive_failures send_failures
      (TurnsOn (phase_of old.client)) (Answers (phase_of old.client) turns) old result new
