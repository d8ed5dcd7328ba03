-- What `answer` does: turn by turn a backend steps and its reply is sent, or a piece is received and
-- pushed, until there is something to answer.
use Rattle.std.specs.Prelude.{◌≡◌, ◌≢◌, ℕ, ◌<◌, ◌≤◌, ◌⊎◌, Bool, true, List, [], length, codes, Result, Ok, Err, OnOk}
use Rattle.std.specs.List.{FoldsTo}
use Rattle.pg_wire.specs.Link.{HasRisen, longest_piece}
use Rattle.pg_backend.specs.declared.fault.BackendFault.{BackendFault}
use Rattle.pg_backend.specs.declared.fault.BackendFault.TheVariants as faults
use Rattle.pg_backend.specs.Backend.{CarriesStep, IsClosed, Steps, Stores}
use Rattle.pg_backend.specs.History.{Carries, unchanged, with_pushed}
use Rattle.pg_backend.specs.Stage.{BackendState, IsWaiting, lost_stage}
use Rattle.pg_backend.specs.declared.answered.AnswerFault.{AnswerFault}
use Rattle.pg_backend.specs.declared.answered.AnswerFault.TheVariants as fault
use Rattle.pg_backend.specs.declared.answered.Answered.{Answered}
use Rattle.pg_backend.specs.declared.answered.Answered.TheVariants as answered
use Rattle.pg_wire.specs.Sending.{FailsToSend, Sends}

-- The code of the fault with which a client can't be answered.
abbrev pub answer_code : AnswerFault → List ℕ
answer_code (fault.Backend f) = codes "A1"
answer_code fault.Link = codes "A2"

-- ---- the backend

-- `step` was called and returned this, and the reply is all that it put out.
pub record HasStepped (old : BackendState) (answer : Result Bool BackendFault) (reply : List ℕ)
    (new : BackendState) : Type 0 where
  pub step : Steps old [] answer new reply
  pub history : CarriesStep old [] answer new reply

-- `push` was called with this piece and returned this.
pub record HasPushed (old : BackendState) (piece : List ℕ) (answer : Result Unit BackendFault)
    (new : BackendState) : Type 0 where
  pub push : Stores old piece answer new
  pub history : OnOk answer (Carries old new (with_pushed piece))

-- `lost` was called: the backend is closed, as lost unless it was closed before.
pub record IsLost (old new : BackendState) : Type 0 where
  pub lost : new ≡ record old { stage = lost_stage old.stage }
  pub history : Carries old new unchanged

-- ---- a backend over a link

-- A backend, and the link over which it answers.
pub record Connection (L : Type 0) : Type 0 where
  pub link : L
  pub backend : BackendState

-- this backend over this link
abbrev pub connected : {L : Type 0} → L → BackendState → Connection L
connected link backend = record { link = link; backend = backend }

-- What a turn that goes on passed over the link: a piece that came from the client, or a reply that
-- went to it.
pub data Passed : Type 0 where
  Came : (piece : List ℕ) → Passed
  Went : (reply : List ℕ) → Passed

-- `gives`, `has_ended` and `receive_failures` are those of the link as a source, `takes` and
-- `send_failures` as a sink.
module _ {L : Type 0} (gives takes : L → List ℕ → L → Type 0) (has_ended : L → Type 0)
    (receive_failures send_failures : L → ℕ) where
  -- ---- turns that go on

  -- Nothing whole waited. A piece was received, and just this piece was pushed.
  pub record Takes (old : Connection L) (piece : List ℕ) (new : Connection L) : Type 0 where
    pub waited : IsWaiting old.backend.stage
    pub received : gives old.link piece new.link
    pub has_some : 0 < length piece
    pub within : length piece ≤ longest_piece
    pub pushed : HasPushed old.backend piece (Ok tt) new.backend

  -- A packet or message was handled, and all that the backend put out for it was sent.
  pub record Replies (old : Connection L) (reply : List ℕ) (new : Connection L) : Type 0 where
    pub stepped : HasStepped old.backend (Ok true) reply new.backend
    pub sent : Sends takes send_failures old.link reply new.link

  -- A turn that goes on, by what it passed over the link.
  abbrev pub TurnsOn : Connection L → Passed → Connection L → Type 0
  TurnsOn old (Came piece) new = Takes old piece new
  TurnsOn old (Went reply) new = Replies old reply new

  -- ---- the last turn

  -- Nothing whole waited, and a call of `receive` found the end of the client's bytes.
  pub record Ends (old new : Connection L) : Type 0 where
    pub waited : IsWaiting old.backend.stage
    pub gave_none : gives old.link [] new.link
    pub ended : has_ended new.link
    pub lost : IsLost old.backend new.backend

  -- A step of a backend that wasn't closed returned this fault, and all that was put out for it was
  -- sent.
  pub record Breaks (old : Connection L) (f : BackendFault) (new : Connection L) : Type 0 where
    pub reply : List ℕ
    pub was_open : f ≢ faults.Closed
    pub stepped : HasStepped old.backend (Err f) reply new.backend
    pub sent : Sends takes send_failures old.link reply new.link

  -- Nothing whole waited, and a piece was received that the backend rejected.
  pub record Refuses (old : Connection L) (f : BackendFault) (new : Connection L) : Type 0 where
    pub piece : List ℕ
    -- the backend that rejected it, before `lost` was called on it
    pub backend : BackendState
    pub waited : IsWaiting old.backend.stage
    pub received : gives old.link piece new.link
    pub has_some : 0 < length piece
    pub within : length piece ≤ longest_piece
    pub pushed : HasPushed old.backend piece (Err f) backend
    pub lost : IsLost backend new.backend

  -- Nothing whole waited, and a call of `receive` failed, which gave nothing.
  pub record FailsToReceive (old new : Connection L) : Type 0 where
    pub waited : IsWaiting old.backend.stage
    pub gave_none : gives old.link [] new.link
    pub counted : HasRisen (receive_failures old.link) (receive_failures new.link)
    pub lost : IsLost old.backend new.backend

  -- A step was made, and then a call of `send` failed, so the end of the reply isn't sent.
  pub record FailsToReply (old new : Connection L) : Type 0 where
    pub answer : Result Bool BackendFault
    pub reply : List ℕ
    -- the backend that made the step, before `lost` was called on it
    pub backend : BackendState
    pub stepped : HasStepped old.backend answer reply backend
    -- the end of the reply, which wasn't sent
    pub left : List ℕ
    pub sent : FailsToSend takes send_failures old.link reply left new.link
    pub lost : IsLost backend new.backend

  -- The last turn, by what was returned in it. TurnsUsed isn't returned in a turn.
  abbrev pub LastTurn : Connection L → Result Answered AnswerFault → Connection L → Type 0
  LastTurn old (Ok answered.Closed) new = IsClosed old.backend × (new ≡ old)
  LastTurn old (Ok answered.Lost) new = Ends old new
  LastTurn old (Ok answered.TurnsUsed) new = ⊥
  LastTurn old (Err (fault.Backend f)) new = Breaks old f new ⊎ Refuses old f new
  LastTurn old (Err fault.Link) new = FailsToReceive old new ⊎ FailsToReply old new

  -- After so many turns that went on, this was returned: TurnsUsed where as many were given, and
  -- else something in one more turn.
  abbrev pub AnswersThen : ℕ → ℕ → Connection L → Result Answered AnswerFault → Connection L
      → Type 0
  AnswersThen turns count old (Ok answered.TurnsUsed) new = (count ≡ turns) × (new ≡ old)
  AnswersThen turns count old result new = (count < turns) × LastTurn old result new

  -- What `answer` does with so many turns: these went on, one after the other, and then this was
  -- returned.
  pub record Answers (turns : ℕ) (old : Connection L) (result : Result Answered AnswerFault)
      (new : Connection L) : Type 0 where
    pub passed : List Passed
    pub last : Connection L
    pub went_on : FoldsTo TurnsOn old passed last
    pub answered : AnswersThen turns (length passed) last result new
