-- One turn, by its result.
use Rattle.std.specs.Prelude.{◌≡◌, ℕ, List, Option, Some, None, Result, Ok, Err}
use Rattle.pg_backend.specs.declared.answered.AnswerFault.{AnswerFault}
use Rattle.pg_backend.specs.declared.answered.AnswerFault.TheVariants as fault
use Rattle.pg_backend.specs.declared.answered.Answered.{Answered}
use Rattle.pg_backend.specs.OverLink.{Connection, IsLost, LastTurn, Passed, TurnsOn}
use Rattle.pg_wire.specs.Sending.{FailsToSend, Sends}

-- A turn, by its result: it goes on (None), or this is returned.
abbrev pub TakesTurn : {L : Type 0} (gives takes : L → List ℕ → L → Type 0)
    (has_ended : L → Type 0) (receive_failures send_failures : L → ℕ)
    → Connection L → Result (Option Answered) AnswerFault → Connection L → Type 0
TakesTurn gives takes has_ended receive_failures send_failures old (Ok None) new =
    (passed : Passed)
    × TurnsOn gives takes has_ended receive_failures send_failures old passed new
TakesTurn gives takes has_ended receive_failures send_failures old (Ok (Some answer)) new =
    LastTurn gives takes has_ended receive_failures send_failures old (Ok answer) new
TakesTurn gives takes has_ended receive_failures send_failures old (Err f) new =
    LastTurn gives takes has_ended receive_failures send_failures old (Err f) new

-- Sending a reply, by the result: all of it was sent, or a call of `send` failed and the backend was
-- told so.
abbrev pub SendsReply : {L : Type 0} (takes : L → List ℕ → L → Type 0) (failures : L → ℕ)
    → Connection L → List ℕ → Result Unit AnswerFault → Connection L → Type 0
SendsReply takes failures old reply (Ok x) new =
    Sends takes failures old.link reply new.link × (new.backend ≡ old.backend)
SendsReply takes failures old reply (Err f) new = (f ≡ fault.Link)
    × ((left : List ℕ) × FailsToSend takes failures old.link reply left new.link)
    × IsLost old.backend new.backend
