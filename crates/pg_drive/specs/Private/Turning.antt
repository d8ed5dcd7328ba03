-- One turn, by its result.
use Rattle.std.specs.Prelude.{ℕ, List, Option, Some, None, Result, Ok, Err}
use Rattle.pg_client.specs.declared.phase.Phase.{Phase}
use Rattle.pg_client.specs.declared.settled.Loss.{Loss}
use Rattle.pg_drive.specs.declared.answer.DriveFault.{DriveFault}
use Rattle.pg_drive.specs.declared.answer.Driven.{Driven}
use Rattle.pg_drive.specs.Drive.{ClientKind, LinkedClient, Ends, Fails, LastTurn, Linked, Turn, TurnsOn}

-- Receiving a piece, feeding it and sending what the client put out, by the result: all that is
-- done (None), or the server's bytes have ended, or a fault is answered.
abbrev pub Receives : {C L : Type 0} (kind : ClientKind C) (gives takes : L → List ℕ → L → Type 0)
    (has_ended : L → Type 0) (receive_failures send_failures : L → ℕ)
    → Linked C L → Result (Option Loss) DriveFault → Linked C L → Type 0
Receives kind gives takes has_ended receive_failures send_failures old (Ok None) new =
    (piece : List ℕ)
    × Turn kind gives takes has_ended receive_failures send_failures old piece new
Receives kind gives takes has_ended receive_failures send_failures old (Ok (Some loss)) new =
    Ends kind gives takes has_ended receive_failures send_failures old loss new
Receives kind gives takes has_ended receive_failures send_failures old (Err f) new =
    Fails kind gives takes has_ended receive_failures send_failures old f new

-- A turn, by its result: it goes on (None), or this is returned.
abbrev pub TakesTurn : {L : Type 0} (gives takes : L → List ℕ → L → Type 0)
    (has_ended : L → Type 0) (receive_failures send_failures : L → ℕ)
    → Phase → LinkedClient L → Result (Option Driven) DriveFault → LinkedClient L → Type 0
TakesTurn gives takes has_ended receive_failures send_failures began old (Ok None) new =
    (piece : List ℕ)
    × TurnsOn gives takes has_ended receive_failures send_failures began old piece new
TakesTurn gives takes has_ended receive_failures send_failures began old (Ok (Some answer)) new =
    LastTurn gives takes has_ended receive_failures send_failures began old (Ok answer) new
TakesTurn gives takes has_ended receive_failures send_failures began old (Err f) new =
    LastTurn gives takes has_ended receive_failures send_failures began old (Err f) new
