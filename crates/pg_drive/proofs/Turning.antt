-- Turns, one after the other, and what is answered then.
use Rattle.std.proofs.Common.{◌≡◌, ℕ, ◌+◌, ◌<◌, List, [], ◌∷◌, ◌++◌, length, Option, Some, None, Result, Ok, refl, sym, inr, subst, length-append, arith}
use Rattle.std.specs.List.{FoldsTo}
use Rattle.std.proofs.lemmas.Fn.{FoldsTo-push}
use Rattle.pg_client.specs.declared.phase.Phase.{Phase}
use Rattle.pg_client.specs.declared.settled.Loss.{Loss}
use Rattle.pg_drive.specs.declared.answer.DriveFault.{DriveFault}
use Rattle.pg_drive.specs.declared.answer.Driven.{Driven}
use Rattle.pg_drive.specs.declared.answer.Driven.TheVariants as driven
use Rattle.pg_drive.specs.Drive.{Answers, ClientKind, LinkedClient, Drives, IsSeen, LastTurn, Linked, TakesTurns, Turn, TurnsOn, client_kind, connected}
use Rattle.pg_wire.specs.Sending.{Sends}
use Rattle.pg_client.specs.View.{phase_of}
use Rattle.pg_drive.specs.Private.Turning.{Receives, TakesTurn}

module _ {S : Type 0} (goes_on : S → List ℕ → S → Type 0) where
  -- So many turns went on.
  pub record WentOn (start : S) (count : ℕ) (now : S) : Type 0 where
    pub pieces : List (List ℕ)
    pub turns : FoldsTo goes_on start pieces now
    pub counted : length pieces ≡ count

  pub went_none : (start now : S) → start ≡ now → WentOn start 0 now
  went_none start now e = record { pieces = []; turns = e; counted = refl }

  pub went_one_more : (start : S) (count : ℕ) (mid : S) (piece : List ℕ) (now : S) → WentOn start count mid → goes_on mid piece now → WentOn start (count + 1) now
  went_one_more start count mid piece now w on = record {
    pieces = w.pieces ++ piece ∷ [];
    turns = FoldsTo-push goes_on start w.pieces mid piece now w.turns on;
    counted = omega (arith, length-append w.pieces (piece ∷ []), w.counted);
  }

module _ {C L : Type 0} (kind : ClientKind C) (gives takes : L → List ℕ → L → Type 0) (has_ended : L → Type 0) (receive_failures send_failures : L → ℕ) where
  -- all was sent, so many turns went on, and this was answered then
  pub takes_turns_so : {A : Type 0} (goes_on : Linked C L → List ℕ → Linked C L → Type 0) (answers : ℕ → Linked C L → Result A DriveFault → Linked C L → Type 0) (count : ℕ) (old : Linked C L) (begun : L) (last : Linked C L) (result : Result A DriveFault) (new : Linked C L)
      → Sends takes send_failures old.link old.out begun → WentOn goes_on (connected begun old.client []) count last → answers count last result new → TakesTurns kind gives takes has_ended receive_failures send_failures goes_on answers old result new
  takes_turns_so goes_on answers count old begun last result new sent w a = record {
    begun = begun;
    sent = sent;
    pieces = w.pieces;
    last = last;
    went_on = w.turns;
    answered = subst (λ (n : ℕ). answers n last result new) (sym w.counted) a;
  }

module _ {L : Type 0} (gives takes : L → List ℕ → L → Type 0) (has_ended : L → Type 0) (receive_failures send_failures : L → ℕ) where
  turn_seen : (began : Phase) (old : LinkedClient L) (piece : List ℕ) (seen : Option Driven) (new : LinkedClient L) → Turn client_kind gives takes has_ended receive_failures send_failures old piece new → IsSeen began new.client seen
      → TakesTurn gives takes has_ended receive_failures send_failures began old (Ok seen) new
  turn_seen began old piece None new t s = (piece, (t, s))
  turn_seen began old piece (Some driven.Settled) new t s = (piece, t, s)
  turn_seen began old piece (Some driven.Ready) new t s = (piece, t, s)
  turn_seen began old piece (Some driven.CopyIn) new t s = (piece, t, s)
  turn_seen began old piece (Some driven.TurnsUsed) new t s = absurd s
  turn_seen began old piece (Some (driven.Lost loss)) new t s = absurd s

  -- a turn, by what is seen after it
  pub turn_sees : (began : Phase) (old : LinkedClient L) (took : Option Loss) (seen : Option Driven) (new : LinkedClient L) → took ≡ None → Receives client_kind gives takes has_ended receive_failures send_failures old (Ok took) new → IsSeen began new.client seen
      → TakesTurn gives takes has_ended receive_failures send_failures began old (Ok seen) new
  turn_sees began old took seen new none r s =
      let t : Receives client_kind gives takes has_ended receive_failures send_failures old (Ok None) new = subst (λ (o : Option Loss). Receives client_kind gives takes has_ended receive_failures send_failures old (Ok o) new) none r in
      turn_seen began old t.0 seen new t.1 s

  -- a turn that found the end
  pub turn_ends : (began : Phase) (old : LinkedClient L) (took : Option Loss) (loss : Loss) (new : LinkedClient L) → took ≡ Some loss → Receives client_kind gives takes has_ended receive_failures send_failures old (Ok took) new
      → TakesTurn gives takes has_ended receive_failures send_failures began old (Ok (Some (driven.Lost loss))) new
  turn_ends began old took loss new some r = subst (λ (o : Option Loss). Receives client_kind gives takes has_ended receive_failures send_failures old (Ok o) new) some r

  -- one turn more went on
  pub went_more : (began : Phase) (start : LinkedClient L) (count : ℕ) (mid : LinkedClient L) (seen : Option Driven) (now : LinkedClient L) → WentOn (TurnsOn gives takes has_ended receive_failures send_failures began) start count mid → seen ≡ None
      → TakesTurn gives takes has_ended receive_failures send_failures began mid (Ok seen) now → WentOn (TurnsOn gives takes has_ended receive_failures send_failures began) start (count + 1) now
  went_more began start count mid seen now w none took =
      let t : TakesTurn gives takes has_ended receive_failures send_failures began mid (Ok None) now = subst (λ (o : Option Driven). TakesTurn gives takes has_ended receive_failures send_failures began mid (Ok o) now) none took in
      went_one_more (TurnsOn gives takes has_ended receive_failures send_failures began) start count mid t.0 now w t.1

  answers : (began : Phase) (turns count : ℕ) (old : LinkedClient L) (answer : Driven) (new : LinkedClient L) → count < turns → LastTurn gives takes has_ended receive_failures send_failures began old (Ok answer) new
      → Answers gives takes has_ended receive_failures send_failures began turns count old (Ok answer) new
  answers began turns count old driven.Settled new less t = (less, t)
  answers began turns count old driven.Ready new less t = (less, t)
  answers began turns count old driven.CopyIn new less t = (less, t)
  answers began turns count old driven.TurnsUsed new less t = absurd t
  answers began turns count old (driven.Lost loss) new less t = (less, t)

  -- this was answered in one more turn
  pub answers_in_turn : (began : Phase) (turns count : ℕ) (old : LinkedClient L) (seen : Option Driven) (answer : Driven) (new : LinkedClient L) → count < turns → seen ≡ Some answer
      → TakesTurn gives takes has_ended receive_failures send_failures began old (Ok seen) new → Answers gives takes has_ended receive_failures send_failures began turns count old (Ok answer) new
  answers_in_turn began turns count old seen answer new less e t =
      answers began turns count old answer new less (subst (λ (o : Option Driven). TakesTurn gives takes has_ended receive_failures send_failures began old (Ok o) new) e t)

  -- all was sent, so many turns went on, and this was answered then
  pub drives_so : (began : Phase) (turns count : ℕ) (old : LinkedClient L) (begun : L) (last : LinkedClient L) (result : Result Driven DriveFault) (new : LinkedClient L) → began ≡ phase_of old.client → Sends takes send_failures old.link old.out begun
      → WentOn (TurnsOn gives takes has_ended receive_failures send_failures began) (connected begun old.client []) count last → Answers gives takes has_ended receive_failures send_failures began turns count last result new
      → Drives gives takes has_ended receive_failures send_failures turns old result new
  drives_so began turns count old begun last result new e sent w a =
      let now : Phase = phase_of old.client in
      inr (takes_turns_so client_kind gives takes has_ended receive_failures send_failures (TurnsOn gives takes has_ended receive_failures send_failures now) (Answers gives takes has_ended receive_failures send_failures now turns) count old begun last result new sent
      (subst (λ (p : Phase). WentOn (TurnsOn gives takes has_ended receive_failures send_failures p) (connected begun old.client []) count last) e w)
      (subst (λ (p : Phase). Answers gives takes has_ended receive_failures send_failures p turns count last result new) e a))
