-- How a client's history goes on as it is driven.
use Rattle.std.proofs.Common.{◌≡◌, ℕ, List, [], ◌∷◌, ◌++◌, length, Option, Some, None, Result, Ok, Err, inl, inr, refl, sym, ap, subst, ◌∙◌, append-nil, append_assoc}
use Rattle.std.specs.List.{FoldsTo, concat}
use Rattle.std.proofs.lemmas.List.Folds.{concat-append}
use Rattle.pg_client.specs.declared.fault.FeedFault.{FeedFault}
use Rattle.pg_client.specs.declared.phase.Cause.{Cause}
use Rattle.pg_client.specs.declared.phase.Cause.TheVariants as cause
use Rattle.pg_client.specs.declared.phase.Phase.{Phase}
use Rattle.pg_client.specs.declared.settled.Loss.{Loss}
use Rattle.pg_client.specs.View.{ClientView, phase_of}
use Rattle.pg_client.specs.Driving.{IsFedOn}
use Rattle.pg_client.specs.Client.{Feeds, History, IsHistoryOf, with_handed_back, first_cause, IsLost}
use Rattle.pg_client.specs.Keeping.{collecting}
use Rattle.pg_client.specs.declared.settled.Settled.{Settled}
use Rattle.pg_client.proofs.Histories.Unread.{carried}
use Rattle.pg_drive.specs.declared.answer.DriveFault.{DriveFault}
use Rattle.pg_drive.specs.declared.answer.DriveFault.TheVariants as fault
use Rattle.pg_drive.specs.declared.answer.Driven.{Driven}
use Rattle.pg_drive.specs.declared.answer.Driven.TheVariants as driven
use Rattle.pg_drive.specs.Carried.{IsDrivenOn, IsLeftDriven, last_fed, pieces_fed}
use Rattle.pg_drive.specs.Drive.{Answers, LinkedClient, Drives, Turn, TurnsOn, client_kind}

-- the law of pg_client on a feed
abbrev pub FeedingGoesOn : Type 0
FeedingGoesOn = (h : History Settled) (old new : ClientView) (piece : List ℕ) (result : Result Unit FeedFault) (before after : List ℕ) → IsHistoryOf collecting h old → Feeds collecting old piece result new before after → IsFedOn h piece result old new

-- nothing was fed
stays : (h : History Settled) (client : ClientView) → IsHistoryOf collecting h client → IsDrivenOn h [] client
stays h client r = record { history = h; is_its_own = r; calls = refl; given = refl; fed = sym (append-nil h.fed) }

-- more was fed later
later_then : (h : History Settled) (xs ys : List ℕ) (mid new : ClientView) (k : IsDrivenOn h xs mid) → IsDrivenOn k.history ys new → IsDrivenOn h (xs ++ ys) new
later_then h xs ys mid new k n = record {
  history = n.history;
  is_its_own = n.is_its_own;
  calls = n.calls ∙ k.calls;
  given = n.given ∙ k.given;
  fed = n.fed ∙ ap (λ (bytes : List ℕ). bytes ++ ys) k.fed ∙ append_assoc h.fed xs ys;
}

-- a piece was fed to an open client
fed_piece : FeedingGoesOn → (h : History Settled) (old new : ClientView) (piece : List ℕ) (result : Result Unit FeedFault) (before after : List ℕ) → IsHistoryOf collecting h old → old.closed ≡ None → Feeds collecting old piece result new before after → IsDrivenOn h piece new
fed_piece law h old new piece result before after r none feeds =
    let k : IsFedOn h piece result old new = law h old new piece result before after r feeds in
    record { history = k.history; is_its_own = k.is_its_own; calls = k.calls; given = k.given; fed = k.fed none }

-- and is open still, if it didn't refuse the piece
still_open : FeedingGoesOn → (h : History Settled) (old new : ClientView) (piece before after : List ℕ) → IsHistoryOf collecting h old → old.closed ≡ None → Feeds collecting old piece (Ok tt) new before after → new.closed ≡ None
still_open law h old new piece before after r none feeds = (law h old new piece (Ok tt) before after r feeds).left none

-- the client was told that the link is gone
lost_then : (h : History Settled) (bytes : List ℕ) (old new : ClientView) (loss : Loss) → IsLost collecting old loss new → IsDrivenOn h bytes old → IsDrivenOn h bytes new
lost_then h bytes old new loss l k = record {
  history = with_handed_back k.history;
  is_its_own = carried collecting old new with_handed_back l.history k.history k.is_its_own;
  calls = k.calls;
  given = k.given;
  fed = k.fed;
}

-- and is closed then
closed_lost : (old new : ClientView) (loss : Loss) → old.closed ≡ None → IsLost collecting old loss new → new.closed ≡ Some cause.Lost
closed_lost old new loss none l = l.closed ∙ ap (λ (c : Option Cause). Some (first_cause c cause.Lost)) none

as_pieces : (h : History Settled) (piece : List ℕ) (new : ClientView) → IsDrivenOn h piece new → IsDrivenOn h (concat (piece ∷ [])) new
as_pieces h piece new k = subst (λ (bytes : List ℕ). IsDrivenOn h bytes new) (sym (append-nil piece)) k

module _ {L : Type 0} (gives takes : L → List ℕ → L → Type 0) (has_ended : L → Type 0) (receive_failures send_failures : L → ℕ) where
  -- turns that went on
  turns_go_on : FeedingGoesOn → (began : Phase) (pieces : List (List ℕ)) (old last : LinkedClient L) (h : History Settled) → IsHistoryOf collecting h old.client → old.client.closed ≡ None
      → FoldsTo (TurnsOn gives takes has_ended receive_failures send_failures began) old pieces last
      → IsDrivenOn h (concat pieces) last.client × (last.client.closed ≡ None)
  turns_go_on law began [] old last h r none e =
      subst (λ (c : LinkedClient L). IsDrivenOn h [] c.client × (c.client.closed ≡ None)) e (stays h old.client r, none)
  turns_go_on law began (piece ∷ pieces) old last h r none f =
      let mid : LinkedClient L = f.0 in
      let turn : Turn client_kind gives takes has_ended receive_failures send_failures old piece mid = f.1.0 in
      let k : IsDrivenOn h piece mid.client = fed_piece law h old.client mid.client piece (Ok tt) old.out turn.put r none turn.fed in
      let n = turns_go_on law began pieces mid last k.history k.is_its_own (still_open law h old.client mid.client piece old.out turn.put r none turn.fed) f.2 in
      (later_then h piece (concat pieces) mid.client last.client k n.0, n.1)

  -- a turn in which something was answered
  turn_answers : FeedingGoesOn → (h : History Settled) (old : LinkedClient L) (piece : List ℕ) (new : LinkedClient L) → IsHistoryOf collecting h old.client → old.client.closed ≡ None → Turn client_kind gives takes has_ended receive_failures send_failures old piece new
      → IsDrivenOn h (concat (piece ∷ [])) new.client
  turn_answers law h old piece new r none turn = as_pieces h piece new.client (fed_piece law h old.client new.client piece (Ok tt) old.out turn.put r none turn.fed)

  last_goes_on : FeedingGoesOn → (began : Phase) (turns count : ℕ) (old : LinkedClient L) (result : Result Driven DriveFault) (new : LinkedClient L) (h : History Settled) → IsHistoryOf collecting h old.client → old.client.closed ≡ None
      → (a : Answers gives takes has_ended receive_failures send_failures began turns count old result new) → IsDrivenOn h (concat (last_fed gives takes has_ended receive_failures send_failures began turns count old result new a)) new.client
  last_goes_on law began turns count old (Ok driven.Settled) new h r none a = turn_answers law h old a.1.0 new r none a.1.1
  last_goes_on law began turns count old (Ok driven.Ready) new h r none a = turn_answers law h old a.1.0 new r none a.1.1
  last_goes_on law began turns count old (Ok driven.CopyIn) new h r none a = turn_answers law h old a.1.0 new r none a.1.1
  last_goes_on law began turns count old (Ok driven.TurnsUsed) new h r none a = subst (λ (c : LinkedClient L). IsDrivenOn h [] c.client) (sym a.1) (stays h old.client r)
  last_goes_on law began turns count old (Ok (driven.Lost loss)) new h r none a = lost_then h [] old.client new.client loss a.1.lost (stays h old.client r)
  last_goes_on law began turns count old (Err (fault.Feed f)) new h r none a =
      as_pieces h a.1.piece new.client (fed_piece law h old.client new.client a.1.piece (Err f) old.out new.out r none a.1.fed)
  last_goes_on law began turns count old (Err (fault.Link loss)) new h r none (less, inl failed) = lost_then h [] old.client new.client loss failed.lost (stays h old.client r)
  last_goes_on law began turns count old (Err (fault.Link loss)) new h r none (less, inr failed) =
      lost_then h (concat (failed.piece ∷ [])) failed.client new.client loss failed.lost
      (as_pieces h failed.piece failed.client (fed_piece law h old.client failed.client failed.piece (Ok tt) old.out failed.put r none failed.fed))

  -- how the client is left
  turn_leaves : FeedingGoesOn → (h : History Settled) (old : LinkedClient L) (piece : List ℕ) (new : LinkedClient L) → IsHistoryOf collecting h old.client → old.client.closed ≡ None → Turn client_kind gives takes has_ended receive_failures send_failures old piece new → new.client.closed ≡ None
  turn_leaves law h old piece new r none turn = still_open law h old.client new.client piece old.out turn.put r none turn.fed

  last_leaves : FeedingGoesOn → (began : Phase) (turns count : ℕ) (old : LinkedClient L) (result : Result Driven DriveFault) (new : LinkedClient L) (h : History Settled) → IsHistoryOf collecting h old.client → old.client.closed ≡ None
      → Answers gives takes has_ended receive_failures send_failures began turns count old result new → IsLeftDriven result new.client.closed
  last_leaves law began turns count old (Ok driven.Settled) new h r none a = turn_leaves law h old a.1.0 new r none a.1.1
  last_leaves law began turns count old (Ok driven.Ready) new h r none a = turn_leaves law h old a.1.0 new r none a.1.1
  last_leaves law began turns count old (Ok driven.CopyIn) new h r none a = turn_leaves law h old a.1.0 new r none a.1.1
  last_leaves law began turns count old (Ok driven.TurnsUsed) new h r none a = ap (λ (c : LinkedClient L). c.client.closed) a.1 ∙ none
  last_leaves law began turns count old (Ok (driven.Lost loss)) new h r none a = closed_lost old.client new.client loss none a.1.lost
  last_leaves law began turns count old (Err (fault.Feed f)) new h r none a = (law h old.client new.client a.1.piece (Err f) old.out new.out r a.1.fed).left none
  last_leaves law began turns count old (Err (fault.Link loss)) new h r none (less, inl failed) = closed_lost old.client new.client loss none failed.lost
  last_leaves law began turns count old (Err (fault.Link loss)) new h r none (less, inr failed) =
      closed_lost failed.client new.client loss (still_open law h old.client failed.client failed.piece old.out failed.put r none failed.fed) failed.lost

  -- a whole call
  pub left_driven : FeedingGoesOn → (turns : ℕ) (old : LinkedClient L) (result : Result Driven DriveFault) (new : LinkedClient L) (h : History Settled) → IsHistoryOf collecting h old.client → old.client.closed ≡ None
      → Drives gives takes has_ended receive_failures send_failures turns old result new → IsLeftDriven result new.client.closed
  left_driven law turns old result new h r none (inl failed) =
      subst (λ (answer : Result Driven DriveFault). IsLeftDriven answer new.client.closed) (sym failed.is_fault) (closed_lost old.client new.client failed.loss none failed.lost)
  left_driven law turns old result new h r none (inr did) =
      let went = turns_go_on law (phase_of old.client) did.pieces (record { link = did.begun; client = old.client; out = [] }) did.last h r none did.went_on in
      let k : IsDrivenOn h (concat did.pieces) did.last.client = went.0 in
      last_leaves law (phase_of old.client) turns (length did.pieces) did.last result new k.history k.is_its_own went.1 did.answered

  pub driven_on : FeedingGoesOn → (turns : ℕ) (old : LinkedClient L) (result : Result Driven DriveFault) (new : LinkedClient L) (h : History Settled) → IsHistoryOf collecting h old.client → old.client.closed ≡ None
      → (did : Drives gives takes has_ended receive_failures send_failures turns old result new) → IsDrivenOn h (concat (pieces_fed gives takes has_ended receive_failures send_failures turns old result new did)) new.client
  driven_on law turns old result new h r none (inl failed) = lost_then h [] old.client new.client failed.loss failed.lost (stays h old.client r)
  driven_on law turns old result new h r none (inr did) =
      let went = turns_go_on law (phase_of old.client) did.pieces (record { link = did.begun; client = old.client; out = [] }) did.last h r none did.went_on in
      let fed : List (List ℕ) = last_fed gives takes has_ended receive_failures send_failures (phase_of old.client) turns (length did.pieces) did.last result new did.answered in
      let k : IsDrivenOn h (concat did.pieces) did.last.client = went.0 in
      let n : IsDrivenOn k.history (concat fed) new.client = last_goes_on law (phase_of old.client) turns (length did.pieces) did.last result new k.history k.is_its_own went.1 did.answered in
      subst (λ (bytes : List ℕ). IsDrivenOn h bytes new.client) (sym (concat-append did.pieces fed)) (later_then h (concat did.pieces) (concat fed) did.last.client new.client k n)
