-- How a backend's history goes on as it answers.
use Rattle.std.proofs.Common.{◌≡◌, ℕ, List, [], ◌∷◌, ◌++◌, length, Bool, true, false, Result, Ok, Err, inl, inr, refl, sym, ap, subst, ◌∙◌, append-nil, append_assoc}
use Rattle.std.specs.List.{FoldsTo}
use Rattle.pg_backend.specs.declared.fault.BackendFault.{BackendFault}
use Rattle.pg_backend.specs.declared.fault.BackendFault.TheVariants as faults
use Rattle.pg_backend.specs.Backend.{Handles, StepsFrom}
use Rattle.pg_backend.specs.History.{History, IsHistoryOf, with_fault, with_handled, with_message}
use Rattle.pg_backend.specs.Stage.{BackendState}
use Rattle.pg_backend.specs.declared.answered.AnswerFault.{AnswerFault}
use Rattle.pg_backend.specs.declared.answered.AnswerFault.TheVariants as fault
use Rattle.pg_backend.specs.declared.answered.Answered.{Answered}
use Rattle.pg_backend.specs.declared.answered.Answered.TheVariants as answered
use Rattle.pg_backend.specs.OverLink.{Answers, AnswersThen, Came, Connection, HasPushed, HasStepped, IsLost, Passed, TurnsOn, Went}
use Rattle.pg_backend.specs.Carried.{IsCarriedOn, all_received, all_replied, last_reply, received, replied}

-- nothing was pushed or put out
stays : (h : History) (b : BackendState) → IsHistoryOf h b → IsCarriedOn h [] [] b
stays h b r = record { history = h; is_its_own = r; pushed = sym (append-nil h.pushed); sent = sym (append-nil h.sent) }

-- more was pushed and put out later
later_then : (h : History) (xs xs' ys ys' : List ℕ) (mid new : BackendState) (k : IsCarriedOn h xs ys mid) → IsCarriedOn k.history xs' ys' new → IsCarriedOn h (xs ++ xs') (ys ++ ys') new
later_then h xs xs' ys ys' mid new k n = record {
  history = n.history;
  is_its_own = n.is_its_own;
  pushed = n.pushed ∙ ap (λ (bytes : List ℕ). bytes ++ xs') k.pushed ∙ append_assoc h.pushed xs xs';
  sent = n.sent ∙ ap (λ (bytes : List ℕ). bytes ++ ys') k.sent ∙ append_assoc h.sent ys ys';
}

-- this was put out, by a history that goes on so
put_out : (h new_history : History) (added reply : List ℕ) (new : BackendState) → IsHistoryOf new_history new → new_history.pushed ≡ h.pushed → new_history.sent ≡ h.sent ++ added → reply ≡ added → IsCarriedOn h [] reply new
put_out h new_history added reply new r same sent is = record {
  history = new_history;
  is_its_own = r;
  pushed = same ∙ sym (append-nil h.pushed);
  sent = sent ∙ ap (λ (l : List ℕ). h.sent ++ l) (sym is);
}

-- nothing was put out
put_none : (h : History) (reply : List ℕ) (new : BackendState) → IsHistoryOf h new → reply ≡ [] → IsCarriedOn h [] reply new
put_none h reply new r none = subst (λ (l : List ℕ). IsCarriedOn h [] l new) (sym none) (stays h new r)

-- a step, by what it has handled
stepped_from : (h : History) (old : BackendState) (answer : Result Bool BackendFault) (reply : List ℕ) (new : BackendState) → HasStepped old answer reply new → (added : List ℕ) → reply ≡ added → Handles h added old answer new → IsCarriedOn h [] reply new
stepped_from h old (Ok true) reply new s added is k = put_out h (with_handled k.0 k.1 added h) added reply new k.4 refl refl is
stepped_from h old (Ok false) reply new s added is k = put_none h reply new k.1 s.step.2
stepped_from h old (Err (faults.Unexpected tag)) reply new s added is k = put_out h (with_handled (with_message k.0 h.input) k.1 added h) added reply new k.5 refl refl is
stepped_from h old (Err (faults.Wire f)) reply new s added is k = put_out h (with_handled (with_fault h.input) h.rest added h) added reply new k.1 refl refl is
stepped_from h old (Err faults.Memory) reply new s added is k = put_none h reply new k s.step.2
stepped_from h old (Err faults.Closed) reply new s added is k = put_none h reply new k s.step.2

-- a step was made
stepped : (h : History) (old : BackendState) (answer : Result Bool BackendFault) (reply : List ℕ) (new : BackendState) → IsHistoryOf h old → HasStepped old answer reply new → IsCarriedOn h [] reply new
stepped h old answer reply new r s =
    let from : StepsFrom h old [] answer new reply = s.history h r in
    stepped_from h old answer reply new s from.0 from.1 from.2

-- a piece was pushed
taken : (h : History) (old : BackendState) (piece : List ℕ) (new : BackendState) → IsHistoryOf h old → HasPushed old piece (Ok tt) new → IsCarriedOn h piece [] new
taken h old piece new r p = record { history = _; is_its_own = p.history h r; pushed = refl; sent = sym (append-nil h.sent) }

-- a piece was refused
refused : (h : History) (old : BackendState) (piece : List ℕ) (f : BackendFault) (new : BackendState) → IsHistoryOf h old → HasPushed old piece (Err f) new → IsHistoryOf h new
refused h old piece faults.Memory new r p = subst (λ (b : BackendState). IsHistoryOf h b) (sym p.push.2) r
refused h old piece faults.Closed new r p = subst (λ (b : BackendState). IsHistoryOf h b) (sym p.push.1) r
refused h old piece (faults.Wire f) new r p = absurd p.push
refused h old piece (faults.Unexpected tag) new r p = absurd p.push

-- the backend was told that the connection is gone
lost_then : (h : History) (xs ys : List ℕ) (old new : BackendState) → IsLost old new → IsCarriedOn h xs ys old → IsCarriedOn h xs ys new
lost_then h xs ys old new l k = record { history = k.history; is_its_own = l.history k.history k.is_its_own; pushed = k.pushed; sent = k.sent }

module _ {L : Type 0} (gives takes : L → List ℕ → L → Type 0) (has_ended : L → Type 0) (receive_failures send_failures : L → ℕ) where
  -- turns that went on
  turns_go_on : (passed : List Passed) (old last : Connection L) (h : History) → IsHistoryOf h old.backend
      → FoldsTo (TurnsOn gives takes has_ended receive_failures send_failures) old passed last
      → IsCarriedOn h (received passed) (replied passed) last.backend
  turns_go_on [] old last h r e = subst (λ (c : Connection L). IsCarriedOn h [] [] c.backend) e (stays h old.backend r)
  turns_go_on (Came piece ∷ passed) old last h r f =
      let k : IsCarriedOn h piece [] f.0.backend = taken h old.backend piece f.0.backend r f.1.pushed in
      later_then h piece (received passed) [] (replied passed) f.0.backend last.backend k (turns_go_on passed f.0 last k.history k.is_its_own f.2)
  turns_go_on (Went reply ∷ passed) old last h r f =
      let k : IsCarriedOn h [] reply f.0.backend = stepped h old.backend (Ok true) reply f.0.backend r f.1.stepped in
      later_then h [] (received passed) reply (replied passed) f.0.backend last.backend k (turns_go_on passed f.0 last k.history k.is_its_own f.2)

  last_goes_on : (turns count : ℕ) (old : Connection L) (result : Result Answered AnswerFault) (new : Connection L) (h : History) → IsHistoryOf h old.backend
      → (a : AnswersThen gives takes has_ended receive_failures send_failures turns count old result new)
      → IsCarriedOn h [] (last_reply gives takes has_ended receive_failures send_failures turns count old result new a) new.backend
  last_goes_on turns count old (Ok answered.Closed) new h r a = subst (λ (c : Connection L). IsCarriedOn h [] [] c.backend) (sym a.1.1) (stays h old.backend r)
  last_goes_on turns count old (Ok answered.Lost) new h r a = lost_then h [] [] old.backend new.backend a.1.lost (stays h old.backend r)
  last_goes_on turns count old (Ok answered.TurnsUsed) new h r a = subst (λ (c : Connection L). IsCarriedOn h [] [] c.backend) (sym a.1) (stays h old.backend r)
  last_goes_on turns count old (Err (fault.Backend f)) new h r (less, inl broken) = stepped h old.backend (Err f) broken.reply new.backend r broken.stepped
  last_goes_on turns count old (Err (fault.Backend f)) new h r (less, inr refusing) =
      lost_then h [] [] refusing.backend new.backend refusing.lost (stays h refusing.backend (refused h old.backend refusing.piece f refusing.backend r refusing.pushed))
  last_goes_on turns count old (Err fault.Link) new h r (less, inl failed) = lost_then h [] [] old.backend new.backend failed.lost (stays h old.backend r)
  last_goes_on turns count old (Err fault.Link) new h r (less, inr failed) =
      lost_then h [] failed.reply failed.backend new.backend failed.lost (stepped h old.backend failed.answer failed.reply failed.backend r failed.stepped)

  -- a whole call
  pub carried_on : (turns : ℕ) (old : Connection L) (result : Result Answered AnswerFault) (new : Connection L) (h : History) → IsHistoryOf h old.backend
      → (did : Answers gives takes has_ended receive_failures send_failures turns old result new)
      → IsCarriedOn h (all_received gives takes has_ended receive_failures send_failures turns old result new did) (all_replied gives takes has_ended receive_failures send_failures turns old result new did) new.backend
  carried_on turns old result new h r did =
      let k : IsCarriedOn h (received did.passed) (replied did.passed) did.last.backend = turns_go_on did.passed old did.last h r did.went_on in
      let put : List ℕ = last_reply gives takes has_ended receive_failures send_failures turns (length did.passed) did.last result new did.answered in
      let n : IsCarriedOn k.history [] put new.backend = last_goes_on turns (length did.passed) did.last result new k.history k.is_its_own did.answered in
      subst (λ (bytes : List ℕ). IsCarriedOn h bytes (replied did.passed ++ put) new.backend) (append-nil (received did.passed)) (later_then h (received did.passed) [] (replied did.passed) put did.last.backend new.backend k n)
