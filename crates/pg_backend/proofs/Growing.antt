-- How a backend's log grows as it answers.
use Rattle.std.proofs.Common.{◌≡◌, ℕ, List, [], ◌∷◌, ◌++◌, length, Bool, true, false, Result, Ok, Err, inl, inr, sym, ap, ◌∙◌, append-nil, append_assoc}
use Rattle.std.specs.List.{FoldsTo}
use Rattle.pg_backend.specs.declared.fault.BackendFault.{BackendFault}
use Rattle.pg_backend.specs.declared.fault.BackendFault.TheVariants as faults
use Rattle.pg_backend.specs.Backend.{Steps, Stores}
use Rattle.pg_backend.specs.Lists.{IsPrefix}
use Rattle.pg_backend.specs.Stage.{BackendState}
use Rattle.pg_backend.specs.declared.answered.AnswerFault.{AnswerFault}
use Rattle.pg_backend.specs.declared.answered.AnswerFault.TheVariants as fault
use Rattle.pg_backend.specs.declared.answered.Answered.{Answered}
use Rattle.pg_backend.specs.declared.answered.Answered.TheVariants as answered
use Rattle.pg_backend.specs.OverLink.{Answers, AnswersThen, Came, Connection, IsLost, Passed, TurnsOn, Went}

abbrev Grows : BackendState → BackendState → Type 0
Grows old new = IsPrefix old.log new.log

same : (old new : BackendState) → new.log ≡ old.log → Grows old new
same old new e = ([], e ∙ sym (append-nil old.log))

same_backend : (old new : BackendState) → new ≡ old → Grows old new
same_backend old new e = same old new (ap (λ (b : BackendState). b.log) e)

then : (old mid new : BackendState) → Grows old mid → Grows mid new → Grows old new
then old mid new p q = (p.0 ++ q.0, q.1 ∙ ap (λ l. l ++ q.0) p.1 ∙ append_assoc old.log p.0 q.0)

stepped : (old : BackendState) (answer : Result Bool BackendFault) (reply : List ℕ) (new : BackendState) → Steps old [] answer new reply → Grows old new
stepped old (Ok true) reply new s = s.2
stepped old (Ok false) reply new s = same_backend old new s.1
stepped old (Err (faults.Unexpected tag)) reply new s = same old new s.3
stepped old (Err (faults.Wire f)) reply new s = same old new (ap (λ (b : BackendState). b.log) s.1)
stepped old (Err faults.Memory) reply new s = same old new (ap (λ (b : BackendState). b.log) s.1)
stepped old (Err faults.Closed) reply new s = same_backend old new s.1

pushed : (old : BackendState) (piece : List ℕ) (answer : Result Unit BackendFault) (new : BackendState) → Stores old piece answer new → Grows old new
pushed old piece (Ok x) new s = same old new (ap (λ (b : BackendState). b.log) s.1)
pushed old piece (Err faults.Memory) new s = same_backend old new s.2
pushed old piece (Err faults.Closed) new s = same_backend old new s.1
pushed old piece (Err (faults.Wire f)) new s = absurd s
pushed old piece (Err (faults.Unexpected tag)) new s = absurd s

lost : (old new : BackendState) → IsLost old new → Grows old new
lost old new l = same old new (ap (λ (b : BackendState). b.log) l.lost)

module _ {L : Type 0} (gives takes : L → List ℕ → L → Type 0) (has_ended : L → Type 0) (receive_failures send_failures : L → ℕ) where
  in_turns : (passed : List Passed) (old last : Connection L) → FoldsTo (TurnsOn gives takes has_ended receive_failures send_failures) old passed last → Grows old.backend last.backend
  in_turns [] old last e = same old.backend last.backend (ap (λ (c : Connection L). c.backend.log) (sym e))
  in_turns (Came piece ∷ passed) old last f = then old.backend f.0.backend last.backend (pushed old.backend piece (Ok tt) f.0.backend f.1.pushed.push) (in_turns passed f.0 last f.2)
  in_turns (Went reply ∷ passed) old last f = then old.backend f.0.backend last.backend (stepped old.backend (Ok true) reply f.0.backend f.1.stepped.step) (in_turns passed f.0 last f.2)

  in_last : (turns count : ℕ) (old : Connection L) (result : Result Answered AnswerFault) (new : Connection L) → AnswersThen gives takes has_ended receive_failures send_failures turns count old result new → Grows old.backend new.backend
  in_last turns count old (Ok answered.Closed) new a = same old.backend new.backend (ap (λ (c : Connection L). c.backend.log) a.1.1)
  in_last turns count old (Ok answered.Lost) new a = lost old.backend new.backend a.1.lost
  in_last turns count old (Ok answered.TurnsUsed) new a = same old.backend new.backend (ap (λ (c : Connection L). c.backend.log) a.1)
  in_last turns count old (Err (fault.Backend f)) new (less, inl broken) = stepped old.backend (Err f) broken.reply new.backend broken.stepped.step
  in_last turns count old (Err (fault.Backend f)) new (less, inr refusing) =
      then old.backend refusing.backend new.backend (pushed old.backend refusing.piece (Err f) refusing.backend refusing.pushed.push) (lost refusing.backend new.backend refusing.lost)
  in_last turns count old (Err fault.Link) new (less, inl failed) = lost old.backend new.backend failed.lost
  in_last turns count old (Err fault.Link) new (less, inr failed) =
      then old.backend failed.backend new.backend (stepped old.backend failed.answer failed.reply failed.backend failed.stepped.step) (lost failed.backend new.backend failed.lost)

  -- a whole call
  pub log_grows : (turns : ℕ) (old : Connection L) (result : Result Answered AnswerFault) (new : Connection L) → Answers gives takes has_ended receive_failures send_failures turns old result new → IsPrefix old.backend.log new.backend.log
  log_grows turns old result new did =
      then old.backend did.last.backend new.backend (in_turns did.passed old did.last did.went_on) (in_last turns (length did.passed) did.last result new did.answered)
