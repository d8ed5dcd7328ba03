-- What becomes of a backend's history as it answers.
use Rattle.std.specs.Prelude.{◌≡◌, ℕ, List, [], ◌∷◌, ◌++◌, length, Result, Ok, Err}
use mathlib.Core.Logic.{inl, inr}
use Rattle.pg_backend.specs.History.{History, IsHistoryOf}
use Rattle.pg_backend.specs.Stage.{BackendState}
use Rattle.pg_backend.specs.declared.answered.AnswerFault.{AnswerFault}
use Rattle.pg_backend.specs.declared.answered.AnswerFault.TheVariants as fault
use Rattle.pg_backend.specs.declared.answered.Answered.{Answered}
use Rattle.pg_backend.specs.OverLink.{Answers, AnswersThen, Came, Connection, Passed, Went}

-- What a history becomes as its backend answers: the backend has a history in which this piece was
-- pushed after all before, and this reply was put out after all before.
pub record IsCarriedOn (past : History) (piece reply : List ℕ) (new : BackendState) : Type 0 where
  pub history : History
  pub is_its_own : IsHistoryOf history new
  pub pushed : history.pushed ≡ past.pushed ++ piece
  pub sent : history.sent ≡ past.sent ++ reply

-- the bytes that came from the client in these turns
abbrev pub received : List Passed → List ℕ
received [] = []
received (Came piece ∷ turns) = piece ++ received turns
received (Went reply ∷ turns) = received turns

-- the bytes that went to the client in these turns
abbrev pub replied : List Passed → List ℕ
replied [] = []
replied (Came piece ∷ turns) = replied turns
replied (Went reply ∷ turns) = reply ++ replied turns

module _ {L : Type 0} (gives takes : L → List ℕ → L → Type 0) (has_ended : L → Type 0)
    (receive_failures send_failures : L → ℕ) where
  -- What the backend put out in the last turn: the reply to a message that it found faulty or that
  -- can't stand in its place, and that which couldn't be sent.
  abbrev pub last_reply : (turns count : ℕ) (old : Connection L)
      (result : Result Answered AnswerFault) (new : Connection L)
      → AnswersThen gives takes has_ended receive_failures send_failures turns count old result new
      → List ℕ
  last_reply turns count old (Ok answer) new a = []
  last_reply turns count old (Err (fault.Backend f)) new (less, inl broken) = broken.reply
  last_reply turns count old (Err (fault.Backend f)) new (less, inr refused) = []
  last_reply turns count old (Err fault.Link) new (less, inl failed) = []
  last_reply turns count old (Err fault.Link) new (less, inr failed) = failed.reply

  -- All that was received and pushed.
  abbrev pub all_received : (turns : ℕ) (old : Connection L) (result : Result Answered AnswerFault)
      (new : Connection L)
      → Answers gives takes has_ended receive_failures send_failures turns old result new → List ℕ
  all_received turns old result new did = received did.passed

  -- All that the backend put out.
  abbrev pub all_replied : (turns : ℕ) (old : Connection L) (result : Result Answered AnswerFault)
      (new : Connection L)
      → Answers gives takes has_ended receive_failures send_failures turns old result new → List ℕ
  all_replied turns old result new did = replied did.passed
      ++ last_reply turns (length did.passed) did.last result new did.answered
