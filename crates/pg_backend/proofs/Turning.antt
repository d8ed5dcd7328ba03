-- Turns, one after the other, and what is answered then.
use Rattle.std.proofs.Common.{◌≡◌, ℕ, ◌+◌, ◌<◌, List, [], ◌∷◌, ◌++◌, length, Option, Some, None, Result, Ok, refl, sym, subst, length-append, arith}
use Rattle.std.specs.List.{FoldsTo}
use Rattle.std.proofs.lemmas.Fn.{FoldsTo-push}
use Rattle.pg_backend.specs.declared.answered.AnswerFault.{AnswerFault}
use Rattle.pg_backend.specs.declared.answered.Answered.{Answered}
use Rattle.pg_backend.specs.declared.answered.Answered.TheVariants as answered
use Rattle.pg_backend.specs.OverLink.{Answers, AnswersThen, Connection, LastTurn, Passed, TurnsOn}
use Rattle.pg_backend.specs.Private.Turning.{TakesTurn}

module _ {L : Type 0} (gives takes : L → List ℕ → L → Type 0) (has_ended : L → Type 0) (receive_failures send_failures : L → ℕ) where
  -- So many turns went on.
  pub record WentOn (start : Connection L) (count : ℕ) (now : Connection L) : Type 0 where
    pub passed : List Passed
    pub turns : FoldsTo (TurnsOn gives takes has_ended receive_failures send_failures) start passed now
    pub counted : length passed ≡ count

  pub went_none : (now : Connection L) → WentOn now 0 now
  went_none now = record { passed = []; turns = refl; counted = refl }

  -- one turn more went on
  pub went_more : (start : Connection L) (count : ℕ) (mid : Connection L) (took : Option Answered) (now : Connection L) → WentOn start count mid → took ≡ None
      → TakesTurn gives takes has_ended receive_failures send_failures mid (Ok took) now → WentOn start (count + 1) now
  went_more start count mid took now w none t =
      let on : TakesTurn gives takes has_ended receive_failures send_failures mid (Ok None) now = subst (λ (o : Option Answered). TakesTurn gives takes has_ended receive_failures send_failures mid (Ok o) now) none t in
      record {
        passed = w.passed ++ on.0 ∷ [];
        turns = FoldsTo-push (TurnsOn gives takes has_ended receive_failures send_failures) start w.passed mid on.0 now w.turns on.1;
        counted = omega (arith, length-append w.passed (on.0 ∷ []), w.counted);
      }

  answers : (turns count : ℕ) (old : Connection L) (answer : Answered) (new : Connection L) → count < turns → LastTurn gives takes has_ended receive_failures send_failures old (Ok answer) new
      → AnswersThen gives takes has_ended receive_failures send_failures turns count old (Ok answer) new
  answers turns count old answered.Closed new less t = (less, t)
  answers turns count old answered.Lost new less t = (less, t)
  answers turns count old answered.TurnsUsed new less t = absurd t

  -- this was answered in one more turn
  pub answers_in_turn : (turns count : ℕ) (old : Connection L) (took : Option Answered) (answer : Answered) (new : Connection L) → count < turns → took ≡ Some answer
      → TakesTurn gives takes has_ended receive_failures send_failures old (Ok took) new → AnswersThen gives takes has_ended receive_failures send_failures turns count old (Ok answer) new
  answers_in_turn turns count old took answer new less some t =
      answers turns count old answer new less (subst (λ (o : Option Answered). TakesTurn gives takes has_ended receive_failures send_failures old (Ok o) new) some t)

  -- so many turns went on, and this was answered then
  pub answers_so : (turns count : ℕ) (old last : Connection L) (result : Result Answered AnswerFault) (new : Connection L) → WentOn old count last → AnswersThen gives takes has_ended receive_failures send_failures turns count last result new
      → Answers gives takes has_ended receive_failures send_failures turns old result new
  answers_so turns count old last result new w a = record {
    passed = w.passed;
    last = last;
    went_on = w.turns;
    answered = subst (λ (n : ℕ). AnswersThen gives takes has_ended receive_failures send_failures turns n last result new) (sym w.counted) a;
  }
