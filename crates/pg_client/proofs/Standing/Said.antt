-- What the client keeps of the calls for a copy in, and what was called for it.
use Rattle.std.proofs.Common.{◌≡◌, ℕ, ◌≤◌, List, length, refl, IsSome}
use Rattle.std.specs.Prelude.{◌⊎◌}
use Rattle.pg_wire.specs.message.BackMessage.{BackMessage}
use Rattle.pg_wire.specs.message.BackMessage.TheVariants.{CommandComplete}
use Rattle.pg_wire.specs.declared.session.Request.{Request}
use Rattle.pg_wire.specs.Segment.{aside_of}
use Rattle.pg_client.specs.declared.stand.CopyAnswer.{CopyAnswer}
use Rattle.pg_client.specs.declared.stand.CopyAnswer.TheVariants.{Awaited, Done, Refused}
use Rattle.pg_client.specs.declared.call.Call.TheVariants as call
use Rattle.pg_client.specs.Session.{Happening, requests_in, whole_in, rest_in, EndInCopyIn, IsStarted, IsCalledForLastCopy, IsAfterItsCall, IsCopyingIn}
use Rattle.pg_client.specs.Stand.{copy_answer}

-- The message comes after the call that it needs, with these requests and segments before it, and this kept of the last copy in.
pub record MayStand (requests : List Request) (whole : List (List BackMessage)) (rest : List BackMessage) (said : CopyAnswer) (m : BackMessage) : Type 0 where
  pub asked_for : IsSome (aside_of m) ⊎ (length whole ≤ length requests)
  pub copy_ended : (tag : List ℕ) → m ≡ CommandComplete tag → EndInCopyIn rest → said ≡ Done

-- A copy in is open, and nothing is kept of a call for it.
abbrev pub IsCopyAwaited : List Happening → Type 0
IsCopyAwaited hs = EndInCopyIn (rest_in hs) × (copy_answer hs ≡ Awaited)

-- what was called, by what is kept
abbrev pub Says : CopyAnswer → List Happening → Type 0
Says Awaited hs = (IsCalledForLastCopy call.Done hs → ⊥) × ((reason : List ℕ) → IsCalledForLastCopy (call.Fail reason) hs → ⊥)
Says Done hs = IsCalledForLastCopy call.Done hs
Says Refused hs = (IsCalledForLastCopy call.Done hs → ⊥) × (reason : List ℕ) × IsCalledForLastCopy (call.Fail reason) hs

-- While a copy in is open, what is kept is what was called.
abbrev pub AnswerIsSaid : List Happening → Type 0
AnswerIsSaid hs = EndInCopyIn (rest_in hs) → Says (copy_answer hs) hs

done_said : (hs : List Happening) (answer : CopyAnswer) → Says answer hs → answer ≡ Done → IsCalledForLastCopy call.Done hs
done_said hs Done s e = s
done_said hs Awaited s e = absurd cc
done_said hs Refused s e = absurd cc

said_done : (hs : List Happening) (answer : CopyAnswer) → Says answer hs → IsCalledForLastCopy call.Done hs → answer ≡ Done
said_done hs Done s k = refl
said_done hs Awaited s k = absurd (s.0 k)
said_done hs Refused s k = absurd (s.0 k)

unsaid : (hs : List Happening) (answer : CopyAnswer) → Says answer hs → answer ≡ Awaited → (IsCalledForLastCopy call.Done hs → ⊥) × ((reason : List ℕ) → IsCalledForLastCopy (call.Fail reason) hs → ⊥)
unsaid hs Awaited s e = s
unsaid hs Done s e = absurd cc
unsaid hs Refused s e = absurd cc

awaited : (hs : List Happening) (answer : CopyAnswer) → Says answer hs → (IsCalledForLastCopy call.Done hs → ⊥) → ((reason : List ℕ) → IsCalledForLastCopy (call.Fail reason) hs → ⊥) → answer ≡ Awaited
awaited hs Awaited s done failed = refl
awaited hs Done s done failed = absurd (done s)
awaited hs Refused s done failed = absurd (failed s.1 s.2)

module _ (hs : List Happening) (same : AnswerIsSaid hs) where
  pub after_its_call : (m : BackMessage) → IsStarted hs → MayStand (requests_in hs) (whole_in hs) (rest_in hs) (copy_answer hs) m → IsAfterItsCall hs m
  after_its_call m s may = record {
    started = s;
    asked_for = may.asked_for;
    copy_ended = λ tag e ends. done_said hs (copy_answer hs) (same ends) (may.copy_ended tag e ends);
  }

  pub may_stand : (m : BackMessage) → IsAfterItsCall hs m → MayStand (requests_in hs) (whole_in hs) (rest_in hs) (copy_answer hs) m
  may_stand m after = record {
    asked_for = after.asked_for;
    copy_ended = λ tag e ends. said_done hs (copy_answer hs) (same ends) (after.copy_ended tag e ends);
  }

  pub copying_in : IsCopyAwaited hs → IsCopyingIn hs
  copying_in k = let u = unsaid hs (copy_answer hs) (same k.0) k.1 in (k.0, u.0, u.1)

  pub copy_awaited : IsCopyingIn hs → IsCopyAwaited hs
  copy_awaited k = (k.0, awaited hs (copy_answer hs) (same k.0) k.1 k.2)
