-- Turns of an early client, and what is answered after them.
use Rattle.std.proofs.Common.{◌≡◌, ℕ, ◌+◌, ◌<◌, ◌≤◌, List, [], Option, Some, None, Result, Ok, Err, refl, inr, subst}
use Rattle.pg_client.specs.declared.phase.Phase.{Phase}
use Rattle.pg_client.specs.declared.settled.Loss.{Loss}
use Rattle.pg_client.specs.View.{EarlyView, phase_of}
use Rattle.pg_drive.specs.declared.answer.DriveFault.{DriveFault}
use Rattle.pg_drive.specs.declared.answer.DrivenEarly.{DrivenEarly}
use Rattle.pg_drive.specs.declared.answer.DrivenEarly.TheVariants as driven
use Rattle.pg_drive.specs.Drive.{connected}
use Rattle.pg_drive.specs.Early.{DrivesEarly, EarlyAnswers, LinkedEarly, EarlyTurnsOn, Finds, Looks, LooksAt, early_kind}
use Rattle.pg_drive.specs.Private.Turning.{Receives}
use Rattle.pg_wire.specs.Sending.{Sends}
use Rattle.pg_drive.proofs.Turning.{WentOn, takes_turns_so, went_one_more}

-- a look that found nothing left the client as it was
stayed : (began now : Phase) (old new : EarlyView) → Finds began now old None new → new ≡ old
stayed began now old new finds = finds.3

looked_same : (began : Phase) (old new : EarlyView) → Looks began old None new → new ≡ old
looked_same began old new k = stayed began (phase_of old) old new k

module _ {L : Type 0} where
  -- what a look found
  pub look_at : (began : Phase) (link : L) (old : EarlyView) (out : List ℕ) (found : Option DrivenEarly) (new : EarlyView) → Looks began old found new → LooksAt began (connected link old out) found (connected link new out)
  look_at began link old out found new k = record { looks = k; link = refl; out = refl }

module _ {L : Type 0} (gives takes : L → List ℕ → L → Type 0) (has_ended : L → Type 0) (receive_failures send_failures : L → ℕ) where
  -- What a look found nothing before, and what was received then.
  pub record FoundNone (began : Phase) (link : L) (client : EarlyView) (out : List ℕ) (result : Result (Option Loss) DriveFault) (new : LinkedEarly L) : Type 0 where
    pub looks : Looks began client None client
    pub received : Receives early_kind gives takes has_ended receive_failures send_failures (connected link client out) result new

  pub found_none : (began : Phase) (link : L) (client : EarlyView) (out : List ℕ) (found : Option DrivenEarly) (mid : EarlyView) (result : Result (Option Loss) DriveFault) (new : LinkedEarly L) → found ≡ None → Looks began client found mid
      → Receives early_kind gives takes has_ended receive_failures send_failures (connected link mid out) result new → FoundNone began link client out result new
  found_none began link client out found mid result new none k r =
      let l : Looks began client None mid = subst (λ (o : Option DrivenEarly). Looks began client o mid) none k in
      let same : mid ≡ client = looked_same began client mid l in
      record {
        looks = subst (λ (v : EarlyView). Looks began client None v) same l;
        received = subst (λ (v : EarlyView). Receives early_kind gives takes has_ended receive_failures send_failures (connected link v out) result new) same r;
      }

  -- one turn more went on
  pub went_early : (began : Phase) (start : LinkedEarly L) (count : ℕ) (link : L) (client : EarlyView) (out : List ℕ) (took : Option Loss) (new : LinkedEarly L) → WentOn (EarlyTurnsOn gives takes has_ended receive_failures send_failures began) start count (connected link client out) → took ≡ None
      → FoundNone began link client out (Ok took) new → WentOn (EarlyTurnsOn gives takes has_ended receive_failures send_failures began) start (count + 1) new
  went_early began start count link client out took new w none f =
      let t : Receives early_kind gives takes has_ended receive_failures send_failures (connected link client out) (Ok None) new = subst (λ (o : Option Loss). Receives early_kind gives takes has_ended receive_failures send_failures (connected link client out) (Ok o) new) none f.received in
      went_one_more (EarlyTurnsOn gives takes has_ended receive_failures send_failures began) start count (connected link client out) t.0 new w (f.looks, t.1)

  -- the bytes have ended
  pub ends_early : (began : Phase) (turns count : ℕ) (link : L) (client : EarlyView) (out : List ℕ) (took : Option Loss) (loss : Loss) (new : LinkedEarly L) → count < turns → took ≡ Some loss
      → FoundNone began link client out (Ok took) new → EarlyAnswers gives takes has_ended receive_failures send_failures began turns count (connected link client out) (Ok (driven.Lost loss)) new
  ends_early began turns count link client out took loss new less some f =
      (less, f.looks, subst (λ (o : Option Loss). Receives early_kind gives takes has_ended receive_failures send_failures (connected link client out) (Ok o) new) some f.received)

  -- a fault was answered
  pub fails_early : (began : Phase) (turns count : ℕ) (link : L) (client : EarlyView) (out : List ℕ) (fault : DriveFault) (new : LinkedEarly L) → count < turns
      → FoundNone began link client out (Err fault) new → EarlyAnswers gives takes has_ended receive_failures send_failures began turns count (connected link client out) (Err fault) new
  fails_early began turns count link client out fault new less f = (less, f.looks, f.received)

  found : (began : Phase) (turns count : ℕ) (link : L) (client : EarlyView) (out : List ℕ) (answer : DrivenEarly) (new : EarlyView) → count ≤ turns → Looks began client (Some answer) new
      → EarlyAnswers gives takes has_ended receive_failures send_failures began turns count (connected link client out) (Ok answer) (connected link new out)
  found began turns count link client out driven.Ready new most k = (most, look_at began link client out (Some driven.Ready) new k)
  found began turns count link client out (driven.Item t) new most k = (most, look_at began link client out (Some (driven.Item t)) new k)
  found began turns count link client out driven.CopyIn new most k = (most, look_at began link client out (Some driven.CopyIn) new k)
  found began turns count link client out driven.TurnsUsed new most k = absurd k
  found began turns count link client out (driven.Lost loss) new most k = absurd k

  -- a look found this
  pub finds_early : (began : Phase) (turns count : ℕ) (link : L) (client : EarlyView) (out : List ℕ) (seen : Option DrivenEarly) (answer : DrivenEarly) (new : EarlyView) → count ≤ turns → seen ≡ Some answer → Looks began client seen new
      → EarlyAnswers gives takes has_ended receive_failures send_failures began turns count (connected link client out) (Ok answer) (connected link new out)
  finds_early began turns count link client out seen answer new most some k =
      found began turns count link client out answer new most (subst (λ (o : Option DrivenEarly). Looks began client o new) some k)

  -- the last look found nothing
  pub used_early : (began : Phase) (turns count : ℕ) (link : L) (client : EarlyView) (out : List ℕ) (seen : Option DrivenEarly) (new : EarlyView) → count ≡ turns → seen ≡ None → Looks began client seen new
      → EarlyAnswers gives takes has_ended receive_failures send_failures began turns count (connected link client out) (Ok driven.TurnsUsed) (connected link new out)
  used_early began turns count link client out seen new all none k =
      (all, look_at began link client out None new (subst (λ (o : Option DrivenEarly). Looks began client o new) none k))

  -- all was sent, so many turns went on, and this was answered then
  pub drives_early_so : (began : Phase) (turns count : ℕ) (old : LinkedEarly L) (begun : L) (last : LinkedEarly L) (result : Result DrivenEarly DriveFault) (new : LinkedEarly L) → began ≡ phase_of old.client → Sends takes send_failures old.link old.out begun
      → WentOn (EarlyTurnsOn gives takes has_ended receive_failures send_failures began) (connected begun old.client []) count last → EarlyAnswers gives takes has_ended receive_failures send_failures began turns count last result new
      → DrivesEarly gives takes has_ended receive_failures send_failures turns old result new
  drives_early_so began turns count old begun last result new e sent w a =
      let now : Phase = phase_of old.client in
      inr (takes_turns_so early_kind gives takes has_ended receive_failures send_failures (EarlyTurnsOn gives takes has_ended receive_failures send_failures now) (EarlyAnswers gives takes has_ended receive_failures send_failures now turns) count old begun last result new sent
      (subst (λ (p : Phase). WentOn (EarlyTurnsOn gives takes has_ended receive_failures send_failures p) (connected begun old.client []) count last) e w)
      (subst (λ (p : Phase). EarlyAnswers gives takes has_ended receive_failures send_failures p turns count last result new) e a))
