-- One message more, before and after the password: what is sent and logged for it, and where it leads.
use Rattle.std.proofs.Common.{◌≡◌, ℕ, Bool, true, false, List, [], ◌∷◌, ◌++◌, map, refl, ap, sym, ◌∙◌, append_assoc}
use Rattle.std.specs.Str.{bytes_eq}
use Rattle.std.proofs.lemmas.List.{append-nil, map-append}
use Rattle.pg_wire.specs.message.First.{First}
use Rattle.pg_wire.specs.message.FrontMessage.{FrontMessage}
use Rattle.pg_wire.specs.message.FrontMessage.TheVariants as front
use Rattle.pg_wire.specs.Frontend.{frontend}
use Rattle.pg_backend.specs.declared.phase.BackPhase.TheVariants as phase
use Rattle.pg_backend.specs.declared.script.Answer.{Answer}
use Rattle.pg_backend.specs.declared.script.Script.{Script}
use Rattle.pg_backend.specs.declared.stage.Awaits.{Awaits}
use Rattle.pg_backend.specs.declared.stage.Awaits.TheVariants as awaits
use Rattle.pg_backend.specs.declared.stage.Next.{Next}
use Rattle.pg_backend.specs.declared.stage.Next.TheVariants as next
use Rattle.pg_backend.specs.Session.{Terminated, Stray, replies}
use Rattle.pg_backend.specs.Opening.{Says, welcome, Admission, Refused, Stopped, Admitted, by_password, admission_messages, sent_for}
use Rattle.pg_backend.specs.OwnError.{wrong_password}
use Rattle.pg_backend.specs.Input.{admission_log, packets_log, Refusal, At, admission_end, packets_end, end_phase}
use Rattle.pg_backend.specs.Awaited.{SessionAwaits, IsAsked, LetIn, AwaitsAt}
use Rattle.pg_backend.specs.Stage.{awaited_end}
use Rattle.pg_backend.specs.Private.Moves.{Move, strays, entered, entering, move}
use Rattle.pg_backend.proofs.Definitions.ReadOn.{starts}
use Rattle.pg_backend.proofs.Machine.MessageMoves.{NextStands, moved, stands_at}

-- Where the messages lead, of which the last has this tag.
abbrev pub NextAt : Script → List First → List FrontMessage → ℕ → List Answer → Next → Type 0
NextAt s ps ms tag left (next.Goes a) = AwaitsAt s left ps ms a
NextAt s ps ms tag left next.Ends = (end_phase (packets_end s ps ms) ≡ phase.Closed) × (packets_end s ps ms ≡ At Stray → ⊥)
NextAt s ps ms tag left (next.Strays t) = (packets_end s ps ms ≡ At Stray) × (t ≡ tag)

-- What is sent and logged for the message, and where it leads.
pub record Led (s : Script) (ps : List First) (ms : List FrontMessage) (m : FrontMessage) (v : Move) : Type 0 where
  pub sends : sent_for s ps (ms ++ m ∷ []) ≡ sent_for s ps ms ++ map Says v.sent
  pub logs : packets_log s ps (ms ++ m ∷ []) ≡ packets_log s ps ms ++ v.logged
  pub leads : NextAt s ps (ms ++ m ∷ []) (frontend.tag m) v.left v.next

no_stray : At Terminated ≡ At Stray → ⊥
no_stray e = cc

-- ---- where a password is awaited

-- the first message, which comes to this
asked_led : (s : Script) (ps : List First) (expected : List ℕ) (m : FrontMessage) (v : Move) (a : Admission) → IsAsked s ps expected → by_password expected (m ∷ []) ≡ a
    → v.sent ≡ admission_messages s a → v.logged ≡ admission_log s a → NextAt s ps (m ∷ []) (frontend.tag m) v.left v.next → Led s ps [] m v
asked_led s ps expected m v a k is sent logged leads = record {
  sends = k.sends (m ∷ []) ∙ ap (λ x. k.before ++ map Says (admission_messages s x)) is ∙ ap (λ l. k.before ++ map Says l) (sym sent)
      ∙ ap (λ l. l ++ map Says v.sent) (sym (k.sends [] ∙ append-nil k.before));
  logs = k.logs (m ∷ []) ∙ ap (admission_log s) is ∙ sym logged ∙ ap (λ l. l ++ v.logged) (sym (k.logs []));
  leads = leads;
}

asked_end : (s : Script) (ps : List First) (expected : List ℕ) (m : FrontMessage) (a : Admission) → IsAsked s ps expected → by_password expected (m ∷ []) ≡ a → packets_end s ps (m ∷ []) ≡ admission_end s a
asked_end s ps expected m a k is = k.ends (m ∷ []) ∙ ap (admission_end s) is

-- after the right password all is the session's
enters : (s : Script) (ps : List First) (expected password : List ℕ) → IsAsked s ps expected → bytes_eq password expected ≡ true → LetIn s ps (front.Password password ∷ [])
enters s ps expected password k same = record {
  before = k.before ++ map Says (welcome s);
  sends = λ ms. k.sends (front.Password password ∷ ms) ∙ ap (λ a. k.before ++ map Says (admission_messages s a)) (admits ms)
      ∙ ap (λ l. k.before ++ l) (map-append Says (welcome s) (replies s.answers ms)) ∙ sym (append_assoc k.before (map Says (welcome s)) (map Says (replies s.answers ms)));
  logs = λ ms. k.logs (front.Password password ∷ ms) ∙ ap (admission_log s) (admits ms);
  ends = λ ms. k.ends (front.Password password ∷ ms) ∙ ap (admission_end s) (admits ms);
}
  where
    admits : (ms : List FrontMessage) → by_password expected (front.Password password ∷ ms) ≡ Admitted ms
    admits ms = rw same refl

password_led : (s : Script) (left : List Answer) (ps : List First) (expected password : List ℕ) (same : Bool) → bytes_eq password expected ≡ same → IsAsked s ps expected → left ≡ s.answers
    → Led s ps [] (front.Password password) (entered s left same)
password_led s left ps expected password true is k all =
    asked_led s ps expected (front.Password password) (entered s left true) (Admitted []) k (rw is refl) (sym (append-nil (welcome s))) refl
    (front.Password password ∷ [], [], refl, enters s ps expected password k is, ([], rw all (starts s.answers)))
password_led s left ps expected password false is k all =
    let refused : by_password expected (front.Password password ∷ []) ≡ Refused wrong_password = rw is refl in
    let end : packets_end s ps (front.Password password ∷ []) ≡ Refusal = asked_end s ps expected (front.Password password) (Refused wrong_password) k refused in
    asked_led s ps expected (front.Password password) (entered s left false) (Refused wrong_password) k refused refl refl
    (ap end_phase end, λ stray. no_refusal (sym end ∙ stray))
  where
    no_refusal : Refusal ≡ At Stray → ⊥
    no_refusal e = cc

stray_led : (s : Script) (left : List Answer) (ps : List First) (expected : List ℕ) (m : FrontMessage) → by_password expected (m ∷ []) ≡ Stopped Stray → entering s left expected m ≡ strays left (frontend.tag m)
    → IsAsked s ps expected → Led s ps [] m (entering s left expected m)
stray_led s left ps expected m is same k =
    rw same (asked_led s ps expected m (strays left (frontend.tag m)) (Stopped Stray) k is refl refl (asked_end s ps expected m (Stopped Stray) k is, refl))

entering_led : (s : Script) (left : List Answer) (ps : List First) (expected : List ℕ) (m : FrontMessage) → IsAsked s ps expected → left ≡ s.answers → Led s ps [] m (entering s left expected m)
entering_led s left ps expected (front.Password password) k all = password_led s left ps expected password (bytes_eq password expected) refl k all
entering_led s left ps expected front.Terminate k all =
    let end : packets_end s ps (front.Terminate ∷ []) ≡ At Terminated = asked_end s ps expected front.Terminate (Stopped Terminated) k refl in
    asked_led s ps expected front.Terminate (entering s left expected front.Terminate) (Stopped Terminated) k refl refl refl
    (ap end_phase end, λ stray. no_stray (sym end ∙ stray))
entering_led s left ps expected m k all = stray_led s left ps expected m refl refl k

-- ---- in the session

next_at : (s : Script) (ps : List First) (by since ms : List FrontMessage) (tag : ℕ) (left : List Answer) (n : Next) → ms ≡ by ++ since → LetIn s ps by → NextStands s.answers since tag left n → NextAt s ps ms tag left n
next_at s ps by since ms tag left (next.Goes (awaits.Password expected)) is l h = absurd h
next_at s ps by since ms tag left (next.Goes (awaits.Request steps)) is l h = (by, since, is, l, h)
next_at s ps by since ms tag left (next.Goes (awaits.Data c)) is l h = (by, since, is, l, h)
next_at s ps by since ms tag left next.Ends is l h =
    let end : packets_end s ps ms ≡ At Terminated = ap (packets_end s ps) is ∙ l.ends since ∙ ap At h in
    (ap end_phase end, λ stray. no_stray (sym end ∙ stray))
next_at s ps by since ms tag left (next.Strays t) is l h = (ap (packets_end s ps) is ∙ l.ends since ∙ ap At h.0, h.1)

session_led : (s : Script) (left : List Answer) (ps : List First) (by since ms : List FrontMessage) (m : FrontMessage) (a : Awaits) → ms ≡ by ++ since → LetIn s ps by → SessionAwaits s.answers since left a
    → Led s ps ms m (move s left a m)
session_led s left ps by since ms m a is l h =
    let v = move s left a m in
    let mv = moved s s.answers since m left a h in
    let more : ms ++ m ∷ [] ≡ by ++ (since ++ m ∷ []) = ap (λ x. x ++ m ∷ []) is ∙ append_assoc by since (m ∷ []) in
    record {
      sends = ap (sent_for s ps) more ∙ l.sends (since ++ m ∷ []) ∙ ap (λ x. l.before ++ map Says x) mv.grows.replies_are ∙ ap (λ x. l.before ++ x) (map-append Says (replies s.answers since) v.sent)
          ∙ sym (append_assoc l.before (map Says (replies s.answers since)) (map Says v.sent)) ∙ ap (λ x. x ++ map Says v.sent) (sym (ap (sent_for s ps) is ∙ l.sends since));
      logs = ap (packets_log s ps) more ∙ l.logs (since ++ m ∷ []) ∙ mv.grows.log_is ∙ ap (λ x. x ++ v.logged) (sym (ap (packets_log s ps) is ∙ l.logs since));
      leads = next_at s ps by (since ++ m ∷ []) (ms ++ m ∷ []) (frontend.tag m) v.left v.next more l mv.stands;
    }

-- ---- both

pub led : (s : Script) (left : List Answer) (ps : List First) (ms : List FrontMessage) (m : FrontMessage) (a : Awaits) → AwaitsAt s left ps ms a → Led s ps ms m (move s left a m)
led s left ps ms m (awaits.Password expected) h = rw h.1 (entering_led s left ps expected m h.0 h.2)
led s left ps ms m (awaits.Request steps) h = session_led s left ps h.0 h.1 ms m (awaits.Request steps) h.2 h.3 h.4
led s left ps ms m (awaits.Data c) h = session_led s left ps h.0 h.1 ms m (awaits.Data c) h.2 h.3 h.4

-- where the messages end
pub awaits_end : (s : Script) (left : List Answer) (ps : List First) (ms : List FrontMessage) (a : Awaits) → AwaitsAt s left ps ms a → packets_end s ps ms ≡ awaited_end a
awaits_end s left ps ms (awaits.Password expected) h = ap (packets_end s ps) h.1 ∙ h.0.ends []
awaits_end s left ps ms (awaits.Request steps) h = ap (packets_end s ps) h.2 ∙ h.3.ends h.1 ∙ stands_at s.answers h.1 left (awaits.Request steps) h.4
awaits_end s left ps ms (awaits.Data c) h = ap (packets_end s ps) h.2 ∙ h.3.ends h.1 ∙ stands_at s.answers h.1 left (awaits.Data c) h.4

pub awaits_no_stray : (w : Awaits) → awaited_end w ≡ At Stray → ⊥
awaits_no_stray (awaits.Password expected) e = cc
awaits_no_stray (awaits.Request []) e = cc
awaits_no_stray (awaits.Request (x ∷ xs)) e = cc
awaits_no_stray (awaits.Data c) e = cc
