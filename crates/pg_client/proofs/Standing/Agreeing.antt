-- In a session whose calls were allowed, what the client keeps of the calls for an open copy in is what was called for it.
use Rattle.std.proofs.Common.{◌≡◌, ℕ, List, [], ◌∷◌, ◌++◌, Option, Some, None, refl, sym, ap, subst, ◌∙◌, append_assoc, inl, inr, arith}
use Rattle.std.specs.Prelude.{IsSome, ◌⊎◌}
use Rattle.std.specs.List.{AllByRecursion}
use Rattle.std.proofs.lemmas.List.{append_cancel_left}
use Rattle.pg_wire.specs.message.BackMessage.{BackMessage}
use Rattle.pg_wire.specs.message.BackMessage.TheVariants as back
use Rattle.pg_wire.specs.value.CopyHead.{CopyHead}
use Rattle.pg_wire.specs.value.Status.{Status}
use Rattle.pg_wire.specs.declared.session.Aside.{Aside}
use Rattle.pg_wire.specs.Segment.{aside_of, without_asides, Segments, status_of}
use Rattle.pg_client.specs.declared.stand.CopyAnswer.{CopyAnswer}
use Rattle.pg_client.specs.declared.stand.CopyAnswer.TheVariants.{Awaited, Done, Refused}
use Rattle.pg_client.specs.declared.call.Call.{Call}
use Rattle.pg_client.specs.declared.call.Call.TheVariants as call
use Rattle.pg_client.specs.Session.{Happening, Did, Came, whole_in, rest_in, EndInCopyIn, IsNoCopyIn, IsCalledForLastCopy, IsReady, IsCopyingIn, AreAllowed}
use Rattle.pg_client.specs.Stand.{copy_answer_after, copy_answer}
use Rattle.pg_client.proofs.Events.Beginnings.{segments_did, segments_came, AreAsked, AllAfter, after_begins, kept_aside, along, are_asked}
use Rattle.pg_client.proofs.Events.Happening.{copy_answer_from-more}
use Rattle.pg_client.proofs.Events.OneMessage.{put_after}
use Rattle.pg_response.proofs.Lists.{kept_with, front_splits, snoc_front, without_asides-append}
use Rattle.pg_client.proofs.Standing.Said.{Says, AnswerIsSaid}

-- ---- an open copy in

pub never_ends : (before : List BackMessage) (m : BackMessage) → [] ≡ before ++ m ∷ [] → ⊥
never_ends [] m e = cc
never_ends (x ∷ xs) m e = cc

pub no_copy_in : (rest : List BackMessage) → without_asides rest ≡ [] → EndInCopyIn rest → ⊥
no_copy_in rest none k = never_ends k.0 (back.CopyIn k.1) (sym none ∙ k.2)

pub aside_says_nothing : (m : BackMessage) (said : CopyAnswer) → IsSome (aside_of m) → copy_answer_after said (Came m) ≡ said
aside_says_nothing (back.CopyIn head) said aside = absurd (let k : IsSome {T = Aside} None = aside in cc)
aside_says_nothing _ said aside = refl

pub is_aside : (m : BackMessage) (a : Aside) → aside_of m ≡ Some a → IsSome (aside_of m)
is_aside m a e = subst (λ (x : Option Aside). IsSome x) (sym e) refl

pub not_ready : (before : List Happening) → AreAsked before → IsReady before → EndInCopyIn (rest_in before) → ⊥
not_ready before (inl le) ready k = omega (arith, le, ready)
not_ready before (inr p) ready k = no_copy_in (rest_in before) p.1 k

kept_other : (rest : List BackMessage) (m : BackMessage) → aside_of m ≡ None → without_asides (rest ++ m ∷ []) ≡ without_asides rest ++ m ∷ []
kept_other rest m e = without_asides-append rest (m ∷ []) ∙ ap (λ (o : Option Aside). without_asides rest ++ kept_with o m []) e

-- a message that is no aside, and where a copy in is open after it, begins one
pub copying_begun : (rest : List BackMessage) (m : BackMessage) → aside_of m ≡ None → (ends : EndInCopyIn (rest ++ m ∷ [])) → m ≡ back.CopyIn ends.1
copying_begun rest m e ends = (snoc_front (without_asides rest) ends.0 m (back.CopyIn ends.1) (sym (kept_other rest m e) ∙ ends.2)).1

-- a call changes nothing of the messages
did_ends : (before : List Happening) (c : Call) → EndInCopyIn (rest_in (before ++ Did c ∷ [])) → EndInCopyIn (rest_in before)
did_ends before c k = subst (λ (s : Segments). EndInCopyIn s.rest) (segments_did before c) k

-- ---- what was called, with one more happening

front_of : (zs : List Happening) (h : Happening) → AllByRecursion IsNoCopyIn (zs ++ h ∷ []) → AllByRecursion IsNoCopyIn zs × IsNoCopyIn h
front_of [] h all = (tt, all.0)
front_of (z ∷ zs) h all = let p = front_of zs h all.1 in ((all.0, p.0), p.1)

one_more : (zs : List Happening) (h : Happening) → AllByRecursion IsNoCopyIn zs → IsNoCopyIn h → AllByRecursion IsNoCopyIn (zs ++ h ∷ [])
one_more [] h all one = (one, tt)
one_more (z ∷ zs) h all one = (all.0, one_more zs h all.1 one)

said_now : (c : Call) (hs : List Happening) → IsCalledForLastCopy c (hs ++ Did c ∷ [])
said_now c hs = record { before = hs; since = []; called = refl; for_the_last = tt }

said_on : (c : Call) (hs : List Happening) (h : Happening) → IsNoCopyIn h → IsCalledForLastCopy c hs → IsCalledForLastCopy c (hs ++ h ∷ [])
said_on c hs h none s = record {
  before = s.before;
  since = s.since ++ h ∷ [];
  called = ap (λ (x : List Happening). x ++ h ∷ []) s.called ∙ append_assoc s.before (Did c ∷ s.since) (h ∷ []);
  for_the_last = one_more s.since h s.for_the_last none;
}

said_back : (c : Call) (hs : List Happening) (h : Happening) → IsCalledForLastCopy c (hs ++ h ∷ []) → (h ≡ Did c) ⊎ (IsCalledForLastCopy c hs × IsNoCopyIn h)
said_back c hs h s =
    let f = front_splits hs h s.before (Did c) s.since s.called in
    at_split f.0 f.1 (append_cancel_left s.before (f.0 ++ h ∷ []) (Did c ∷ s.since) (sym (append_assoc s.before f.0 (h ∷ [])) ∙ ap (λ (x : List Happening). x ++ h ∷ []) (sym f.1) ∙ s.called))
  where
    at_split : (zs : List Happening) → hs ≡ s.before ++ zs → zs ++ h ∷ [] ≡ Did c ∷ s.since → (h ≡ Did c) ⊎ (IsCalledForLastCopy c hs × IsNoCopyIn h)
    at_split [] is k = inl (let y : h ∷ [] ≡ Did c ∷ s.since = k in cc)
    at_split (z ∷ zs) is k =
        let y : z ∷ (zs ++ h ∷ []) ≡ Did c ∷ s.since = k in
        let p = front_of zs h (subst (AllByRecursion IsNoCopyIn) (let e : s.since ≡ zs ++ h ∷ [] = cc in e) s.for_the_last) in
        inr (record { before = s.before; since = zs; called = is ∙ ap (λ (x : Happening). s.before ++ x ∷ zs) cc; for_the_last = p.0 }, p.1)

unsaid_on : (c : Call) (hs : List Happening) (h : Happening) → (h ≡ Did c → ⊥) → (IsCalledForLastCopy c hs → ⊥) → IsCalledForLastCopy c (hs ++ h ∷ []) → ⊥
unsaid_on c hs h other none k = by (said_back c hs h k)
  where
    by : (h ≡ Did c) ⊎ (IsCalledForLastCopy c hs × IsNoCopyIn h) → ⊥
    by (inl e) = other e
    by (inr p) = none p.0

-- ---- what is kept, with one more happening

-- neither a CopyInResponse nor a call that ends a copy
abbrev LeavesSaid : Happening → Type 0
LeavesSaid h = IsNoCopyIn h × (h ≡ Did call.Done → ⊥) × ((reason : List ℕ) → h ≡ Did (call.Fail reason) → ⊥)

says_on : (answer : CopyAnswer) (hs : List Happening) (h : Happening) → LeavesSaid h → Says answer hs → Says answer (hs ++ h ∷ [])
says_on Awaited hs h l s = (unsaid_on call.Done hs h l.1 s.0, λ reason. unsaid_on (call.Fail reason) hs h (l.2 reason) (s.1 reason))
says_on Done hs h l s = said_on call.Done hs h l.0 s
says_on Refused hs h l s = (unsaid_on call.Done hs h l.1 s.0, s.1, said_on (call.Fail s.1) hs h l.0 s.2)

aside_leaves : (m : BackMessage) → IsSome (aside_of m) → LeavesSaid (Came m)
aside_leaves m aside = (no_copy m aside, λ e. cc, λ reason e. cc)
  where
    no_copy : (x : BackMessage) → IsSome (aside_of x) → IsNoCopyIn (Came x)
    no_copy (back.CopyIn head) some = absurd (let k : IsSome {T = Aside} None = some in cc)
    no_copy _ some = tt

begun_anew : (hs : List Happening) (head : CopyHead) → Says Awaited (hs ++ Came (back.CopyIn head) ∷ [])
begun_anew hs head = (never call.Done, λ reason. never (call.Fail reason))
  where
    never : (c : Call) → IsCalledForLastCopy c (hs ++ Came (back.CopyIn head) ∷ []) → ⊥
    never c k = by (said_back c hs (Came (back.CopyIn head)) k)
      where
        by : (Came (back.CopyIn head) ≡ Did c) ⊎ (IsCalledForLastCopy c hs × IsNoCopyIn (Came (back.CopyIn head))) → ⊥
        by (inl e) = cc
        by (inr p) = p.1

-- what is kept with one more happening, and so what it says
kept_more : (hs : List Happening) (h : Happening) → Says (copy_answer_after (copy_answer hs) h) (hs ++ h ∷ []) → Says (copy_answer (hs ++ h ∷ [])) (hs ++ h ∷ [])
kept_more hs h s = subst (λ (answer : CopyAnswer). Says answer (hs ++ h ∷ [])) (sym (copy_answer_from-more Awaited hs h)) s

-- a call that ends no copy and asks nothing
called : (hs : List Happening) (c : Call) → LeavesSaid (Did c) → copy_answer_after (copy_answer hs) (Did c) ≡ copy_answer hs → AnswerIsSaid hs → AnswerIsSaid (hs ++ Did c ∷ [])
called hs c leaves same a k = kept_more hs (Did c) (subst (λ (answer : CopyAnswer). Says answer (hs ++ Did c ∷ [])) (sym same) (says_on (copy_answer hs) hs (Did c) leaves (a (did_ends hs c k))))

came : (hs : List Happening) (m : BackMessage) (p : Option Status) (o : Option Aside) → aside_of m ≡ o → AnswerIsSaid hs → EndInCopyIn (put_after p m (whole_in hs) (rest_in hs)).rest → Says (copy_answer_after (copy_answer hs) (Came m)) (hs ++ Came m ∷ [])
came hs m (Some status) o e a ends = absurd (no_copy_in [] refl ends)
came hs m None (Some x) e a ends =
    let aside = is_aside m x e in
    subst (λ (answer : CopyAnswer). Says answer (hs ++ Came m ∷ [])) (sym (aside_says_nothing m (copy_answer hs) aside)) (says_on (copy_answer hs) hs (Came m) (aside_leaves m aside) (a (ends.0, ends.1, sym (kept_aside (rest_in hs) m aside) ∙ ends.2)))
came hs m None None e a ends =
    subst (λ (x : BackMessage). Says (copy_answer_after (copy_answer hs) (Came x)) (hs ++ Came x ∷ [])) (sym (copying_begun (rest_in hs) m e ends)) (begun_anew hs ends.1)

pub answer_is_said : (hs : List Happening) → AllAfter hs → AreAllowed hs → AnswerIsSaid hs
answer_is_said hs after allowed = along AnswerIsSaid hs (λ k. absurd (no_copy_in [] refl k)) step
  where
    step : (before : List Happening) (h : Happening) (later : List Happening) → hs ≡ before ++ h ∷ later → AnswerIsSaid before → AnswerIsSaid (before ++ h ∷ [])
    step before (Did call.Start) later e a = called before call.Start (tt, λ k. cc, λ reason k. cc) refl a
    step before (Did (call.Request r)) later e a = λ k. absurd (not_ready before (are_asked before (after_begins before (Did (call.Request r) ∷ later) (subst AllAfter e after))) (allowed before (call.Request r) later e).in_place.1 (did_ends before (call.Request r) k))
    step before (Did (call.Chunk b)) later e a = called before (call.Chunk b) (tt, λ k. cc, λ reason k. cc) refl a
    step before (Did call.Done) later e a = λ k. kept_more before (Did call.Done) (said_now call.Done before)
    step before (Did (call.Fail b)) later e a = λ k.
        let copying : IsCopyingIn before = (allowed before (call.Fail b) later e).in_place.1 in
        kept_more before (Did (call.Fail b)) (unsaid_on call.Done before (Did (call.Fail b)) (λ x. cc) copying.1, b, said_now (call.Fail b) before)
    step before (Did call.Terminate) later e a = called before call.Terminate (tt, λ k. cc, λ reason k. cc) refl a
    step before (Came m) later e a = λ k. kept_more before (Came m) (came before m (status_of m) (aside_of m) refl a (subst (λ (s : Segments). EndInCopyIn s.rest) (segments_came before m) k))
