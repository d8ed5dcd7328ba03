-- While copying in: what was sent since the CopyInResponse, and how many copies were ended.
use Rattle.std.proofs.Common.{◌≡◌, ℕ, suc, ◌+◌, ◌≤◌, List, [], ◌∷◌, ◌++◌, length, Option, Some, None, refl, sym, ap, subst, ◌∙◌, append_assoc, inl, inr, arith, length-append}
use Rattle.std.specs.Prelude.{IsSome, ◌⊎◌}
use Rattle.std.proofs.lemmas.List.{append-nil}
use Rattle.pg_wire.specs.message.BackMessage.{BackMessage}
use Rattle.pg_wire.specs.message.BackMessage.TheVariants as back
use Rattle.pg_wire.specs.message.FrontMessage.{FrontMessage}
use Rattle.pg_wire.specs.message.FrontMessage.TheVariants as front
use Rattle.pg_wire.specs.value.Status.{Status}
use Rattle.pg_wire.specs.declared.session.Aside.{Aside}
use Rattle.pg_wire.specs.declared.session.Request.{Request}
use Rattle.pg_wire.specs.Segment.{aside_of, without_asides, Segments, segments, status_of}
use Rattle.pg_client.specs.declared.stand.CopyAnswer.{CopyAnswer}
use Rattle.pg_client.specs.declared.stand.CopyAnswer.TheVariants.{Awaited, Done, Refused}
use Rattle.pg_client.specs.declared.call.Call.{Call}
use Rattle.pg_client.specs.declared.call.Call.TheVariants as call
use Rattle.pg_client.specs.Session.{Happening, Did, Came, messages_in, requests_in, whole_in, rest_in, EndInCopyIn, IsStarted, IsTerminated, IsReady, IsCopyingIn, AreAllowed}
use Rattle.pg_client.specs.Stand.{copy_answer_after, copy_answer}
use Rattle.pg_wire.specs.Turns.{Turn, copies_begun}
use Rattle.pg_client.specs.Turns.{turns_of, calls_in}
use Rattle.pg_client.specs.Answering.{turns_in, turns_with, with_copy, last_copies, copies_ended, IsChunkOrAside, IsCopyingSince}
use Rattle.pg_response.proofs.Lists.{all_both}
use Rattle.pg_client.proofs.Calling.Accepting.{terminated_within}
use Rattle.pg_client.proofs.Standing.Agreeing.{never_ends, no_copy_in, aside_says_nothing, is_aside, not_ready, copying_begun, answer_is_said}
use Rattle.pg_client.proofs.Events.Beginnings.{segments_did, segments_came, requests_came, AreAsked, AllAfter, after_begins, allowed_begins, kept_aside, along, are_asked, are_answered}
use Rattle.pg_client.proofs.Events.Happening.{requests_in-more, IsStarted-more, copy_answer_from-more}
use Rattle.pg_client.proofs.Events.OneMessage.{put_after}
use Rattle.pg_client.proofs.Standing.Said.{IsCopyAwaited, copy_awaited}
use Rattle.pg_client.proofs.Turns.Ordering.{messages_in-append, calls_in-append, turns_more}

-- ---- since the last CopyInResponse

since_more : (hs : List Happening) (h : Happening) → IsChunkOrAside h → IsCopyingSince hs → IsCopyingSince (hs ++ h ∷ [])
since_more hs h one s = record {
  before = s.before;
  head = s.head;
  later = s.later ++ h ∷ [];
  since = ap (λ (x : List Happening). x ++ h ∷ []) s.since ∙ append_assoc s.before (Came (back.CopyIn s.head) ∷ s.later) (h ∷ []);
  chunks = all_both IsChunkOrAside s.later (h ∷ []) s.chunks (one, tt);
}

-- nothing is heard before start
pub heard_after_start : (hs : List Happening) → AllAfter hs → (messages_in hs ≡ []) ⊎ IsStarted hs
heard_after_start hs all = along (λ x. (messages_in x ≡ []) ⊎ IsStarted x) hs (inl refl) step
  where
    step : (before : List Happening) (h : Happening) (later : List Happening) → hs ≡ before ++ h ∷ later → (messages_in before ≡ []) ⊎ IsStarted before → (messages_in (before ++ h ∷ []) ≡ []) ⊎ IsStarted (before ++ h ∷ [])
    step before (Came m) later e p = inr (IsStarted-more before (Came m) (all before m later e).started)
    step before (Did c) later e (inl none) = inl (messages_in-append before (Did c ∷ []) ∙ ap (λ (ms : List BackMessage). ms ++ []) none)
    step before (Did c) later e (inr s) = inr (IsStarted-more before (Did c) s)

-- what a call leaves of a copy in
did_copying : (before : List Happening) (c : Call) → IsCopyAwaited (before ++ Did c ∷ []) → EndInCopyIn (rest_in before) × (copy_answer_after (copy_answer before) (Did c) ≡ Awaited)
did_copying before c k = (subst (λ (s : Segments). EndInCopyIn s.rest) (segments_did before c) k.0, sym (copy_answer_from-more Awaited before (Did c)) ∙ k.1)

not_started : (before : List Happening) → AllAfter before → (IsStarted before → ⊥) → EndInCopyIn (rest_in before) → ⊥
not_started before all never k = elim (heard_after_start before all) [
  | inl none ↦ never_ends k.0 (back.CopyIn k.1) (sym (ap (λ (ms : List BackMessage). without_asides (segments ms).rest) none) ∙ k.2)
  | inr s ↦ never s
]

-- an aside leaves it
copying_kept : (before : List Happening) (m : BackMessage) → IsSome (aside_of m) → EndInCopyIn (rest_in before ++ m ∷ []) → copy_answer_after (copy_answer before) (Came m) ≡ Awaited → IsCopyAwaited before
copying_kept before m aside ends said = ((ends.0, ends.1, sym (kept_aside (rest_in before) m aside) ∙ ends.2), sym (aside_says_nothing m (copy_answer before) aside) ∙ said)

came_copying : (before : List Happening) (m : BackMessage) (p : Option Status) (o : Option Aside) → aside_of m ≡ o → (IsCopyAwaited before → IsCopyingSince before) → EndInCopyIn (put_after p m (whole_in before) (rest_in before)).rest → copy_answer_after (copy_answer before) (Came m) ≡ Awaited → IsCopyingSince (before ++ Came m ∷ [])
came_copying before m (Some status) o e copies ends said = absurd (no_copy_in [] refl ends)
came_copying before m None (Some a) e copies ends said = since_more before (Came m) (is_aside m a e) (copies (copying_kept before m (is_aside m a e) ends said))
came_copying before m None None e copies ends said = record { before = before; head = ends.1; later = []; since = ap (λ (x : BackMessage). before ++ Came x ∷ []) (copying_begun (rest_in before) m e ends); chunks = tt }

module _ (hs : List Happening) (after : AllAfter hs) (allowed : AreAllowed hs) (not_terminated : IsTerminated hs → ⊥) where
  Copies : List Happening → Type 0
  Copies x = IsCopyAwaited x → IsCopyingSince x

  begun_after : (before : List Happening) (h : Happening) (later : List Happening) → hs ≡ before ++ h ∷ later → AllAfter before
  begun_after before h later e = after_begins before (h ∷ later) (subst AllAfter e after)

  copies_step : (before : List Happening) (h : Happening) (later : List Happening) → hs ≡ before ++ h ∷ later → Copies before → Copies (before ++ h ∷ [])
  unfolding Copies
  copies_step before (Did call.Start) later e copies k = absurd (not_started before (begun_after before (Did call.Start) later e) (allowed before call.Start later e).in_place (did_copying before call.Start k).0)
  copies_step before (Did (call.Request r)) later e copies k = absurd (not_ready before (are_asked before (begun_after before (Did (call.Request r)) later e)) (allowed before (call.Request r) later e).in_place.1 (did_copying before (call.Request r) k).0)
  copies_step before (Did (call.Chunk b)) later e copies k = since_more before (Did (call.Chunk b)) tt (copies (did_copying before (call.Chunk b) k))
  copies_step before (Did call.Done) later e copies k = absurd (let d : Done ≡ Awaited = (did_copying before call.Done k).1 in cc)
  copies_step before (Did (call.Fail b)) later e copies k = absurd (let d : Refused ≡ Awaited = (did_copying before (call.Fail b) k).1 in cc)
  copies_step before (Did call.Terminate) later e copies k = absurd (not_terminated (subst IsTerminated (sym e) (terminated_within before later)))
  copies_step before (Came m) later e copies k =
      came_copying before m (status_of m) (aside_of m) refl copies (subst (λ (s : Segments). EndInCopyIn s.rest) (segments_came before m) k.0) (sym (copy_answer_from-more Awaited before (Came m)) ∙ k.1)

  pub copying_since : IsCopyingIn hs → IsCopyingSince hs
  unfolding Copies
  copying_since k = along Copies hs (λ none. absurd (no_copy_in [] refl none.0)) copies_step (copy_awaited hs (answer_is_said hs after allowed) k)

-- ---- each copy ended before had its own CopyInResponse

ended-append : (ms more : List FrontMessage) → copies_ended (ms ++ more) ≡ copies_ended ms + copies_ended more
ended-append [] more = omega arith
ended-append (m ∷ ms) more = grind (arith, ended-append ms more)

begun-append : (ms more : List BackMessage) → copies_begun (ms ++ more) ≡ copies_begun ms + copies_begun more
begun-append [] more = omega arith
begun-append (m ∷ ms) more = grind (arith, begun-append ms more)

abbrev EndedIn : List Happening → ℕ
EndedIn hs = copies_ended (last_copies (turns_in hs))

ended_with : (m : FrontMessage) (ts : List Turn) → copies_ended (last_copies (with_copy m ts)) ≤ copies_ended (last_copies ts) + copies_ended (m ∷ [])
ended_with m [] = omega arith
ended_with m (t ∷ []) = omega (arith, ended-append t.copies (m ∷ []))
ended_with m (t ∷ u ∷ []) = ended_with m (u ∷ [])
ended_with m (t ∷ u ∷ v ∷ us) = ended_with m (u ∷ v ∷ us)

none_asked : (ts : List Turn) (r : Request) → last_copies (ts ++ record { request = r; copies = [] } ∷ []) ≡ []
none_asked [] r = refl
none_asked (t ∷ []) r = refl
none_asked (t ∷ u ∷ us) r = none_asked (u ∷ us) r

turns_did : (hs : List Happening) (c : Call) → turns_in (hs ++ Did c ∷ []) ≡ turns_with (turns_in hs) c
turns_did hs c = ap turns_of (calls_in-append hs (Did c ∷ [])) ∙ turns_more (calls_in hs) c

ended_did : (hs : List Happening) (c : Call) → EndedIn (hs ++ Did c ∷ []) ≡ copies_ended (last_copies (turns_with (turns_in hs) c))
ended_did hs c = ap (λ (ts : List Turn). copies_ended (last_copies ts)) (turns_did hs c)

ended_came : (hs : List Happening) (m : BackMessage) → EndedIn (hs ++ Came m ∷ []) ≡ EndedIn hs
ended_came hs m = ap (λ (cs : List Call). copies_ended (last_copies (turns_of cs))) (calls_in-append hs (Came m ∷ []) ∙ append-nil (calls_in hs))

-- in the last request's segment, while it isn't whole
record InBalance (hs : List Happening) : Type 0 where
  level : length (whole_in hs) ≤ length (requests_in hs) → EndedIn hs ≤ copies_begun (rest_in hs)
  one_open : IsCopyAwaited hs → suc (EndedIn hs) ≤ copies_begun (rest_in hs)

module _ (hs : List Happening) (after : AllAfter hs) (allowed : AreAllowed hs) where
  rest_did : (before : List Happening) (c : Call) → copies_begun (rest_in (before ++ Did c ∷ [])) ≡ copies_begun (rest_in before)
  rest_did before c = ap (λ (s : Segments). copies_begun s.rest) (segments_did before c)

  whole_did : (before : List Happening) (c : Call) → length (whole_in (before ++ Did c ∷ [])) ≡ length (whole_in before)
  whole_did before c = ap (λ (s : Segments). length s.whole) (segments_did before c)

  -- a call that ends no copy and asks nothing
  did_plainly : (before : List Happening) (c : Call) → requests_in (Did c ∷ []) ≡ [] → ((a : CopyAnswer) → copy_answer_after a (Did c) ≡ a) → copies_ended (last_copies (turns_with (turns_in before) c)) ≤ EndedIn before → InBalance before → InBalance (before ++ Did c ∷ [])
  did_plainly before c none same few b = record {
    level = λ le. omega (arith, few, ended_did before c, rest_did before c, b.level (omega (arith, le, whole_did before c, ap length (requests_in-more before (Did c) ∙ ap (λ (rs : List Request). requests_in before ++ rs) none ∙ append-nil (requests_in before)))));
    one_open = λ k. let d = did_copying before c k in omega (arith, few, ended_did before c, rest_did before c, b.one_open (d.0, sym (same (copy_answer before)) ∙ d.1));
  }

  -- a call that ends a copy
  did_end : (before : List Happening) (c : Call) → ((a : CopyAnswer) → copy_answer_after a (Did c) ≡ Awaited → ⊥) → copies_ended (last_copies (turns_with (turns_in before) c)) ≤ EndedIn before + 1 → IsCopyAwaited before → InBalance before → InBalance (before ++ Did c ∷ [])
  did_end before c other few copying b = record {
    level = λ le. omega (arith, few, ended_did before c, rest_did before c, b.one_open copying);
    one_open = λ k. absurd (other (copy_answer before) (did_copying before c k).1);
  }

  did_ask : (before : List Happening) (r : Request) → AreAsked before → IsReady before → InBalance (before ++ Did (call.Request r) ∷ [])
  did_ask before r asked ready = record {
    level = λ le. omega (arith, ended_did before (call.Request r), ap copies_ended (none_asked (turns_in before) r));
    one_open = λ k. absurd (not_ready before asked ready (did_copying before (call.Request r) k).0);
  }

  came_level : (before : List Happening) (m : BackMessage) (p : Option Status) → length (requests_in before) ≤ length (whole_in before) → InBalance before → length (put_after p m (whole_in before) (rest_in before)).whole ≤ length (requests_in before) → EndedIn before ≤ copies_begun (put_after p m (whole_in before) (rest_in before)).rest
  came_level before m (Some status) answered b le = absurd (omega (arith, answered, le, length-append (whole_in before) ((rest_in before ++ m ∷ []) ∷ [])))
  came_level before m None answered b le = omega (arith, b.level le, begun-append (rest_in before) (m ∷ []))

  came_open : (before : List Happening) (m : BackMessage) (p : Option Status) (o : Option Aside) → aside_of m ≡ o → IsSome (aside_of m) ⊎ (length (whole_in before) ≤ length (requests_in before)) → InBalance before → EndInCopyIn (put_after p m (whole_in before) (rest_in before)).rest → copy_answer_after (copy_answer before) (Came m) ≡ Awaited → suc (EndedIn before) ≤ copies_begun (put_after p m (whole_in before) (rest_in before)).rest
  came_open before m (Some status) o e asked b ends said = absurd (no_copy_in [] refl ends)
  came_open before m None (Some a) e asked b ends said = omega (arith, b.one_open (copying_kept before m (is_aside m a e) ends said), begun-append (rest_in before) (m ∷ []))
  came_open before m None None e (inl aside) b ends said = absurd (let k : IsSome {T = Aside} None = subst (λ (x : Option Aside). IsSome x) e aside in cc)
  came_open before m None None e (inr le) b ends said = omega (arith, b.level le, begun-append (rest_in before) (m ∷ []), ap (λ (x : BackMessage). copies_begun (x ∷ [])) (copying_begun (rest_in before) m e ends))

  -- where a call for a copy was made, none was made for it before
  awaited_then : (before : List Happening) (c : Call) (later : List Happening) → hs ≡ before ++ Did c ∷ later → IsCopyingIn before → IsCopyAwaited before
  awaited_then before c later e copying = copy_awaited before (answer_is_said before (after_begins before (Did c ∷ later) (subst AllAfter e after)) (allowed_begins before (Did c ∷ later) (subst AreAllowed e allowed))) copying

  balance_step : (before : List Happening) (h : Happening) (later : List Happening) → hs ≡ before ++ h ∷ later → InBalance before → InBalance (before ++ h ∷ [])
  balance_step before (Did call.Start) later e b = did_plainly before call.Start refl (λ a. refl) (omega arith) b
  balance_step before (Did (call.Request r)) later e b = did_ask before r (are_asked before (after_begins before (Did (call.Request r) ∷ later) (subst AllAfter e after))) (allowed before (call.Request r) later e).in_place.1
  balance_step before (Did (call.Chunk x)) later e b = did_plainly before (call.Chunk x) refl (λ a. refl) (omega (arith, ended_with (front.CopyData x) (turns_in before))) b
  balance_step before (Did call.Done) later e b = did_end before call.Done (λ a k. cc) (ended_with front.CopyDone (turns_in before)) (awaited_then before call.Done later e (allowed before call.Done later e).in_place.1) b
  balance_step before (Did (call.Fail x)) later e b = did_end before (call.Fail x) (λ a k. cc) (ended_with (front.CopyFail x) (turns_in before)) (awaited_then before (call.Fail x) later e (allowed before (call.Fail x) later e).in_place.1) b
  balance_step before (Did call.Terminate) later e b = did_plainly before call.Terminate refl (λ a. refl) (omega arith) b
  balance_step before (Came m) later e b = record {
    level = λ le. omega (arith, ended_came before m, ap (λ (s : Segments). copies_begun s.rest) (segments_came before m), came_level before m (status_of m) (are_answered before (allowed_begins before (Came m ∷ later) (subst AreAllowed e allowed))) b (omega (arith, le, ap (λ (s : Segments). length s.whole) (segments_came before m), ap length (requests_came before m))));
    one_open = λ k. omega (arith, ended_came before m, ap (λ (s : Segments). copies_begun s.rest) (segments_came before m), came_open before m (status_of m) (aside_of m) refl (after before m later e).asked_for b (subst (λ (s : Segments). EndInCopyIn s.rest) (segments_came before m) k.0) (sym (copy_answer_from-more Awaited before (Came m)) ∙ k.1));
  }

  pub copy_under_way : IsCopyingIn hs → suc (EndedIn hs) ≤ copies_begun (rest_in hs)
  copy_under_way k = (along InBalance hs (record { level = λ le. omega arith; one_open = λ none. absurd (no_copy_in [] refl none.0) }) balance_step).one_open (copy_awaited hs (answer_is_said hs after allowed) k)
