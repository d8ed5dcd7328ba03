-- What ties both ends goes on with a call for a copy.
use Rattle.std.proofs.Common.{◌≡◌, ◌≤◌, ℕ, suc, List, refl, ap, sym, subst, ◌∙◌, arith, inl, inr}
use Rattle.pg_wire.specs.message.FrontMessage.TheVariants as front
use Rattle.pg_wire.specs.Segment.{segments}
use Rattle.pg_client.specs.declared.phase.Phase.TheVariants as phase
use Rattle.pg_client.specs.Session.{rest_in}
use Rattle.pg_client.specs.View.{phase_of}
use Rattle.pg_client.specs.Client.{happenings}
use Rattle.pg_client.specs.Turns.{turns_of}
use Rattle.pg_wire.specs.Turns.{copies_begun}
use Rattle.pg_client.specs.Answering.{calls_of, turns_in, last_copies, copies_ended}
use Rattle.pg_client.specs.declared.call.Call.TheVariants as call
use Rattle.pg_pair.specs.Calling.{add_to_last}
use Rattle.pg_pair.specs.Private.Known.{Known}
use Rattle.pg_pair.specs.Invariant.{Tied}
use Rattle.pg_pair.specs.View.{PairView}
use Rattle.pg_pair.proofs.Histories.{in_pair, tied_history}
use Rattle.pg_pair.proofs.Asking.{GoesOn}
use Rattle.pg_pair.proofs.Copying.{AreChunks, last_open, copied_on, in_turn_on, handed_chunk, handed_done, handed_failed}
use Rattle.pg_pair.proofs.Meeting.{user_of}
use Rattle.pg_pair.proofs.OneCopy.{heard_one}
use Rattle.pg_pair.proofs.Settling.{tied_meets}

-- Of the copies in of a request one at most was begun.
one_begun : Known → {C : Type 0} (p : PairView C) (t : Tied p) → copies_begun (rest_in (happenings t.client.history)) ≤ 1
one_begun k p t =
    let heard : copies_begun (segments t.client.history.heard).rest ≤ 1 =
    elim (tied_meets k p t) [
      | inl s ↦ s.few
      | inr m ↦ heard_one k.one_copy_each k.welcome_is_segment p.backend.script (user_of p.client.settings) m.since t.client.history.heard t.backend.checked.one_copy m.heard_is
    ] in
    subst (λ ms. copies_begun (segments ms).rest ≤ 1) (sym ((k.order t.client.history).messages)) heard

-- While the client is copying in, it has sent chunks alone for the last turn.
last_chunks : Known → {C : Type 0} (p : PairView C) (t : Tied p) → phase_of p.client ≡ phase.CopyingIn → AreChunks (last_copies (turns_of (calls_of t.client.history.calls)))
last_chunks k p t copying =
    let turns = k.answering (in_pair p t.client.history) p.client (tied_history p t) in
    let same : copies_ended (last_copies (turns_in (happenings t.client.history))) ≡ copies_ended (last_copies (turns_of (calls_of t.client.history.calls))) = ap (λ cs. copies_ended (last_copies (turns_of cs))) ((k.order t.client.history).calls) in
    let fewer : suc (copies_ended (last_copies (turns_in (happenings t.client.history)))) ≤ copies_begun (rest_in (happenings t.client.history)) = turns.ended copying in
    let begun : copies_begun (rest_in (happenings t.client.history)) ≤ 1 = one_begun k p t in
    last_open (turns_of (calls_of t.client.history.calls)) t.turns.copied (omega arith)

-- ---- each call for a copy has its place in the last turn, whose messages are chunks alone so far

pub chunk_goes_on : Known → {C : Type 0} (p : PairView C) (t : Tied p) (bytes : List ℕ) → phase_of p.client ≡ phase.CopyingIn → GoesOn p t (call.Chunk bytes)
chunk_goes_on k p t bytes copying = record {
  in_turn = in_turn_on p.backend.script.answers (front.CopyData bytes) (turns_of (calls_of t.client.history.calls)) refl t.turns.in_turn;
  copied = copied_on (front.CopyData bytes) (turns_of (calls_of t.client.history.calls)) tt t.turns.copied (last_chunks k p t copying);
  handed = ap (add_to_last bytes) t.turns.handed ∙ handed_chunk bytes (turns_of (calls_of t.client.history.calls));
}

pub done_goes_on : Known → {C : Type 0} (p : PairView C) (t : Tied p) → phase_of p.client ≡ phase.CopyingIn → GoesOn p t call.Done
done_goes_on k p t copying = record {
  in_turn = in_turn_on p.backend.script.answers front.CopyDone (turns_of (calls_of t.client.history.calls)) refl t.turns.in_turn;
  copied = copied_on front.CopyDone (turns_of (calls_of t.client.history.calls)) refl t.turns.copied (last_chunks k p t copying);
  handed = t.turns.handed ∙ handed_done (turns_of (calls_of t.client.history.calls));
}

pub fail_goes_on : Known → {C : Type 0} (p : PairView C) (t : Tied p) (reason : List ℕ) → phase_of p.client ≡ phase.CopyingIn → GoesOn p t (call.Fail reason)
fail_goes_on k p t reason copying = record {
  in_turn = in_turn_on p.backend.script.answers (front.CopyFail reason) (turns_of (calls_of t.client.history.calls)) refl t.turns.in_turn;
  copied = copied_on (front.CopyFail reason) (turns_of (calls_of t.client.history.calls)) refl t.turns.copied (last_chunks k p t copying);
  handed = t.turns.handed ∙ handed_failed reason (turns_of (calls_of t.client.history.calls));
}
