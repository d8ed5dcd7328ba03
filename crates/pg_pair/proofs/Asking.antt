-- What ties both ends goes on with a call of the client: with a request, and with a call that has no place in a turn.
use Rattle.std.proofs.Common.{◌≡◌, ◌≤◌, List, [], ◌∷◌, ◌++◌, map, length, ap, sym, subst, ◌∙◌, arith, inl, inr}
use Rattle.std.specs.List.{flat_map}
use Rattle.std.proofs.lemmas.List.{append-nil, map-append, length-map}
use Rattle.pg_wire.specs.declared.session.Request.{Request}
use Rattle.pg_client.specs.declared.phase.Phase.TheVariants as phase
use Rattle.pg_client.specs.View.{phase_of}
use Rattle.pg_client.specs.Answering.{turns_with}
use Rattle.pg_backend.specs.Lists.{IsPrefix}
use Rattle.pg_backend.specs.Session.{log_of}
use Rattle.pg_wire.specs.Turns.{Turn, turn_messages, IsCopy, AreCopied, chunks_of}
use Rattle.pg_backend.specs.Turns.{InTurn}
use Rattle.pg_client.specs.declared.call.Call.{Call}
use Rattle.pg_client.specs.declared.call.Call.TheVariants as call
use Rattle.pg_pair.specs.Calling.{handed_after}
use Rattle.pg_pair.specs.Copies.{turns_made, handed_for}
use Rattle.pg_pair.specs.Headline.{settled_as, answered_as}
use Rattle.pg_pair.specs.Invariant.{Tied, TurnsTied}
use Rattle.pg_pair.specs.Private.Known.{Known}
use Rattle.pg_pair.specs.View.{PairView}
use Rattle.pg_backend.proofs.Beginnings.{all_of_both, begins_length}
use Rattle.pg_pair.proofs.Readiness.{client_idle}
use Rattle.pg_pair.proofs.Settling.{tied_meets, settled_begin}

-- the turns with one more call
abbrev pub more_turns : {C : Type 0} (p : PairView C) → Tied p → Call → List Turn
more_turns p t c = turns_with (turns_made t.client.history.calls) c

-- What ties both goes on with the call.
abbrev pub GoesOn : {C : Type 0} (p : PairView C) → Tied p → Call → Type 0
GoesOn p t c = TurnsTied (record p { handed = handed_after c p.handed }) (more_turns p t c)

-- ---- a request

asked_in_turn : Known → {C : Type 0} (p : PairView C) (t : Tied p) (r : Request) → phase_of p.client ≡ phase.Ready → InTurn p.backend.script.answers (turns_made t.client.history.calls ++ record { request = r; copies = [] } ∷ [])
asked_in_turn k p t r ready =
    let idle = client_idle k p t ready in
    let turns = turns_made t.client.history.calls in
    elim (tied_meets k p t) [
      | inl s ↦ absurd (idle.has_whole s.none)
      | inr m ↦
          let ms = m.since in
          let first : IsPrefix ms (flat_map turn_messages turns) = (m.read.left, sym (append-nil (flat_map turn_messages turns)) ∙ ap (λ l. flat_map turn_messages turns ++ l) (sym (idle.stays)) ∙ m.follows) in
          let no_fewer : length (map settled_as p.settled) ≤ length (map answered_as p.backend.log) = begins_length _ _ (settled_begin k p t) in
          let one : length (map settled_as p.settled) ≡ length p.settled = length-map p.settled settled_as in
          let two : length (map answered_as p.backend.log) ≡ length p.backend.log = length-map p.backend.log answered_as in
          let logged : length p.backend.log ≡ length (log_of p.backend.script.answers ms) = ap length m.log_is in
          let settled_all : length p.settled ≡ length turns = idle.settled_all in
          k.turns_go_on p.backend.script.answers turns ms r t.turns.in_turn first (omega arith)
    ]

pub asked_goes_on : Known → {C : Type 0} (p : PairView C) (t : Tied p) (r : Request) → phase_of p.client ≡ phase.Ready → GoesOn p t (call.Request r)
asked_goes_on k p t r ready = record {
  in_turn = asked_in_turn k p t r ready;
  copied = all_of_both (λ (x : Turn). IsCopy x.copies) (turns_made t.client.history.calls) (record { request = r; copies = [] } ∷ []) t.turns.copied (tt, tt);
  handed = ap (λ l. l ++ [] ∷ []) t.turns.handed ∙ sym (map-append (λ (x : Turn). chunks_of x.copies) (turns_made t.client.history.calls) (record { request = r; copies = [] } ∷ []));
}

-- ---- no turn

pub same_goes_on : {C : Type 0} (p : PairView C) (t : Tied p) (c : Call) → more_turns p t c ≡ turns_made t.client.history.calls → handed_after c p.handed ≡ p.handed → GoesOn p t c
same_goes_on p t c e h = record {
  in_turn = subst (InTurn p.backend.script.answers) (sym e) t.turns.in_turn;
  copied = subst AreCopied (sym e) t.turns.copied;
  handed = h ∙ t.turns.handed ∙ ap handed_for (sym e);
}
