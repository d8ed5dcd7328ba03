-- A step of the backend keeps what is so of a pair.
use Rattle.std.proofs.Common.{◌≡◌, ℕ, true, false, Bool, List, [], ◌++◌, Result, Ok, Err, refl, ap, sym, subst, ◌∙◌}
use Rattle.std.proofs.lemmas.List.{append-nil}
use Rattle.pg_backend.specs.declared.fault.BackendFault.{BackendFault}
use Rattle.pg_backend.specs.declared.fault.BackendFault.TheVariants as faults
use Rattle.pg_backend.specs.declared.script.Script.{Script}
use Rattle.pg_backend.specs.Backend.{BackendState, Steps, StepsFrom, was_lost}
use Rattle.pg_backend.specs.History.{History, IsHistoryOf, with_handled, with_message}
use Rattle.pg_backend.specs.Check.{IsChecked}
use Rattle.pg_backend.specs.Input.{Input, HandlesNext, packet_taken, message_taken}
use Rattle.pg_backend.specs.Turns.{InTurn}
use Rattle.pg_backend.specs.declared.phase.BackPhase.{BackPhase}
use Rattle.pg_backend.specs.declared.phase.BackPhase.TheVariants as back
use Rattle.pg_pair.specs.declared.event.Applied.{Applied}
use Rattle.pg_pair.specs.declared.event.Applied.TheVariants as applied
use Rattle.pg_pair.specs.Breaking.{is_closed_backend}
use Rattle.pg_pair.specs.Stepping.{BackendSteps, StepsOnce, StepsUnlessClosed}
use Rattle.pg_pair.specs.Copies.{turns_made}
use Rattle.pg_pair.specs.Private.Known.{Known}
use Rattle.pg_pair.specs.Invariant.{Tied}
use Rattle.pg_pair.specs.View.{PairView}
use Rattle.pg_pair.proofs.Ends.{client_stays}
use Rattle.pg_pair.proofs.Sound.{not_faulty}

taken_faultless : (limit : ℕ) (i : Input) (rest : List ℕ) (j : Input) (left : List ℕ) → HandlesNext limit i rest j left → j.faulty ≡ false
taken_faultless limit i rest j left (packet_taken ps p more s h) = refl
taken_faultless limit i rest j left (message_taken ps ms m more s h) = refl

-- the pair after a step
abbrev pub stepped : {C : Type 0} → PairView C → BackendState → List ℕ → PairView C
stepped p b sent = record p { backend = b; to_client = record p.to_client { sent = sent } }

-- the backend goes on with this history, by which this was put out since
carried_on : {C : Type 0} (p : PairView C) (t : Tied p) (b : BackendState) (sent added : List ℕ) (h : History)
    → sent ≡ p.to_client.sent ++ added → IsHistoryOf h b → h.pushed ≡ t.backend.history.pushed → h.sent ≡ t.backend.history.sent ++ added → h.input.faulty ≡ false
    → b.script ≡ p.backend.script → b.limit ≡ p.backend.limit → (p.to_backend.broken ≡ false → was_lost b.stage ≡ false)
    → Tied (stepped p b sent)
unfolding client_stays
carried_on p t b sent added h more is_history pushed put sound script limit not_lost = record {
  client = client_stays p sent added more t.client;
  backend = record {
    checked = subst IsChecked (sym script) t.backend.checked;
    limit = limit ∙ t.backend.limit;
    history = h;
    is_history = is_history;
    pushed = pushed ∙ t.backend.pushed;
    sent = put ∙ ap (λ l. l ++ added) t.backend.sent ∙ sym more;
    faultless = sound;
    not_lost = not_lost;
    within = t.backend.within;
  };
  turns = record {
    in_turn = subst (λ (s : Script). InTurn s.answers (turns_made t.client.history.calls)) (sym script) t.turns.in_turn;
    copied = t.turns.copied;
    handed = t.turns.handed;
  };
}

-- its history is the one that it had
same_history : {C : Type 0} (p : PairView C) (t : Tied p) (b : BackendState) (sent : List ℕ) → sent ≡ p.to_client.sent → IsHistoryOf t.backend.history b
    → b.script ≡ p.backend.script → b.limit ≡ p.backend.limit → (p.to_backend.broken ≡ false → was_lost b.stage ≡ false)
    → Tied (stepped p b sent)
same_history p t b sent same is_history script limit not_lost =
    carried_on p t b sent [] t.backend.history (same ∙ sym (append-nil p.to_client.sent)) is_history refl (sym (append-nil t.backend.history.sent)) t.backend.faultless script limit not_lost

-- neither the backend nor the stream changed
stays : {C : Type 0} (p : PairView C) (t : Tied p) (b : BackendState) (sent : List ℕ) → b ≡ p.backend → sent ≡ p.to_client.sent → Tied (stepped p b sent)
stays p t b sent same e =
    same_history p t b sent e (subst (IsHistoryOf t.backend.history) (sym same) t.backend.is_history) (ap (λ x. x.script) same) (ap (λ x. x.limit) same) (λ h. ap (λ x. was_lost x.stage) same ∙ t.backend.not_lost h)

by_answer : Known → {C : Type 0} (p : PairView C) (t : Tied p) (answer : Result Bool BackendFault) (b : BackendState) (sent : List ℕ)
    → Steps p.backend p.to_client.sent answer b sent → StepsFrom t.backend.history p.backend p.to_client.sent answer b sent
    → Tied (stepped p b sent)
by_answer k p t (Ok false) b sent call h = stays p t b sent call.1 call.2
by_answer k p t (Ok true) b sent call h =
    let does = h.2 in
    let on = call.1 in
    carried_on p t b sent h.0 (with_handled does.0 does.1 h.0 t.backend.history) h.1 does.4 refl refl
    (taken_faultless p.backend.limit t.backend.history.input t.backend.history.rest does.0 does.1 does.2) on.script_is on.limit_is (λ _. on.not_lost)
by_answer k p t (Err (faults.Unexpected tag)) b sent call h =
    let does = h.2 in
    let on = call.1 in
    carried_on p t b sent h.0 (with_handled (with_message does.0 t.backend.history.input) does.1 h.0 t.backend.history) h.1 does.5 refl refl
    t.backend.faultless on.script_is on.limit_is (λ _. on.not_lost)
by_answer k p t (Err (faults.Wire f)) b sent call h = absurd (not_faulty k p t f h.2.0)
by_answer k p t (Err faults.Memory) b sent call h =
    same_history p t b sent call.2 h.2 (ap (λ x. x.script) call.1) (ap (λ x. x.limit) call.1) (λ _. ap (λ x. was_lost x.stage) call.1)
by_answer k p t (Err faults.Closed) b sent call h = stays p t b sent call.1 call.2

pub keeps_step : Known → {C : Type 0} (p : PairView C) (answer : Result Bool BackendFault) (b : BackendState) (sent : List ℕ)
    → BackendSteps p.backend p.to_client.sent answer b sent → Tied p → Tied (stepped p b sent)
keeps_step k p answer b sent step t = by_answer k p t answer b sent step.call (step.history t.backend.history t.backend.is_history)

pub steps_in : {C : Type 0} (b : BackPhase) (p : PairView C) (result : Applied) (q : PairView C) → is_closed_backend b ≡ false → StepsOnce p result q → StepsUnlessClosed b p result q
steps_in back.Closed p result q going h = absurd cc
steps_in back.First p result q going h = h
steps_in back.Password p result q going h = h
steps_in back.Ready p result q going h = h
steps_in back.Grouping p result q going h = h
steps_in back.CopyIn p result q going h = h

pub no_step : {C : Type 0} (b : BackPhase) (p : PairView C) → is_closed_backend b ≡ true → StepsUnlessClosed b p applied.Nothing p
no_step back.Closed p h = (refl, refl)
no_step _ p h = absurd cc
