-- Where the client stands ready, the backend does too.
use Rattle.std.proofs.Common.{◌≡◌, ◌≤◌, true, false, List, [], ◌∷◌, ◌++◌, Option, Some, None, map, length, take, refl, ap, sym, subst, ◌∙◌, append_assoc, arith, inl, inr}
use Rattle.std.specs.List.{flat_map}
use Rattle.std.proofs.lemmas.List.{append-nil, length-map}
use Rattle.std.proofs.lemmas.Grind.{flat_map-append}
use Rattle.pg_wire.specs.message.First.{First}
use Rattle.pg_wire.specs.message.FrontMessage.{FrontMessage}
use Rattle.pg_wire.specs.Direction.{spelling}
use Rattle.pg_wire.specs.First.{packet}
use Rattle.pg_wire.specs.Frontend.{frontend}
use Rattle.pg_wire.specs.Segment.{segments}
use Rattle.pg_client.specs.declared.phase.Cause.{Cause}
use Rattle.pg_client.specs.declared.phase.Cause.TheVariants as cause
use Rattle.pg_client.specs.declared.phase.Phase.TheVariants as phase
use Rattle.pg_client.specs.declared.stand.Stand.{Stand}
use Rattle.pg_client.specs.declared.call.Call.TheVariants as call
use Rattle.pg_client.specs.Session.{Happening, Did, Came, IsTerminated, IsReady, whole_in}
use Rattle.pg_client.specs.View.{groups_waiting, phase_of, phase_with}
use Rattle.pg_client.specs.Client.{happenings}
use Rattle.pg_client.specs.Facts.{IsPhase}
use Rattle.pg_client.specs.Turns.{turns_of, calls_in, farewell}
use Rattle.pg_client.specs.Answering.{calls_of}
use Rattle.pg_backend.specs.declared.phase.BackPhase.{BackPhase}
use Rattle.pg_backend.specs.declared.stage.ClosedBy.TheVariants as ending
use Rattle.pg_backend.specs.declared.stage.BackStage.{BackStage}
use Rattle.pg_backend.specs.declared.stage.BackStage.TheVariants as stage
use Rattle.pg_backend.specs.Backend.{had_memory, was_lost, phase_by}
use Rattle.pg_backend.specs.Input.{place_phase}
use Rattle.pg_backend.specs.Session.{log_of}
use Rattle.pg_wire.specs.Turns.{turn_messages}
use Rattle.pg_pair.specs.Copies.{turns_made}
use Rattle.pg_pair.specs.Headline.{settled_as, answered_as, input_bytes, StandsReady, Headline}
use Rattle.pg_pair.specs.Private.Known.{Known}
use Rattle.pg_pair.specs.Invariant.{Tied}
use Rattle.pg_pair.specs.View.{PairView}
use Rattle.pg_backend.proofs.Beginnings.{begins_length, begins_take}
use Rattle.pg_pair.proofs.Histories.{in_pair, tied_handled, tied_history}
use Rattle.pg_pair.proofs.Opening.{opening}
use Rattle.pg_pair.proofs.Settling.{Messages, Met, tied_meets, settled_begin, all_taken, all_asked, one_unsettled}

-- ---- of the client

not_closed : (c : Option Cause) (s : Stand) → phase_with c s ≡ phase.Ready → c ≡ None
not_closed None s e = refl
not_closed (Some c) s e = absurd cc

farewell_said : (hs : List Happening) → (IsTerminated hs → ⊥) → farewell (calls_in hs) ≡ []
farewell_said [] h = refl
farewell_said (Did call.Start ∷ hs) h = farewell_said hs h
farewell_said (Did (call.Request r) ∷ hs) h = farewell_said hs h
farewell_said (Did (call.Chunk bytes) ∷ hs) h = farewell_said hs h
farewell_said (Did call.Done ∷ hs) h = farewell_said hs h
farewell_said (Did (call.Fail reason) ∷ hs) h = farewell_said hs h
farewell_said (Did call.Terminate ∷ hs) h = absurd (h tt)
farewell_said (Came m ∷ hs) h = farewell_said hs h

-- What is so of a client that stands ready: it has not ended the session, each of its turns is settled, and a segment is whole.
pub record IsIdle {C : Type 0} (p : PairView C) (t : Tied p) : Type 0 where
  pub stays : farewell (calls_of t.client.history.calls) ≡ []
  pub settled_all : length p.settled ≡ length (turns_made t.client.history.calls)
  pub has_whole : (segments t.client.history.heard).whole ≡ [] → ⊥

pub client_idle : Known → {C : Type 0} (p : PairView C) (t : Tied p) → phase_of p.client ≡ phase.Ready → IsIdle p t
client_idle k p t ready =
    let hs = happenings t.client.history in
    let told = k.order t.client.history in
    let none : p.client.closed ≡ None = not_closed p.client.closed p.client.known.stand ready in
    let facts = k.facts (in_pair p t.client.history) p.client (tied_history p t) in
    let turns = k.answering (in_pair p t.client.history) p.client (tied_history p t) in
    let idle : IsReady hs = subst (λ c. IsPhase hs c phase.Ready) none ((facts.facts.phase phase.Ready).0 ready) in
    let going : IsTerminated hs → ⊥ = λ over. let e : p.client.closed ≡ Some cause.Terminated = t.client.is_history.agrees.terminated.0 over in let f : None ≡ Some cause.Terminated = sym none ∙ e in absurd cc in
    let given : length (p.settled ++ groups_waiting p.client) ≡ length p.settled = ap length (ap (λ l. p.settled ++ l) t.client.taken ∙ append-nil p.settled) in
    let all : length (p.settled ++ groups_waiting p.client) ≡ length (turns_of (calls_in hs)) = turns.ready ready in
    let made : length (turns_of (calls_in hs)) ≡ length (turns_made t.client.history.calls) = ap (λ cs. length (turns_of cs)) told.calls in
    record {
      stays = ap farewell (sym (told.calls)) ∙ farewell_said hs going;
      settled_all = sym given ∙ all ∙ made;
      has_whole = λ nothing.
          let e : length (whole_in hs) ≡ 0 = ap (λ ms. length (segments ms).whole) told.messages ∙ ap length nothing in
          absurd (omega (arith, idle, e));
    }

-- ---- of the backend

spared_phase : (s : BackStage) (b : BackPhase) → had_memory s ≡ true → was_lost s ≡ false → phase_by s b ≡ b
spared_phase (stage.First d) b h l = refl
spared_phase (stage.Open d a) b h l = refl
spared_phase (stage.Closed ending.Input) b h l = refl
spared_phase (stage.Closed ending.Memory) b h l = absurd cc
spared_phase (stage.Closed ending.Lost) b h l = absurd cc

-- ---- of a pair

sent_parts : (o : First) (all : List FrontMessage) (ps : List First) (ms left : List FrontMessage) → ps ≡ o ∷ [] → all ≡ ms ++ left
    → packet o ++ flat_map (spelling frontend) all ≡ (flat_map packet ps ++ flat_map (spelling frontend) ms) ++ flat_map (spelling frontend) left
sent_parts o all ps ms left is e =
    ap (λ l. packet o ++ flat_map (spelling frontend) l) e ∙ ap (λ l. packet o ++ l) (flat_map-append (spelling frontend) ms left)
    ∙ sym (append_assoc (packet o) (flat_map (spelling frontend) ms) (flat_map (spelling frontend) left))
    ∙ ap (λ l. (l ++ flat_map (spelling frontend) ms) ++ flat_map (spelling frontend) left) (sym (append-nil (packet o)) ∙ ap (flat_map packet) (sym is))

ready_with : Known → {C : Type 0} (p : PairView C) (t : Tied p) → IsIdle p t
    → Met p t
    → p.to_backend.broken ≡ false → had_memory p.backend.stage ≡ true → StandsReady p
ready_with k p t idle m whole spared =
    let answers = p.backend.script.answers in
    let ms = m.since in
    let turns = turns_made t.client.history.calls in
    let left = m.read.left in
    let all : flat_map turn_messages turns ≡ ms ++ left =
    sym (append-nil (flat_map turn_messages turns)) ∙ ap (λ l. flat_map turn_messages turns ++ l) (sym (idle.stays)) ∙ m.follows in
    let no_fewer : length (map settled_as p.settled) ≤ length (map answered_as p.backend.log) = begins_length _ _ (settled_begin k p t) in
    let one : length (map settled_as p.settled) ≡ length p.settled = length-map p.settled settled_as in
    let two : length (map answered_as p.backend.log) ≡ length p.backend.log = length-map p.backend.log answered_as in
    let logged : length p.backend.log ≡ length (log_of answers ms) = ap length m.log_is in
    let settled_all : length p.settled ≡ length turns = idle.settled_all in
    let rest = k.turns_left answers turns ms left t.turns.in_turn all (omega arith) in
    let bytes : p.to_backend.sent ≡ input_bytes t.backend.history.input ++ flat_map (spelling frontend) left =
    m.read.sent_is ∙ sent_parts (opening p.client.settings) (Messages p t) t.backend.history.input.packets t.backend.history.input.messages left m.read.packets m.read.messages in
    record {
      phase = t.backend.is_history.phase_is ∙ spared_phase p.backend.stage _ spared (t.backend.not_lost whole) ∙ m.phase ∙ ap place_phase rest.1;
      leaves_copies = ∣ record { input = t.backend.history.input; rest = t.backend.history.rest; handled = tied_handled p t; unhandled = left; sent = bytes; copies = rest.0 } ∣₁;
    }

pub headline : Known → {C : Type 0} (p : PairView C) → Tied p → Headline p
headline k p t = record {
  beginning = subst (λ n. map settled_as p.settled ≡ take n (map answered_as p.backend.log)) (length-map p.settled settled_as) (begins_take (map settled_as p.settled) (map answered_as p.backend.log) (settled_begin k p t));
  copied = all_taken k p t;
  asked = ∣ all_asked k p t ∣₁;
  one_at_most = one_unsettled k p t;
  ready = λ ready whole spared.
      let idle = client_idle k p t ready in
      elim (tied_meets k p t) [ inl s ↦ absurd (idle.has_whole s.none) | inr m ↦ ready_with k p t idle m whole spared ];
}
