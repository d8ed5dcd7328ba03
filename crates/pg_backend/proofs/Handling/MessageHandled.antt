-- What was handled, with one message more.
use Rattle.std.proofs.Common.{◌≡◌, ℕ, Bool, true, false, List, [], ◌∷◌, ◌++◌, Some, map, refl, ap, sym, ◌∙◌}
use Rattle.std.specs.Prelude.{Ok}
use Rattle.std.specs.List.{flat_map, AllByRecursion}
use Rattle.std.proofs.lemmas.List.{append-nil}
use Rattle.pg_wire.specs.message.First.{First}
use Rattle.pg_wire.specs.message.FrontMessage.{FrontMessage}
use Rattle.pg_wire.specs.Decoder.{DecoderState}
use Rattle.pg_wire.specs.Decoder as decoder
use Rattle.pg_wire.specs.Direction.{spelling}
use Rattle.pg_wire.specs.First.{IsBeginning}
use Rattle.pg_wire.specs.Frontend.{frontend}
use Rattle.pg_wire.specs.Stream.{IsWithin}
use Rattle.pg_backend.specs.declared.script.Answer.{Answer}
use Rattle.pg_backend.specs.declared.script.Logged.{Logged}
use Rattle.pg_backend.specs.declared.script.Script.{Script}
use Rattle.pg_backend.specs.declared.stage.Awaits.{Awaits}
use Rattle.pg_backend.specs.declared.stage.Next.{Next}
use Rattle.pg_backend.specs.declared.stage.Next.TheVariants as next
use Rattle.pg_backend.specs.declared.stage.BackStage.TheVariants as stage
use Rattle.pg_backend.specs.Opening.{Says}
use Rattle.pg_backend.specs.Input.{Input, is_started, HandlesNext, message_taken, IsSpelled, sent_bytes, packets_end, end_phase}
use Rattle.pg_backend.specs.History.{History, IsHistoryOf, StandsAt, with_handled}
use Rattle.pg_backend.specs.Stage.{BackendState, phase_of, phase_by}
use Rattle.pg_backend.specs.Private.Moves.{Move, move}
use Rattle.pg_backend.specs.Private.Advancing.{Effect, applied, message_effect, stage_of, Taken}
use Rattle.pg_backend.proofs.Handling.PacketsMore.{with_input, SentMore, output_more, spelled_more}
use Rattle.pg_backend.proofs.Machine.MessageLeads.{NextAt, Led, led, awaits_end}

abbrev pub open_input : List First → List FrontMessage → Input
open_input ps ms = record { packets = ps; messages = ms; faulty = false }

-- What is told of the next message.
pub record MessageHandled (b : BackendState) (e : Effect) (was : History) (ps : List First) (ms : List FrontMessage) (m : FrontMessage) (n : Next) (left : List ℕ) : Type 0 where
  pub takes : HandlesNext b.limit (open_input ps ms) was.rest (open_input ps (ms ++ m ∷ [])) left
  pub leads : NextAt b.script ps (ms ++ m ∷ []) (frontend.tag m) e.left n
  pub handled : IsHistoryOf (with_handled (open_input ps (ms ++ m ∷ [])) left (flat_map sent_bytes e.sent) was) (applied b e)

message_sent : (s : Script) (ps : List First) (ms : List FrontMessage) (m : FrontMessage) (v : Move) → Led s ps ms m v → SentMore s (open_input ps ms) (open_input ps (ms ++ m ∷ [])) (map Says v.sent)
message_sent s ps ms m v l = record { more = append-nil _ ∙ l.sends ∙ ap (λ x. x ++ map Says v.sent) (sym (append-nil _)) }

takes_message : (limit : ℕ) (ps : List First) (ms : List FrontMessage) (m : FrontMessage) (rest left : List ℕ) → is_started ps ≡ true → IsWithin frontend limit m → rest ≡ spelling frontend m ++ left
    → HandlesNext limit (open_input ps ms) rest (open_input ps (ms ++ m ∷ [])) left
takes_message limit ps ms m rest left started within is = rw is (message_taken ps ms m left started within)

-- the phase after the message
next_phase : (s : Script) (left : List Answer) (ps : List First) (ms : List FrontMessage) (tag : ℕ) (d' : DecoderState) (n : Next) → NextAt s ps ms tag left n
    → phase_of (stage_of d' n) ≡ phase_by (stage_of d' n) (end_phase (packets_end s ps ms))
next_phase s left ps ms tag d' (next.Goes a) h = ap end_phase (sym (awaits_end s left ps ms a h))
next_phase s left ps ms tag d' next.Ends h = sym h.0
next_phase s left ps ms tag d' (next.Strays t) h = ap end_phase (sym h.0)

-- the place after the message
next_stage : (s : Script) (left : List Answer) (was : History) (added : List ℕ) (ps : List First) (ms : List FrontMessage) (tag : ℕ) (d' : DecoderState) (after_packets : List ℕ) (n : Next)
    → IsBeginning was.pushed ps true after_packets → decoder.HasTaken frontend d' after_packets ms → is_started ps ≡ true → NextAt s ps ms tag left n
    → StandsAt s left (with_handled (open_input ps ms) d'.kept added was) (stage_of d' n)
next_stage s left was added ps ms tag d' after_packets (next.Goes a) beginning taken started h = (after_packets, beginning, taken, refl, refl, started, h)
next_stage s left was added ps ms tag d' after_packets next.Ends beginning taken started h = tt
next_stage s left was added ps ms tag d' after_packets (next.Strays t) beginning taken started h = tt

pub message_handled : (s : Script) (limit : ℕ) (left : List Answer) (log : List Logged) (d d' : DecoderState) (a : Awaits) (m : FrontMessage) (ps : List First) (ms : List FrontMessage) (was : History)
    → d.limit ≡ limit → decoder.Takes frontend d (Ok (Some m)) d' → Taken d d' m
    → let b : BackendState = record { script = s; limit = limit; left = left; stage = stage.Open d a; log = log } in let v = move s left a m in let e = message_effect d' v in
    IsHistoryOf (with_input (open_input ps ms) was) b → AllByRecursion IsSpelled e.sent → MessageHandled b e was ps ms m v.next d'.kept
message_handled s limit left log d d' a m ps ms was limited takes taken h spelled =
    let v = move s left a m in
    let st = h.stands in
    let l = led s left ps ms m a st.6 in
    let more = message_sent s ps ms m v l in
    let taken' = taken st.0 ms st.2 in
    let same : d'.limit ≡ limit = ap (λ (x : DecoderState). x.limit) takes.3 ∙ limited in
    record {
      takes = takes_message limit ps ms m was.rest d'.kept st.5 (rw (← limited) takes.1) (sym st.3 ∙ takes.2);
      leads = l.leads;
      handled = record {
        input = record { after_packets = st.0; ended = true; packets = st.1; messages = rw (← same) taken'.stream; started = λ no_start. absurd (starts_not (is_started ps) st.5 no_start) };
        sent_is = output_more s (open_input ps ms) (open_input ps (ms ++ m ∷ [])) (map Says v.sent) was.sent more h.sent_is;
        spelled = spelled_more s (open_input ps ms) (open_input ps (ms ++ m ∷ [])) (map Says v.sent) more h.spelled spelled;
        log_is = ap (λ x. x ++ v.logged) h.log_is ∙ sym l.logs;
        phase_is = next_phase s v.left ps (ms ++ m ∷ []) (frontend.tag m) d' v.next l.leads;
        stands = next_stage s v.left was (flat_map sent_bytes (map Says v.sent)) ps (ms ++ m ∷ []) (frontend.tag m) d' st.0 v.next st.1 taken' st.5 l.leads;
      };
    }
  where
    starts_not : (b : Bool) → b ≡ true → b ≡ false → ⊥
    starts_not b e f = cc
