-- What one packet or one message does to a backend.
use Rattle.std.proofs.Common.{◌≡◌, ◌≢◌, ◌⊎◌, inl, inr, ℕ, Bool, true, List, ◌++◌, Option, Some, None, refl, ap, subst, sym, ◌∙◌}
use Rattle.std.specs.Prelude.{Result, Ok, Err}
use Rattle.pg_wire.specs.declared.fault.WireFault.{WireFault}
use Rattle.pg_wire.specs.declared.fault.WireFault.TheVariants as wire
use Rattle.pg_wire.specs.message.First.{First}
use Rattle.pg_wire.specs.message.FrontMessage.{FrontMessage}
use Rattle.pg_wire.specs.Decoder.{DecoderState}
use Rattle.pg_wire.specs.Decoder as decoder
use Rattle.pg_wire.specs.FirstDecoder.{FirstState, FirstTakes, PacketWantsMemory}
use Rattle.pg_wire.specs.Frontend.{frontend}
use Rattle.pg_backend.specs.declared.fault.BackendFault.{BackendFault}
use Rattle.pg_backend.specs.declared.fault.BackendFault.TheVariants as faults
use Rattle.pg_backend.specs.declared.stage.Awaits.{Awaits}
use Rattle.pg_backend.specs.declared.stage.ClosedBy.TheVariants as closed_by
use Rattle.pg_backend.specs.declared.stage.Next.{Next}
use Rattle.pg_backend.specs.declared.stage.Next.TheVariants as next
use Rattle.pg_backend.specs.declared.stage.BackStage.{BackStage}
use Rattle.pg_backend.specs.declared.stage.BackStage.TheVariants as stage
use Rattle.pg_backend.specs.Stage.{BackendState, IsWaiting, HasFaultyRest, WantsMemory}
use Rattle.pg_backend.specs.Private.Moves.{Move, move}
use Rattle.pg_backend.specs.Private.Advancing.{Effect, applied, stage_of, message_effect, stray_tag, packet_effect, Begun, Taken, HasNext, TakesEffect, Sends, Advances, AdvancesUnlessClosed, BreaksOff}
use Rattle.pg_backend.specs.Private.Playing.{PlayingState, Moves}
use Rattle.pg_backend.proofs.Machine.Effects.{says}

-- ---- a fault of the decoder

differs : (f : Option WireFault) (g : WireFault) → f ≡ None → f ≡ Some g → ⊥
differs f g is e = cc

-- a packet or a message that waits is no open rest
first_wants : (d : FirstState) → PacketWantsMemory d.kept → WantsMemory (stage.First d)
first_wants d wants waiting = waiting.no_packet wants.0 wants.1 wants.2 wants.4

open_wants : (d : DecoderState) (a : Awaits) → decoder.WantsMemory frontend d.limit d.kept → WantsMemory (stage.Open d a)
open_wants d a wants waiting = waiting.no_message wants.0 wants.1 wants.2 wants.4

-- The decoder wants memory for what is there, or the rest is faulty.
abbrev Reason : BackStage → WireFault → Type 0
Reason s f = ((f ≡ wire.Memory) × WantsMemory s) ⊎ ((f ≢ wire.Memory) × HasFaultyRest s f)

first_reason : (d d' : FirstState) (f : WireFault) → d.fault ≡ None → FirstTakes d (Err f) d' → Reason (stage.First d) f
first_reason d d' wire.Memory none h = inl (refl, first_wants d h.3)
first_reason d d' (wire.UnknownTag t) none (inl h) = absurd (differs d.fault _ none h.0)
first_reason d d' (wire.UnknownTag t) none (inr h) = inr (λ e. cc, h.3)
first_reason d d' (wire.ShortLength n) none (inl h) = absurd (differs d.fault _ none h.0)
first_reason d d' (wire.ShortLength n) none (inr h) = inr (λ e. cc, h.3)
first_reason d d' (wire.LongLength n) none (inl h) = absurd (differs d.fault _ none h.0)
first_reason d d' (wire.LongLength n) none (inr h) = inr (λ e. cc, h.3)
first_reason d d' (wire.BadFirst n) none (inl h) = absurd (differs d.fault _ none h.0)
first_reason d d' (wire.BadFirst n) none (inr h) = inr (λ e. cc, h.3)
first_reason d d' (wire.BadBody t) none (inl h) = absurd (differs d.fault _ none h.0)
first_reason d d' (wire.BadBody t) none (inr h) = inr (λ e. cc, h.3)

open_reason : (d d' : DecoderState) (a : Awaits) (f : WireFault) → d.fault ≡ None → decoder.Takes frontend d (Err f) d' → Reason (stage.Open d a) f
open_reason d d' a wire.Memory none h = inl (refl, open_wants d a h.2)
open_reason d d' a (wire.UnknownTag t) none (inl h) = absurd (differs d.fault _ none h.0)
open_reason d d' a (wire.UnknownTag t) none (inr h) = inr (λ e. cc, h.2)
open_reason d d' a (wire.ShortLength n) none (inl h) = absurd (differs d.fault _ none h.0)
open_reason d d' a (wire.ShortLength n) none (inr h) = inr (λ e. cc, h.2)
open_reason d d' a (wire.LongLength n) none (inl h) = absurd (differs d.fault _ none h.0)
open_reason d d' a (wire.LongLength n) none (inr h) = inr (λ e. cc, h.2)
open_reason d d' a (wire.BadFirst n) none (inl h) = absurd (differs d.fault _ none h.0)
open_reason d d' a (wire.BadFirst n) none (inr h) = inr (λ e. cc, h.2)
open_reason d d' a (wire.BadBody t) none (inl h) = absurd (differs d.fault _ none h.0)
open_reason d d' a (wire.BadBody t) none (inr h) = inr (λ e. cc, h.2)

not_waiting : (s : BackStage) (f : WireFault) → HasFaultyRest s f → IsWaiting s → ⊥
not_waiting (stage.First d) f h w = w.no_fault f h
not_waiting (stage.Open d a) f h w = w.no_fault f h
not_waiting (stage.Closed e) f h w = w

wanted : (s : BackStage) (f : WireFault) → Reason s f → WantsMemory s
wanted (stage.First d) f (inl h) = h.1
wanted (stage.First d) f (inr h) = not_waiting (stage.First d) f h.1
wanted (stage.Open d a) f (inl h) = h.1
wanted (stage.Open d a) f (inr h) = not_waiting (stage.Open d a) f h.1
wanted (stage.Closed e) f (inl h) = h.1
wanted (stage.Closed e) f (inr h) = h.1

broken : (s : BackStage) (f g : WireFault) → f ≡ g → g ≢ wire.Memory → Reason s f → HasFaultyRest s g
broken s f g e not_memory (inl h) = absurd (not_memory (sym e ∙ h.0))
broken s f g e not_memory (inr h) = rw (← e) h.1

-- ---- a step of an open backend

-- a backend that plays this and stands there
abbrev pub backend_of : PlayingState → ℕ → BackStage → BackendState
backend_of p limit s = record { script = p.script; limit = limit; left = p.left; stage = s; log = p.log }

unless_closed : (s old : BackendState) (before : List ℕ) (r : Result Bool BackendFault) (new : BackendState) (after : List ℕ) → s ≡ old → Advances s before r new after → AdvancesUnlessClosed old before r new after
unless_closed s old before (Ok x) new after e h = subst (λ (b : BackendState). Advances b before (Ok x) new after) e h
unless_closed s old before (Err (faults.Unexpected t)) new after e h = subst (λ (b : BackendState). Advances b before (Err (faults.Unexpected t)) new after) e h
unless_closed s old before (Err (faults.Wire f)) new after e h = subst (λ (b : BackendState). Advances b before (Err (faults.Wire f)) new after) e h
unless_closed s old before (Err faults.Memory) new after e h = subst (λ (b : BackendState). Advances b before (Err faults.Memory) new after) e h
unless_closed s old before (Err faults.Closed) new after e h = absurd h

breaks : (p : PlayingState) (limit : ℕ) (s there : BackStage) (f : WireFault) (before after : List ℕ) (r : Result Bool BackendFault)
    → Reason s f → there ≡ stage.Closed closed_by.Input → BreaksOff f before r after → Advances (backend_of p limit s) before r (backend_of p limit there) after
breaks p limit s there f before after (Ok x) why closed h = absurd h
breaks p limit s there f before after (Err (faults.Wire g)) why closed h = (broken s f g h.0 h.1 why, ap (backend_of p limit) closed, h.2)
breaks p limit s there f before after (Err faults.Memory) why closed h = (wanted s f why, refl, h)
breaks p limit s there f before after (Err faults.Closed) why closed h = absurd h
breaks p limit s there f before after (Err (faults.Unexpected t)) why closed h = absurd h

pub first_breaks : (old : BackendState) (p : PlayingState) (limit : ℕ) (d d' : FirstState) (there : BackStage) (f : WireFault) (before after : List ℕ) (r : Result Bool BackendFault)
    → backend_of p limit (stage.First d) ≡ old → d.fault ≡ None → FirstTakes d (Err f) d' → there ≡ stage.Closed closed_by.Input → BreaksOff f before r after
    → AdvancesUnlessClosed old before r (backend_of p limit there) after
first_breaks old p limit d d' there f before after r same none h closed k = unless_closed _ old before r _ after same (breaks p limit (stage.First d) there f before after r (first_reason d d' f none h) closed k)

pub open_breaks : (old : BackendState) (p : PlayingState) (limit : ℕ) (d d' : DecoderState) (a : Awaits) (there : BackStage) (f : WireFault) (before after : List ℕ) (r : Result Bool BackendFault)
    → backend_of p limit (stage.Open d a) ≡ old → d.fault ≡ None → decoder.Takes frontend d (Err f) d' → there ≡ stage.Closed closed_by.Input → BreaksOff f before r after
    → AdvancesUnlessClosed old before r (backend_of p limit there) after
open_breaks old p limit d d' a there f before after r same none h closed k = unless_closed _ old before r _ after same (breaks p limit (stage.Open d a) there f before after r (open_reason d d' a f none h) closed k)

-- ---- a message

abbrev pub answer_of : Next → Result Bool BackendFault
answer_of (next.Goes a) = Ok true
answer_of next.Ends = Ok true
answer_of (next.Strays t) = Err (faults.Unexpected t)

abbrev Took : BackendState → BackStage → Next → List ℕ → BackendState → List ℕ → Type 0
Took b s n before new after = (e : Effect) × HasNext b s (stray_tag n) e × (new ≡ applied b e) × Sends e.sent before after

answered : (p : PlayingState) (limit : ℕ) (s : BackStage) (n : Next) (before : List ℕ) (new : BackendState) (after : List ℕ) → Took (backend_of p limit s) s n before new after → Advances (backend_of p limit s) before (answer_of n) new after
answered p limit s (next.Goes x) before new after h = h
answered p limit s next.Ends before new after h = h
answered p limit s (next.Strays t) before new after h = h

changed : (p p' : PlayingState) (limit : ℕ) (s : BackStage) (d' : DecoderState) (n : Next) (v : Move) → n ≡ v.next → p' ≡ record p { left = v.left; log = p.log ++ v.logged }
    → backend_of p' limit (stage_of d' n) ≡ applied (backend_of p limit s) (message_effect d' v)
changed p p' limit s d' n v is grown = rw (is, grown) refl

pub took_message : (old : BackendState) (p p' : PlayingState) (limit : ℕ) (d d' : DecoderState) (a : Awaits) (m : FrontMessage) (n : Next) (r : Result Next BackendFault) (before after : List ℕ)
    → backend_of p limit (stage.Open d a) ≡ old → decoder.Takes frontend d (Ok (Some m)) d' → Taken d d' m → r ≡ Ok n → Moves (move p.script p.left a m) p before r p' after
    → AdvancesUnlessClosed old before (answer_of n) (backend_of p' limit (stage_of d' n)) after
took_message old p p' limit d d' a m n r before after same takes taken ok moves =
    let h = rw ok at moves in
    let v = move p.script p.left a m in
    unless_closed _ old before (answer_of n) _ after same
    (answered p limit (stage.Open d a) n before _ after (message_effect d' v, (m, d', takes, taken, ap stray_tag h.0, refl), changed p p' limit (stage.Open d a) d' n v h.0 h.1, says v.sent before after h.2))

-- ---- a packet

pub took_packet : (old : BackendState) (p : PlayingState) (limit : ℕ) (d d' : FirstState) (m : First) (there : BackStage) (w : BackendState) (r : Result Unit BackendFault) (x : Unit {0}) (before after : List ℕ)
    → backend_of p limit (stage.First d) ≡ old → FirstTakes d (Ok (Some m)) d' → Begun d d' m → r ≡ Ok x
    → TakesEffect (packet_effect (backend_of p limit there) d' m) (backend_of p limit there) before r w after
    → AdvancesUnlessClosed old before (Ok true) w after
took_packet old p limit d d' m there w r x before after same takes begun ok done =
    let h = rw ok at done in
    let b = backend_of p limit (stage.First d) in
    unless_closed b old before (Ok true) w after same (packet_effect b d' m, (m, d', takes, begun, refl, refl), h.0, h.1)
