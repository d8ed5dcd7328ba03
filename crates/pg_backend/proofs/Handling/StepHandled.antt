-- A step carries each history of a backend on.
use Rattle.std.proofs.Common.{◌≡◌, ℕ, Bool, true, false, List, [], ◌∷◌, ◌++◌, Some, None, refl, ap, sym, ◌∙◌, subst}
use Rattle.std.specs.Prelude.{Result, Ok, Err}
use Rattle.std.specs.List.{flat_map, AllByRecursion}
use Rattle.std.proofs.lemmas.List.{append-nil}
use Rattle.pg_wire.specs.declared.fault.WireFault.{WireFault}
use Rattle.pg_wire.specs.message.First.{First}
use Rattle.pg_wire.specs.message.FrontMessage.{FrontMessage}
use Rattle.pg_wire.specs.Decoder.{DecoderState}
use Rattle.pg_wire.specs.FirstDecoder.{FirstState}
use Rattle.pg_wire.specs.Frontend.{frontend}
use Rattle.pg_backend.specs.declared.fault.BackendFault.{BackendFault}
use Rattle.pg_backend.specs.declared.fault.BackendFault.TheVariants as faults
use Rattle.pg_backend.specs.declared.script.Answer.{Answer}
use Rattle.pg_backend.specs.declared.script.Logged.{Logged}
use Rattle.pg_backend.specs.declared.script.Script.{Script}
use Rattle.pg_backend.specs.declared.stage.Awaits.{Awaits}
use Rattle.pg_backend.specs.declared.stage.ClosedBy.TheVariants as closed_by
use Rattle.pg_backend.specs.declared.stage.Next.{Next}
use Rattle.pg_backend.specs.declared.stage.Next.TheVariants as next
use Rattle.pg_backend.specs.declared.stage.BackStage.{BackStage}
use Rattle.pg_backend.specs.declared.stage.BackStage.TheVariants as stage
use Rattle.std.proofs.lemmas.Option.{same_Some}
use Rattle.pg_backend.specs.Session.{Stray}
use Rattle.pg_backend.specs.Opening.{sent_for}
use Rattle.pg_backend.specs.Input.{Input, HandlesNext, IsSpelled, sent_bytes, last_word, At, packets_end}
use Rattle.pg_backend.specs.Backend.{StepsFrom}
use Rattle.pg_backend.specs.History.{History, IsHistoryOf, with_handled, with_message, with_fault}
use Rattle.pg_backend.specs.Stage.{BackendState, IsSound}
use Rattle.pg_backend.specs.Private.Moves.{move}
use Rattle.pg_backend.specs.Private.Advancing.{packet_effect, message_effect, stray_tag, Advances, AdvancesUnlessClosed, is_refused}
use Rattle.pg_backend.proofs.Handling.PacketsMore.{with_input, go_on, not_started, SentMore, output_more, spelled_more}
use Rattle.pg_backend.proofs.Handling.PacketHandled.{packet_handled}
use Rattle.pg_backend.proofs.Handling.MessageHandled.{open_input, message_handled}
use Rattle.pg_backend.proofs.Machine.MessageLeads.{NextAt, awaits_end, awaits_no_stray}

abbrev pub at : Script → ℕ → List Answer → List Logged → BackStage → BackendState
at s limit left log st = record { script = s; limit = limit; left = left; stage = st; log = log }

same_input : (i : Input) (ms : List FrontMessage) → i.messages ≡ ms → i.faulty ≡ false → i ≡ open_input i.packets ms
same_input i ms m f = built i.packets i.messages ms i.faulty m f
  where
    built : (ps : List First) (ns ms : List FrontMessage) (b : Bool) → ns ≡ ms → b ≡ false → ◌≡◌ {A = Input} (record { packets = ps; messages = ns; faulty = b }) (open_input ps ms)
    built ps ns ms b m f = rw (m, f) refl

-- ---- nothing whole waits

waits_first : (s : Script) (limit : ℕ) (left : List Answer) (log : List Logged) (d : FirstState) (new : BackendState) (before after : List ℕ) (was : History)
    → d.ended ≡ false → Advances (at s limit left log (stage.First d)) before (Ok false) new after → IsHistoryOf was (at s limit left log (stage.First d))
    → StepsFrom was (at s limit left log (stage.First d)) before (Ok false) new after
waits_first s limit left log d new before after was going a h =
    let no_start = not_started was.input.packets (go_on was.input.packets (rw going at h.stands.0.beginning.last)) in
    ([], a.2 ∙ sym (append-nil before), (rw (no_start, ← h.stands.1) a.0, rw a.1 h))

waits_open : (s : Script) (limit : ℕ) (left : List Answer) (log : List Logged) (d : DecoderState) (w : Awaits) (new : BackendState) (before after : List ℕ) (was : History)
    → d.limit ≡ limit → Advances (at s limit left log (stage.Open d w)) before (Ok false) new after → IsHistoryOf was (at s limit left log (stage.Open d w))
    → StepsFrom was (at s limit left log (stage.Open d w)) before (Ok false) new after
waits_open s limit left log d w new before after was limited a h =
    ([], a.2 ∙ sym (append-nil before), (rw (h.stands.5, ← h.stands.3, ← limited) a.0, rw a.1 h))

-- ---- a faulty rest

faulty_more : (s : Script) (i : Input) → i.faulty ≡ false → SentMore s i (with_fault i) (last_word true)
faulty_more s i f = let told = sent_for s i.packets i.messages in record { more = ap (λ l. l ++ last_word true) (sym (append-nil told) ∙ ap (λ b. told ++ last_word b) (sym f)) }

faulty_handled : (s : Script) (limit : ℕ) (left : List Answer) (log : List Logged) (st : BackStage) (was : History)
    → was.input.faulty ≡ false → AllByRecursion IsSpelled (last_word true) → IsHistoryOf was (at s limit left log st)
    → IsHistoryOf (with_handled (with_fault was.input) was.rest (flat_map sent_bytes (last_word true)) was) (at s limit left log (stage.Closed closed_by.Input))
faulty_handled s limit left log st was f spelled h = record {
  input = record { after_packets = h.input.after_packets; ended = h.input.ended; packets = h.input.packets; messages = h.input.messages; started = h.input.started };
  sent_is = output_more s was.input (with_fault was.input) (last_word true) was.sent (faulty_more s was.input f) h.sent_is;
  spelled = spelled_more s was.input (with_fault was.input) (last_word true) (faulty_more s was.input f) h.spelled spelled;
  log_is = h.log_is;
  phase_is = refl;
  stands = tt;
}

breaks_first : (s : Script) (limit : ℕ) (left : List Answer) (log : List Logged) (d : FirstState) (f : WireFault) (new : BackendState) (before after : List ℕ) (was : History)
    → d.ended ≡ false → Advances (at s limit left log (stage.First d)) before (Err (faults.Wire f)) new after → IsHistoryOf was (at s limit left log (stage.First d))
    → StepsFrom was (at s limit left log (stage.First d)) before (Err (faults.Wire f)) new after
breaks_first s limit left log d f new before after was going a h =
    let no_start = not_started was.input.packets (go_on was.input.packets (rw going at h.stands.0.beginning.last)) in
    (flat_map sent_bytes (last_word true), a.2.appended, (rw (no_start, ← h.stands.1) a.0, rw a.1 (faulty_handled s limit left log (stage.First d) was h.stands.3 a.2.spelled h)))

breaks_open : (s : Script) (limit : ℕ) (left : List Answer) (log : List Logged) (d : DecoderState) (w : Awaits) (f : WireFault) (new : BackendState) (before after : List ℕ) (was : History)
    → d.limit ≡ limit → Advances (at s limit left log (stage.Open d w)) before (Err (faults.Wire f)) new after → IsHistoryOf was (at s limit left log (stage.Open d w))
    → StepsFrom was (at s limit left log (stage.Open d w)) before (Err (faults.Wire f)) new after
breaks_open s limit left log d w f new before after was limited a h =
    (flat_map sent_bytes (last_word true), a.2.appended, (rw (h.stands.5, ← h.stands.3, ← limited) a.0, rw a.1 (faulty_handled s limit left log (stage.Open d w) was h.stands.4 a.2.spelled h)))

-- ---- a packet

takes_first : (s : Script) (limit : ℕ) (left : List Answer) (log : List Logged) (d : FirstState) (new : BackendState) (before after : List ℕ) (was : History)
    → d.ended ≡ false → Advances (at s limit left log (stage.First d)) before (Ok true) new after → IsHistoryOf was (at s limit left log (stage.First d))
    → StepsFrom was (at s limit left log (stage.First d)) before (Ok true) new after
takes_first s limit left log d new before after was going a h =
    let same = same_input was.input [] h.stands.2 h.stands.3 in
    let p = a.1.0 in
    let d' = a.1.1 in
    let e = packet_effect (at s limit left log (stage.First d)) d' p in
    let is : a.0 ≡ e = a.1.5 in
    let sends = rw is at a.3 in
    let ph = packet_handled s limit left log d d' p was.input.packets was going a.1.2 a.1.3 (subst (λ x. IsHistoryOf (with_input x was) (at s limit left log (stage.First d))) same h) sends.spelled in
    (flat_map sent_bytes e.sent, sends.appended, (open_input (was.input.packets ++ p ∷ []) [], d'.kept, subst (λ x. HandlesNext limit x was.rest (open_input (was.input.packets ++ p ∷ []) []) d'.kept) (sym same) ph.takes, ph.place, rw (a.2, is) ph.handled))

-- ---- a message

not_strayed : (s : Script) (left : List Answer) (ps : List First) (ms : List FrontMessage) (tag : ℕ) (n : Next) → None ≡ stray_tag n → NextAt s ps ms tag left n → packets_end s ps ms ≡ At Stray → ⊥
not_strayed s left ps ms tag (next.Goes w) is h stray = awaits_no_stray w (sym (awaits_end s left ps ms w h) ∙ stray)
not_strayed s left ps ms tag next.Ends is h stray = h.1 stray
not_strayed s left ps ms tag (next.Strays t) is h stray = cc

strayed : (s : Script) (left : List Answer) (ps : List First) (ms : List FrontMessage) (tag t : ℕ) (n : Next) → Some t ≡ stray_tag n → NextAt s ps ms tag left n → (packets_end s ps ms ≡ At Stray) × (tag ≡ t)
strayed s left ps ms tag t (next.Goes w) is h = cc
strayed s left ps ms tag t next.Ends is h = cc
strayed s left ps ms tag t (next.Strays u) is h = (h.0, (let e : t ≡ u = same_Some t u is in sym h.1 ∙ sym e))

takes_open : (s : Script) (limit : ℕ) (left : List Answer) (log : List Logged) (d : DecoderState) (w : Awaits) (new : BackendState) (before after : List ℕ) (was : History)
    → d.limit ≡ limit → Advances (at s limit left log (stage.Open d w)) before (Ok true) new after → IsHistoryOf was (at s limit left log (stage.Open d w))
    → StepsFrom was (at s limit left log (stage.Open d w)) before (Ok true) new after
takes_open s limit left log d w new before after was limited a h =
    let same = same_input was.input was.input.messages refl h.stands.4 in
    let m = a.1.0 in
    let d' = a.1.1 in
    let v = move s left w m in
    let e = message_effect d' v in
    let is : a.0 ≡ e = a.1.5 in
    let sends = rw is at a.3 in
    let mh = message_handled s limit left log d d' w m was.input.packets was.input.messages was limited a.1.2 a.1.3 (subst (λ x. IsHistoryOf (with_input x was) (at s limit left log (stage.Open d w))) same h) sends.spelled in
    let j = open_input was.input.packets (was.input.messages ++ m ∷ []) in (
      flat_map sent_bytes e.sent,
      sends.appended,
      (
        j,
        d'.kept,
        subst (λ x. HandlesNext limit x was.rest j d'.kept) (sym same) mh.takes,
        (λ stray. not_strayed s v.left was.input.packets (was.input.messages ++ m ∷ []) (frontend.tag m) v.next a.1.4 mh.leads stray),
        rw (a.2, is) mh.handled,
      ),
    )

strays_open : (s : Script) (limit : ℕ) (left : List Answer) (log : List Logged) (d : DecoderState) (w : Awaits) (t : ℕ) (new : BackendState) (before after : List ℕ) (was : History)
    → d.limit ≡ limit → Advances (at s limit left log (stage.Open d w)) before (Err (faults.Unexpected t)) new after → IsHistoryOf was (at s limit left log (stage.Open d w))
    → StepsFrom was (at s limit left log (stage.Open d w)) before (Err (faults.Unexpected t)) new after
strays_open s limit left log d w t new before after was limited a h =
    let same = same_input was.input was.input.messages refl h.stands.4 in
    let m = a.1.0 in
    let d' = a.1.1 in
    let v = move s left w m in
    let e = message_effect d' v in
    let is : a.0 ≡ e = a.1.5 in
    let sends = rw is at a.3 in
    let mh = message_handled s limit left log d d' w m was.input.packets was.input.messages was limited a.1.2 a.1.3 (subst (λ x. IsHistoryOf (with_input x was) (at s limit left log (stage.Open d w))) same h) sends.spelled in
    let st = strayed s v.left was.input.packets (was.input.messages ++ m ∷ []) (frontend.tag m) t v.next a.1.4 mh.leads in
    let j = with_message m was.input in
    let same_j : j ≡ open_input was.input.packets (was.input.messages ++ m ∷ []) = same_input j (was.input.messages ++ m ∷ []) refl h.stands.4 in (
      flat_map sent_bytes e.sent,
      sends.appended,
      (
        m,
        d'.kept,
        st.1,
        subst (λ x. HandlesNext limit x was.rest j d'.kept) (sym same) (subst (λ x. HandlesNext limit (open_input was.input.packets was.input.messages) was.rest x d'.kept) (sym same_j) mh.takes),
        st.0,
        subst (λ x. IsHistoryOf (with_handled x d'.kept (flat_map sent_bytes e.sent) was) new) (sym same_j) (rw (a.2, is) mh.handled),
      ),
    )

-- ---- a step

pub step_done : (s : Script) (limit : ℕ) (left : List Answer) (log : List Logged) (st : BackStage) (new : BackendState) (before after : List ℕ) (r : Result Bool BackendFault) → IsSound limit st → (r ≡ Err faults.Memory → ⊥)
    → AdvancesUnlessClosed (at s limit left log st) before r new after → (was : History) → IsHistoryOf was (at s limit left log st)
    → StepsFrom was (at s limit left log st) before r new after
step_done s limit left log (stage.First d) new before after (Ok false) sound memory a was h = waits_first s limit left log d new before after was sound.1 a h
step_done s limit left log (stage.Open d w) new before after (Ok false) sound memory a was h = waits_open s limit left log d w new before after was sound.1 a h
step_done s limit left log (stage.Closed e) new before after (Ok false) sound memory a was h = absurd a.0
step_done s limit left log (stage.First d) new before after (Ok true) sound memory a was h = takes_first s limit left log d new before after was sound.1 a h
step_done s limit left log (stage.Open d w) new before after (Ok true) sound memory a was h = takes_open s limit left log d w new before after was sound.1 a h
step_done s limit left log (stage.Closed e) new before after (Ok true) sound memory a was h = absurd a.1
step_done s limit left log (stage.First d) new before after (Err (faults.Unexpected t)) sound memory a was h = absurd (no_tag t a.1.4)
  where
    no_tag : (t : ℕ) → Some t ≡ None → ⊥
    no_tag t e = cc
step_done s limit left log (stage.Open d w) new before after (Err (faults.Unexpected t)) sound memory a was h = strays_open s limit left log d w t new before after was sound.1 a h
step_done s limit left log (stage.Closed e) new before after (Err (faults.Unexpected t)) sound memory a was h = absurd a.1
step_done s limit left log (stage.First d) new before after (Err (faults.Wire f)) sound memory a was h = breaks_first s limit left log d f new before after was sound.1 a h
step_done s limit left log (stage.Open d w) new before after (Err (faults.Wire f)) sound memory a was h = breaks_open s limit left log d w f new before after was sound.1 a h
step_done s limit left log (stage.Closed e) new before after (Err (faults.Wire f)) sound memory a was h = absurd a.0
step_done s limit left log st new before after (Err faults.Closed) sound memory a was h = ([], a.2 ∙ sym (append-nil before), rw a.1 h)
step_done s limit left log st new before after (Err faults.Memory) sound memory a was h = absurd (memory refl)

pub refused_is : (r : Result Bool BackendFault) → is_refused r ≡ true → r ≡ Err faults.Memory
refused_is (Err faults.Memory) e = refl
refused_is (Err (faults.Wire f)) e = cc
refused_is (Err faults.Closed) e = cc
refused_is (Err (faults.Unexpected t)) e = cc
refused_is (Ok x) e = cc

pub memory_not_refused : (r : Result Bool BackendFault) → is_refused r ≡ false → r ≡ Err faults.Memory → ⊥
memory_not_refused (Err faults.Memory) e is = cc
memory_not_refused (Err (faults.Wire f)) e is = cc
memory_not_refused (Err faults.Closed) e is = cc
memory_not_refused (Err (faults.Unexpected t)) e is = cc
memory_not_refused (Ok x) e is = cc

-- a step that ran out of memory
pub refused_done : (s : Script) (limit : ℕ) (left : List Answer) (log : List Logged) (st : BackStage) (mid new : BackendState) (before after : List ℕ) (r : Result Bool BackendFault)
    → r ≡ Err faults.Memory → record mid { stage = stage.Closed closed_by.Memory } ≡ at s limit left log (stage.Closed closed_by.Memory) → new ≡ record mid { stage = stage.Closed closed_by.Memory } → after ≡ before
    → (was : History) → IsHistoryOf was (at s limit left log st)
    → StepsFrom was (at s limit left log st) before r new after
refused_done s limit left log st mid new before after r is same closed back was h =
    rw (is, closed, same) ([], back ∙ sym (append-nil before), record { input = h.input; sent_is = h.sent_is; spelled = h.spelled; log_is = h.log_is; phase_is = refl; stands = tt })
