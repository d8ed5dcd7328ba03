-- What a step has done to what was handled.
use Rattle.std.proofs.Common.{◌≡◌, ℕ, true, false, List, [], ◌∷◌, ◌++◌, refl, ap, sym, ◌∙◌}
use Rattle.std.specs.List.{flat_map, AllByRecursion}
use Rattle.std.proofs.lemmas.Grind.{flat_map-append}
use Rattle.std.proofs.lemmas.List.{append-nil}
use Rattle.pg_wire.specs.message.First.{First}
use Rattle.pg_wire.specs.message.First.TheVariants as first
use Rattle.pg_wire.specs.message.FrontMessage.{FrontMessage}
use Rattle.pg_wire.specs.First.{EndsIn, is_last}
use Rattle.pg_backend.specs.declared.script.Script.{Script}
use Rattle.pg_backend.specs.Opening.{Sent, No, sent_for}
use Rattle.pg_backend.specs.Input.{Input, is_started, sent_bytes, packets_log, packets_end, transcript, output, IsSpelled}
use Rattle.pg_backend.specs.History.{History}
use Rattle.pg_backend.proofs.Beginnings.{all_of_both}

-- a history of which this input was handled
abbrev pub with_input : Input → History → History
with_input i h = record h { input = i }

-- ---- packets after which more may come

no_last : true ≡ false → ⊥
no_last e = cc

abbrev pub GoOn : List First → Type 0
GoOn packets = AllByRecursion (λ p. is_last p ≡ false) packets

pub go_on : (packets : List First) → EndsIn packets false → GoOn packets
go_on [] h = tt
go_on (p ∷ []) h = (sym h, tt)
go_on (p ∷ q ∷ packets) h = (h.0, go_on (q ∷ packets) h.1)

pub not_started : (packets : List First) → GoOn packets → is_started packets ≡ false
not_started [] h = refl
not_started (first.Ssl ∷ packets) h = not_started packets h.1
not_started (first.Gss ∷ packets) h = not_started packets h.1
not_started (first.Cancel process secret ∷ packets) h = not_started packets h.1
not_started (first.Startup pairs ∷ packets) h = absurd (no_last h.0)

pub started_more : (packets more : List First) → GoOn packets → is_started (packets ++ more) ≡ is_started more
started_more [] more h = refl
started_more (first.Ssl ∷ packets) more h = started_more packets more h.1
started_more (first.Gss ∷ packets) more h = started_more packets more h.1
started_more (first.Cancel process secret ∷ packets) more h = started_more packets more h.1
started_more (first.Startup pairs ∷ packets) more h = absurd (no_last h.0)

pub sent_more : (s : Script) (packets more : List First) (ms : List FrontMessage) → GoOn packets → sent_for s (packets ++ more) ms ≡ sent_for s packets [] ++ sent_for s more ms
sent_more s [] more ms h = refl
sent_more s (first.Ssl ∷ packets) more ms h = ap (λ l. No ∷ l) (sent_more s packets more ms h.1)
sent_more s (first.Gss ∷ packets) more ms h = ap (λ l. No ∷ l) (sent_more s packets more ms h.1)
sent_more s (first.Cancel process secret ∷ packets) more ms h = absurd (no_last h.0)
sent_more s (first.Startup pairs ∷ packets) more ms h = absurd (no_last h.0)

pub log_more : (s : Script) (packets more : List First) (ms : List FrontMessage) → GoOn packets → packets_log s (packets ++ more) ms ≡ packets_log s more ms
log_more s [] more ms h = refl
log_more s (first.Ssl ∷ packets) more ms h = log_more s packets more ms h.1
log_more s (first.Gss ∷ packets) more ms h = log_more s packets more ms h.1
log_more s (first.Cancel process secret ∷ packets) more ms h = log_more s packets more ms h.1
log_more s (first.Startup pairs ∷ packets) more ms h = absurd (no_last h.0)

pub end_more : (s : Script) (packets more : List First) (ms : List FrontMessage) → GoOn packets → packets_end s (packets ++ more) ms ≡ packets_end s more ms
end_more s [] more ms h = refl
end_more s (first.Ssl ∷ packets) more ms h = end_more s packets more ms h.1
end_more s (first.Gss ∷ packets) more ms h = end_more s packets more ms h.1
end_more s (first.Cancel process secret ∷ packets) more ms h = absurd (no_last h.0)
end_more s (first.Startup pairs ∷ packets) more ms h = absurd (no_last h.0)

-- nothing is logged for them
pub log_none : (s : Script) (packets : List First) (ms : List FrontMessage) → GoOn packets → packets_log s packets ms ≡ []
log_none s [] ms h = refl
log_none s (first.Ssl ∷ packets) ms h = log_none s packets ms h.1
log_none s (first.Gss ∷ packets) ms h = log_none s packets ms h.1
log_none s (first.Cancel process secret ∷ packets) ms h = log_none s packets ms h.1
log_none s (first.Startup pairs ∷ packets) ms h = absurd (no_last h.0)

-- ---- what is sent

-- What is sent beyond what was, where nothing is faulty.
pub record SentMore (s : Script) (i j : Input) (es : List Sent) : Type 0 where
  pub more : transcript s j ≡ transcript s i ++ es

pub output_more : (s : Script) (i j : Input) (es : List Sent) (sent : List ℕ) → SentMore s i j es → sent ≡ output s i → sent ++ flat_map sent_bytes es ≡ output s j
output_more s i j es sent h is = ap (λ l. l ++ flat_map sent_bytes es) is ∙ sym (flat_map-append sent_bytes (transcript s i) es) ∙ ap (flat_map sent_bytes) (sym h.more)

pub spelled_more : (s : Script) (i j : Input) (es : List Sent) → SentMore s i j es → AllByRecursion IsSpelled (transcript s i) → AllByRecursion IsSpelled es → AllByRecursion IsSpelled (transcript s j)
spelled_more s i j es h k l = rw h.more (all_of_both IsSpelled (transcript s i) es k l)

-- for one packet more
pub packet_sent : (s : Script) (ps : List First) (p : First) (es : List Sent) → GoOn ps → es ≡ sent_for s (p ∷ []) []
    → SentMore s (record { packets = ps; messages = []; faulty = false }) (record { packets = ps ++ p ∷ []; messages = []; faulty = false }) es
packet_sent s ps p es go is = record {
  more = append-nil _ ∙ sent_more s ps (p ∷ []) [] go ∙ ap (λ l. sent_for s ps [] ++ l) (sym is) ∙ ap (λ l. l ++ es) (sym (append-nil (sent_for s ps [])));
}
