-- What a backend sends, and how its state changes.
use Rattle.std.proofs.Common.{◌≡◌, ℕ, List, [], ◌∷◌, ◌++◌, map, refl, ap, sym, ◌∙◌}
use Rattle.std.specs.Prelude.{Result, Ok, Err, MatchResult}
use Rattle.std.specs.List.{AllByRecursion}
use Rattle.std.proofs.lemmas.List.Folds.{flat_map-map}
use Rattle.std.proofs.lemmas.List.{append-nil}
use Rattle.pg_wire.specs.fault.EncodeFault.{EncodeFault}
use Rattle.pg_wire.specs.message.BackMessage.{BackMessage}
use Rattle.pg_wire.specs.Backend.{backend}
use Rattle.pg_wire.specs.Decoder.{DecoderState}
use Rattle.pg_wire.specs.Direction.{HasSpelling}
use Rattle.pg_wire.specs.FirstDecoder.{FirstState}
use Rattle.pg_backend.specs.declared.fault.BackendFault.{BackendFault}
use Rattle.pg_backend.specs.declared.fault.BackendFault.TheVariants as faults
use Rattle.pg_backend.specs.declared.script.Script.{Script}
use Rattle.pg_backend.specs.declared.stage.Awaits.{Awaits}
use Rattle.pg_backend.specs.declared.stage.BackStage.{BackStage}
use Rattle.pg_backend.specs.declared.stage.BackStage.TheVariants as stage
use Rattle.pg_backend.specs.Opening.{Says}
use Rattle.pg_backend.specs.Input.{sent_bytes, IsSpelled}
use Rattle.pg_backend.specs.Stage.{BackendState}
use Rattle.pg_backend.specs.Private.Opening.{awaits_first, greeting, Greets}
use Rattle.pg_backend.specs.Private.Playing.{PlayingState}
use Rattle.pg_backend.specs.Telling.{EncodesAll}
use Rattle.pg_backend.specs.Private.Telling.{AreSent}
use Rattle.pg_backend.specs.Private.Advancing.{applied, named_effect, Sends}

all_says : (ms : List BackMessage) → AllByRecursion (HasSpelling backend) ms → AllByRecursion IsSpelled (map Says ms)
all_says [] h = tt
all_says (m ∷ ms) h = (h.0, all_says ms h.1)

-- messages that are spelled are sent
pub says : (ms : List BackMessage) (before after : List ℕ) → AreSent ms before after → Sends (map Says ms) before after
says ms before after h = record {
  spelled = all_says ms h.spelled;
  appended = h.appended ∙ ap (λ l. before ++ l) (sym (flat_map-map sent_bytes Says ms));
}

pub says_all : (ms : List BackMessage) (before after : List ℕ) → EncodesAll ms before (Ok tt) after → Sends (map Says ms) before after
says_all ms before after h = says ms before after (record { spelled = h.says.0; appended = h.appended ∙ ap (λ l. before ++ l) h.says.1 })

pub put_ok : (r : Result Unit EncodeFault) (s : Result Unit BackendFault) (x : Unit {0}) → MatchResult r (λ _. s ≡ Ok tt) (λ _. s ≡ Err faults.Memory) → s ≡ Ok x → r ≡ Ok tt
put_ok (Ok u) s x h is = refl
put_ok (Err f) s x h is = cc

-- a client was let in, or asked for its password
pub admitted : (b : BackendState) (v : PlayingState) (limit : ℕ) (old : BackStage) (fs : FirstState) (d : DecoderState) (a : Awaits) (user : List ℕ) (told : Script) (r : Result Awaits BackendFault) (before after : List ℕ)
    → ◌≡◌ {A = BackendState} (record { script = v.script; limit = limit; left = v.left; stage = old; log = v.log }) b
    → d ≡ record { kept = fs.kept; limit = limit; fault = fs.fault } → told ≡ v.script → r ≡ Ok a → Greets told user before r after
    → let e = named_effect b fs user in
    (◌≡◌ {A = BackendState} (record { script = v.script; limit = limit; left = v.left; stage = stage.Open d a; log = v.log }) (applied b e)) × Sends e.sent before after
admitted b v limit old fs d a user told r before after is made same ok greets =
    let h = rw (ok, same) at greets in
    rw (← is, made, h.0) (ap (λ l. record { script = v.script; limit = limit; left = v.left; stage = stage.Open (record { kept = fs.kept; limit = limit; fault = fs.fault }) (awaits_first v.script.auth user); log = l }) (sym (append-nil v.log)), says (greeting v.script v.script.auth) before after h.1)
