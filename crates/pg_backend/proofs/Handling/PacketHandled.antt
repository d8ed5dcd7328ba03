-- What was handled, with one packet more.
use Rattle.std.proofs.Common.{◌≡◌, ℕ, true, false, List, [], ◌∷◌, ◌++◌, Some, None, map, refl, ap, sym, ◌∙◌}
use Rattle.std.specs.Prelude.{Ok}
use Rattle.std.specs.List.{flat_map, AllByRecursion}
use Rattle.std.proofs.lemmas.List.{append-nil}
use Rattle.pg_wire.specs.message.BackMessage.TheVariants as back
use Rattle.pg_wire.specs.message.First.{First}
use Rattle.pg_wire.specs.message.First.TheVariants as first
use Rattle.pg_wire.specs.First.{packet, is_last, IsPacket}
use Rattle.pg_wire.specs.FirstDecoder.{FirstState, HasBegun, FirstTakes}
use Rattle.pg_backend.specs.declared.script.Answer.{Answer}
use Rattle.pg_backend.specs.declared.script.Logged.{Logged}
use Rattle.pg_backend.specs.declared.script.Script.{Script}
use Rattle.pg_backend.specs.declared.stage.ClosedBy.TheVariants as closed_by
use Rattle.pg_backend.specs.declared.stage.BackStage.{BackStage}
use Rattle.pg_backend.specs.declared.stage.BackStage.TheVariants as stage
use Rattle.pg_backend.specs.Session.{Stray}
use Rattle.pg_backend.specs.Opening.{Sent, No, Says, user_from, question_for, admission, admission_messages, sent_for}
use Rattle.pg_backend.specs.OwnError.{no_user}
use Rattle.pg_backend.specs.Input.{Input, is_started, HandlesNext, packet_taken, IsSpelled, sent_bytes, packets_log, admission_log, admission_end, At, Opening, Refusal, End, packets_end, end_phase, IsStray}
use Rattle.pg_backend.specs.History.{History, IsHistoryOf, StandsAt, with_handled}
use Rattle.pg_backend.specs.Stage.{BackendState, awaited_end, phase_of, phase_by}
use Rattle.pg_backend.specs.Private.Advancing.{Effect, applied, packet_effect, startup_effect, Begun}
use Rattle.pg_backend.specs.Private.Opening.{awaits_first, greeting}
use Rattle.pg_backend.proofs.Handling.StartupNamed.{greeted}
use Rattle.pg_backend.proofs.Handling.PacketsMore.{with_input, GoOn, go_on, not_started, started_more, log_more, end_more, log_none, output_more, spelled_more, packet_sent}
use Rattle.pg_backend.proofs.Machine.MessageLeads.{awaits_end, awaits_no_stray}

abbrev pub first_input : List First → Input
first_input ps = record { packets = ps; messages = []; faulty = false }

-- The packet is one more, and the backend stands so after it.
packet_done : (s : Script) (limit : ℕ) (left : List Answer) (log : List Logged) (d d' : FirstState) (p : First) (ps : List First) (was : History) (st : BackStage) (es : List Sent)
    → GoOn ps → HasBegun d' was.pushed (ps ++ p ∷ [])
    → IsHistoryOf (with_input (first_input ps) was) (record { script = s; limit = limit; left = left; stage = stage.First d; log = log })
    → es ≡ sent_for s (p ∷ []) [] → AllByRecursion IsSpelled es → packets_log s (p ∷ []) [] ≡ []
    → phase_of st ≡ phase_by st (end_phase (packets_end s (p ∷ []) []))
    → StandsAt s left (with_handled (first_input (ps ++ p ∷ [])) d'.kept (flat_map sent_bytes es) was) st
    → IsHistoryOf (with_handled (first_input (ps ++ p ∷ [])) d'.kept (flat_map sent_bytes es) was) (record { script = s; limit = limit; left = left; stage = st; log = log ++ [] })
packet_done s limit left log d d' p ps was st es go begun h is spelled no_log phase_is stands = record {
  input = record { after_packets = d'.kept; ended = d'.ended; packets = begun.beginning; messages = record { whole = refl; each = tt }; started = λ _. refl };
  sent_is = output_more s (first_input ps) (first_input (ps ++ p ∷ [])) es was.sent (packet_sent s ps p es go is) h.sent_is;
  spelled = spelled_more s (first_input ps) (first_input (ps ++ p ∷ [])) es (packet_sent s ps p es go is) h.spelled spelled;
  log_is = append-nil log ∙ h.log_is ∙ log_none s ps [] go ∙ sym no_log ∙ sym (log_more s ps (p ∷ []) [] go);
  phase_is = phase_is ∙ ap (λ e. phase_by st (end_phase e)) (sym (end_more s ps (p ∷ []) [] go));
  stands = stands;
}

-- What is told of the next packet.
pub record PacketHandled (b : BackendState) (e : Effect) (was : History) (ps : List First) (p : First) (left : List ℕ) : Type 0 where
  pub takes : HandlesNext b.limit (first_input ps) was.rest (first_input (ps ++ p ∷ [])) left
  pub place : IsStray b.script (first_input (ps ++ p ∷ [])) → ⊥
  pub handled : IsHistoryOf (with_handled (first_input (ps ++ p ∷ [])) left (flat_map sent_bytes e.sent) was) (applied b e)

takes_packet : (limit : ℕ) (ps : List First) (p : First) (rest left : List ℕ) → is_started ps ≡ false → IsPacket p → rest ≡ packet p ++ left → HandlesNext limit (first_input ps) rest (first_input (ps ++ p ∷ [])) left
takes_packet limit ps p rest left not_yet spelled is = rw is (packet_taken ps p left not_yet spelled)

not_stray : (s : Script) (ps : List First) (p : First) (e : End) → GoOn ps → packets_end s (p ∷ []) [] ≡ e → (e ≡ At Stray → ⊥) → IsStray s (first_input (ps ++ p ∷ [])) → ⊥
not_stray s ps p e go is none stray = none (sym is ∙ sym (end_more s ps (p ∷ []) [] go) ∙ stray)

by_startup : (s : Script) (limit : ℕ) (left : List Answer) (log : List Logged) (d d' : FirstState) (pairs : List (List ℕ × List ℕ)) (user : List ℕ) (ps : List First) (was : History)
    → let p = first.Startup pairs in let b : BackendState = record { script = s; limit = limit; left = left; stage = stage.First d; log = log } in let e = startup_effect b d' user in
    user_from [] pairs ≡ user
    → GoOn ps → HasBegun d' was.pushed (ps ++ p ∷ []) → d'.ended ≡ true → d'.fault ≡ None → HandlesNext limit (first_input ps) was.rest (first_input (ps ++ p ∷ [])) d'.kept
    → IsHistoryOf (with_input (first_input ps) was) b → AllByRecursion IsSpelled e.sent → PacketHandled b e was ps p d'.kept
by_startup s limit left log d d' pairs [] ps was is go begun ended none takes h spelled =
    let p = first.Startup pairs in
    let end : packets_end s (p ∷ []) [] ≡ Refusal = ap (λ u. admission_end s (admission s.auth u [])) is in
    record {
      takes = takes;
      place = not_stray s ps p Refusal go end (λ e. cc);
      handled = packet_done s limit left log d d' p ps was (stage.Closed closed_by.Input) (Says (back.ErrorResponse no_user) ∷ []) go begun h
          (sym (ap (λ u. map Says (question_for s.auth u ++ admission_messages s (admission s.auth u []))) is)) spelled (ap (λ u. admission_log s (admission s.auth u [])) is) (sym (ap end_phase end)) tt;
    }
by_startup s limit left log d d' pairs (c ∷ cs) ps was is go begun ended none takes h spelled =
    let p = first.Startup pairs in
    let user = c ∷ cs in
    let a = awaits_first s.auth user in
    let g = greeted s ps pairs c cs s.auth go refl is in
    let end : packets_end s (p ∷ []) [] ≡ awaited_end a = sym (end_more s ps (p ∷ []) [] go) ∙ awaits_end s s.answers (ps ++ p ∷ []) [] a g.awaits in
    record {
      takes = takes;
      place = not_stray s ps p (awaited_end a) go end (awaits_no_stray a);
      handled = packet_done s limit left log d d' p ps was (stage.Open (record { kept = d'.kept; limit = limit; fault = d'.fault }) a) (map Says (greeting s s.auth)) go begun h
          (sym g.sends) spelled g.logs (sym (ap end_phase end))
          (d'.kept, rw ended at begun.beginning, record { stream = record { whole = refl; each = tt }; fault = rw none tt }, refl, refl, started_more ps (p ∷ []) go, rw h.stands.4 g.awaits);
    }

by_packet : (s : Script) (limit : ℕ) (left : List Answer) (log : List Logged) (d d' : FirstState) (p : First) (ps : List First) (was : History)
    → let b : BackendState = record { script = s; limit = limit; left = left; stage = stage.First d; log = log } in let e = packet_effect b d' p in
    GoOn ps → HasBegun d' was.pushed (ps ++ p ∷ []) → d'.ended ≡ is_last p → d'.fault ≡ None → HandlesNext limit (first_input ps) was.rest (first_input (ps ++ p ∷ [])) d'.kept
    → IsHistoryOf (with_input (first_input ps) was) b → AllByRecursion IsSpelled e.sent → PacketHandled b e was ps p d'.kept
by_packet s limit left log d d' first.Ssl ps was go begun ended none takes h spelled = record {
  takes = takes;
  place = not_stray s ps first.Ssl Opening go refl (λ e. cc);
  handled = packet_done s limit left log d d' first.Ssl ps was (stage.First d') (No ∷ []) go begun h refl spelled refl refl (begun, refl, refl, refl, h.stands.4);
}
by_packet s limit left log d d' first.Gss ps was go begun ended none takes h spelled = record {
  takes = takes;
  place = not_stray s ps first.Gss Opening go refl (λ e. cc);
  handled = packet_done s limit left log d d' first.Gss ps was (stage.First d') (No ∷ []) go begun h refl spelled refl refl (begun, refl, refl, refl, h.stands.4);
}
by_packet s limit left log d d' (first.Cancel process secret) ps was go begun ended none takes h spelled = record {
  takes = takes;
  place = not_stray s ps (first.Cancel process secret) Refusal go refl (λ e. cc);
  handled = packet_done s limit left log d d' (first.Cancel process secret) ps was (stage.Closed closed_by.Input) [] go begun h refl spelled refl refl tt;
}
by_packet s limit left log d d' (first.Startup pairs) ps was go begun ended none takes h spelled =
    by_startup s limit left log d d' pairs (user_from [] pairs) ps was refl go begun ended none takes h spelled

pub packet_handled : (s : Script) (limit : ℕ) (left : List Answer) (log : List Logged) (d d' : FirstState) (p : First) (ps : List First) (was : History)
    → d.ended ≡ false → FirstTakes d (Ok (Some p)) d' → Begun d d' p
    → let b : BackendState = record { script = s; limit = limit; left = left; stage = stage.First d; log = log } in let e = packet_effect b d' p in
    IsHistoryOf (with_input (first_input ps) was) b → AllByRecursion IsSpelled e.sent → PacketHandled b e was ps p d'.kept
packet_handled s limit left log d d' p ps was going takes begun h spelled =
    let go = go_on ps (rw going at h.stands.0.beginning.last) in
    by_packet s limit left log d d' p ps was go (begun was.pushed ps h.stands.0) (ap (λ (x : FirstState). x.ended) takes.4) (ap (λ (x : FirstState). x.fault) takes.4 ∙ takes.0)
    (takes_packet limit ps p was.rest d'.kept (not_started ps go) takes.2 (sym h.stands.1 ∙ takes.3)) h spelled
