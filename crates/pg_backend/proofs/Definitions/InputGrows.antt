-- What is sent and logged for an input grows at its end alone.
use Rattle.std.proofs.Common.{inl, inr, ℕ, Bool, true, false, List, [], ◌∷◌, ◌++◌, refl, ap, ◌∙◌}
use Rattle.std.specs.Prelude.{if◌then◌else◌}
use Rattle.std.specs.Str.{bytes_eq}
use Rattle.std.proofs.lemmas.List.{append-nil}
use Rattle.pg_wire.specs.message.First.{First}
use Rattle.pg_wire.specs.message.First.TheVariants as first
use Rattle.pg_wire.specs.message.FrontMessage.{FrontMessage}
use Rattle.pg_wire.specs.message.FrontMessage.TheVariants as front
use Rattle.pg_wire.specs.Password.{md5_text}
use Rattle.pg_backend.specs.declared.script.Auth.{Auth}
use Rattle.pg_backend.specs.declared.script.Auth.TheVariants.{Trust, Cleartext, Md5}
use Rattle.pg_backend.specs.declared.script.Script.{Script}
use Rattle.pg_backend.specs.Lists.{IsPrefix}
use Rattle.pg_backend.specs.Opening.{No, Says, welcome, user_from, question_for, Admission, Refused, Admitted, by_password, admission, admission_messages, sent_for}
use Rattle.pg_backend.specs.OwnError.{wrong_password}
use Rattle.pg_backend.specs.Input.{Input, packets_log, admission_log, last_word, transcript, input_log}
use Rattle.pg_backend.specs.Laws.{IsExtendedBy, TranscriptGrows, LogGrows}
use Rattle.pg_backend.proofs.Beginnings.{begins_after, begins_cons, begins_map, begins_more, begins_nil, begins_same, begins_same_as}
use Rattle.pg_backend.proofs.Definitions.SessionGrows.{replies_grow, log_grows}

-- more messages of a client whose password is awaited
password_grows : (s : Script) (expected : List ℕ) (ms more : List FrontMessage)
    → IsPrefix (admission_messages s (by_password expected ms)) (admission_messages s (by_password expected (ms ++ more)))
    × IsPrefix (admission_log s (by_password expected ms)) (admission_log s (by_password expected (ms ++ more)))
password_grows s expected [] more = (begins_nil _, begins_nil _)
password_grows s expected (front.Password password ∷ ms) more = entered_grows (bytes_eq password expected)
  where
    entered : Bool → List FrontMessage → Admission
    entered same ms = if same then Admitted ms else Refused wrong_password

    entered_grows : (same : Bool) → IsPrefix (admission_messages s (entered same ms)) (admission_messages s (entered same (ms ++ more)))
        × IsPrefix (admission_log s (entered same ms)) (admission_log s (entered same (ms ++ more)))
    entered_grows true = (begins_after (welcome s) _ _ (replies_grow s.answers ms more), log_grows s.answers ms more)
    entered_grows false = (begins_same _, begins_same _)
password_grows s expected (m ∷ ms) more = (begins_same _, begins_same _)

-- more messages after a Startup
admission_grows : (s : Script) (auth : Auth) (user : List ℕ) (ms more : List FrontMessage)
    → IsPrefix (admission_messages s (admission auth user ms)) (admission_messages s (admission auth user (ms ++ more)))
    × IsPrefix (admission_log s (admission auth user ms)) (admission_log s (admission auth user (ms ++ more)))
admission_grows s auth [] ms more = (begins_same _, begins_nil _)
admission_grows s Trust (c ∷ cs) ms more = (begins_after (welcome s) _ _ (replies_grow s.answers ms more), log_grows s.answers ms more)
admission_grows s (Cleartext password) (c ∷ cs) ms more = password_grows s password ms more
admission_grows s (Md5 password salt) (c ∷ cs) ms more = password_grows s (md5_text (c ∷ cs) password salt) ms more

messages_grow : (s : Script) (packets : List First) (ms more : List FrontMessage)
    → IsPrefix (sent_for s packets ms) (sent_for s packets (ms ++ more)) × IsPrefix (packets_log s packets ms) (packets_log s packets (ms ++ more))
messages_grow s [] ms more = (begins_nil _, begins_nil _)
messages_grow s (first.Ssl ∷ packets) ms more = let h = messages_grow s packets ms more in (begins_cons No _ _ h.0, h.1)
messages_grow s (first.Gss ∷ packets) ms more = let h = messages_grow s packets ms more in (begins_cons No _ _ h.0, h.1)
messages_grow s (first.Cancel process secret ∷ packets) ms more = (begins_nil _, (messages_grow s packets ms more).1)
messages_grow s (first.Startup pairs ∷ packets) ms more =
    let h = admission_grows s s.auth (user_from [] pairs) ms more in (begins_map Says _ _ (begins_after (question_for s.auth (user_from [] pairs)) _ _ h.0), h.1)

-- more packets
packets_grow : (s : Script) (packets more : List First) (ms : List FrontMessage)
    → IsPrefix (sent_for s packets []) (sent_for s (packets ++ more) ms) × IsPrefix (packets_log s packets []) (packets_log s (packets ++ more) ms)
packets_grow s [] more ms = (begins_nil _, begins_nil _)
packets_grow s (first.Ssl ∷ packets) more ms = let h = packets_grow s packets more ms in (begins_cons No _ _ h.0, h.1)
packets_grow s (first.Gss ∷ packets) more ms = let h = packets_grow s packets more ms in (begins_cons No _ _ h.0, h.1)
packets_grow s (first.Cancel process secret ∷ packets) more ms = (begins_nil _, (packets_grow s packets more ms).1)
packets_grow s (first.Startup pairs ∷ packets) more ms =
    let h = admission_grows s s.auth (user_from [] pairs) [] ms in (begins_map Says _ _ (begins_after (question_for s.auth (user_from [] pairs)) _ _ h.0), h.1)

both_grow : (s : Script) (i j : Input) → IsExtendedBy i j → IsPrefix (sent_for s i.packets i.messages) (sent_for s j.packets j.messages) × IsPrefix (input_log s i) (input_log s j)
both_grow s i j (f, inl h) = rw (h.0, h.1.1) (messages_grow s i.packets i.messages h.1.0)
both_grow s i j (f, inr h) = rw (h.0, h.1.1) (packets_grow s i.packets h.1.0 j.messages)

pub transcript_grows : TranscriptGrows
transcript_grows s i j h =
    let told = sent_for s i.packets i.messages in
    begins_same_as (transcript s i) told (transcript s j) (transcript s j) (ap (λ b. told ++ last_word b) h.0 ∙ append-nil told) refl
    (begins_more told (sent_for s j.packets j.messages) (last_word j.faulty) (both_grow s i j h).0)

pub logs_grow : LogGrows
logs_grow s i j h = (both_grow s i j h).1
