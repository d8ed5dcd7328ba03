-- What an answer comes to, and what is sent for it, given the messages after the request.
use Rattle.std.specs.Prelude.{ℕ, List, [], ◌∷◌, ◌++◌, Option, Some, None, option_map, map, Result, Ok, Err}
use Rattle.std.specs.List.{flat_map}
use Rattle.pg_wire.specs.message.BackMessage.{BackMessage}
use Rattle.pg_wire.specs.message.BackMessage.TheVariants as back
use Rattle.pg_wire.specs.value.CopyHead.{CopyHead}
use Rattle.pg_wire.specs.value.ErrorField.{ErrorField}
use Rattle.pg_wire.specs.message.FrontMessage.{FrontMessage}
use Rattle.pg_wire.specs.declared.session.Aside.{Aside}
use Rattle.pg_wire.specs.declared.session.Aside.TheVariants as aside
use Rattle.pg_wire.specs.declared.session.Outcome.{Outcome}
use Rattle.pg_wire.specs.Segment.{messages_of}
use Rattle.pg_backend.specs.declared.script.Answer.{Answer}
use Rattle.pg_backend.specs.declared.script.Load.{Load}
use Rattle.pg_backend.specs.declared.script.ScriptPart.{ScriptPart}
use Rattle.pg_backend.specs.declared.script.ScriptPart.TheVariants as part
use Rattle.pg_backend.specs.Copies.{CopyEnd, copy_end}
use Rattle.pg_backend.specs.Outcome.{parts_of, whole_outcome}

-- the parts of an answer, split at the first copy from the client: there a reply stops until the
-- copy is decided. Whole has no such copy.
pub data Shape : Type 0 where
  Whole : Shape
  Copies : (before : List ScriptPart) → (head : CopyHead) → (load : Load)
      → (after : List ScriptPart) → Shape

-- the shape with this part, which is no copy from the client, before its own
abbrev pub after_part : ScriptPart → Shape → Shape
after_part p Whole = Whole
after_part p (Copies before head load after) = Copies (p ∷ before) head load after

-- the shape of the parts of an answer
abbrev pub shape : List ScriptPart → Shape
shape [] = Whole
shape (part.CopyIn head load ∷ ps) = Copies [] head load ps
shape (p ∷ ps) = after_part p (shape ps)

-- ---- what an answer comes to

-- what a request came to, once it is decided: its outcome, the chunks that were taken for its copy,
-- and how many messages after the request the copy used up
pub record Verdict : Type 0 where
  pub outcome : Outcome
  pub loaded : List (List ℕ)
  pub taken : ℕ

-- the outcome of an answer with the parts `before` and then a copy that ended so. After an error
-- the answer's further parts and its own error play no part.
abbrev pub outcome_at : Answer → List ScriptPart → Result (List ℕ) (List ErrorField) → Outcome
outcome_at a before (Ok tag) = whole_outcome a
outcome_at a before (Err fields) = record {
  parts = parts_of before;
  error = Some fields;
  status = a.status;
  asides = a.before;
}

-- the verdict of an answer with the parts `before` and then a copy that ended so
abbrev pub at_copy_end : Answer → List ScriptPart → CopyEnd → Verdict
at_copy_end a before e =
    record { outcome = outcome_at a before e.result; loaded = e.loaded; taken = e.taken }

-- the verdict on a request with an answer of this shape, by the messages after it; None where they
-- don't decide it
abbrev pub verdict_of : Answer → Shape → List FrontMessage → Option Verdict
verdict_of a Whole ms = Some (record { outcome = whole_outcome a; loaded = []; taken = 0 })
verdict_of a (Copies before head load after) ms =
    option_map (at_copy_end a before) (copy_end load ms)

-- the verdict on a request with this answer, by the messages after it; None where they don't decide
-- it
abbrev pub verdict : Answer → List FrontMessage → Option Verdict
verdict a ms = verdict_of a (shape a.parts) ms

-- ---- what is sent for an answer

-- the message of an aside ("Asynchronous Operations")
abbrev pub aside_message : Aside → BackMessage
aside_message (aside.Notice fields) = back.NoticeResponse fields
aside_message (aside.Parameter name value) = back.ParameterStatus name value
aside_message (aside.Notification process channel payload) =
    back.Notification process channel payload

-- the messages of these parts; a copy that is rejected has none here
abbrev pub parts_sent : List ScriptPart → List BackMessage
parts_sent parts = flat_map messages_of (parts_of parts)

-- the ErrorResponse, if there is an error
abbrev pub error_sent : Option (List ErrorField) → List BackMessage
error_sent None = []
error_sent (Some fields) = back.ErrorResponse fields ∷ []

-- what ends a reply: the ErrorResponse, if there is an error, and ReadyForQuery with the answer's
-- status
abbrev pub end_sent : Option (List ErrorField) → Answer → List BackMessage
end_sent error a = error_sent error ++ back.Ready a.status ∷ []

-- what is sent once a copy has ended: its CommandComplete, the parts `after` it and the answer's
-- end; or the error that ended the copy, and ReadyForQuery
abbrev pub after_end : Answer → List ScriptPart
    → Result (List ℕ) (List ErrorField) → List BackMessage
after_end a after (Ok tag) = back.CommandComplete tag ∷ (parts_sent after ++ end_sent a.error a)
after_end a after (Err fields) = end_sent (Some fields) a

-- what is sent after a CopyInResponse: nothing while the copy is undecided
abbrev pub after_copy : Answer → List ScriptPart → Option CopyEnd → List BackMessage
after_copy a after None = []
after_copy a after (Some e) = after_end a after e.result

-- what is sent for an answer of this shape after its asides, by the messages that follow the
-- request
abbrev pub reply_of : Answer → Shape → List FrontMessage → List BackMessage
reply_of a Whole ms = parts_sent a.parts ++ end_sent a.error a
reply_of a (Copies before head load after) ms =
    parts_sent before ++ back.CopyIn head ∷ after_copy a after (copy_end load ms)

-- all that is sent for a request with this answer, by the messages that follow it
abbrev pub reply : Answer → List FrontMessage → List BackMessage
reply a ms = map aside_message a.before ++ reply_of a (shape a.parts) ms
