-- Segments: what a server may send for one request, up to its ReadyForQuery (Frontend/Backend
-- Protocol, "Message Flow").
use Rattle.std.specs.Prelude.{◌≡◌, ℕ, Bool, true, false, List, [], ◌∷◌, ◌++◌, map, filter, filter_map, Option, Some, None, is_none, ◌⊎◌}
use Rattle.std.specs.List.{flat_map}
use Rattle.pg_message.specs.declared.message.BackMessage.{BackMessage}
use Rattle.pg_message.specs.declared.message.BackMessage.TheVariants.{Ready, RowDescription, DataRow, CommandComplete, EmptyQuery, ParseComplete, BindComplete, CloseComplete, NoData, PortalSuspended, ParameterDescription, ErrorResponse, NoticeResponse, Notification, ParameterStatus, CopyData, CopyDone}
use Rattle.pg_message.specs.declared.message.BackMessage.TheVariants as back
use Rattle.pg_codec.specs.declared.value.Column.{Column}
use Rattle.pg_codec.specs.declared.value.ErrorField.{ErrorField}
use Rattle.pg_message.specs.declared.message.FrontMessage.{FrontMessage}
use Rattle.pg_message.specs.declared.message.FrontMessage.TheVariants as front
use Rattle.pg_codec.specs.declared.value.Status.{Status}
use Rattle.pg_codec.specs.declared.value.Target.TheVariants.{Statement, Portal}
use Rattle.pg_wire.specs.declared.session.Aside.{Aside}
use Rattle.pg_wire.specs.declared.session.Aside.TheVariants as aside
use Rattle.pg_wire.specs.declared.session.ExecEnd.{ExecEnd}
use Rattle.pg_wire.specs.declared.session.ExecEnd.TheVariants as ends
use Rattle.pg_wire.specs.declared.session.Outcome.{Outcome}
use Rattle.pg_wire.specs.declared.session.Part.{Part}
use Rattle.pg_wire.specs.declared.session.Part.TheVariants as part
use Rattle.pg_wire.specs.declared.session.Request.{Request}
use Rattle.pg_wire.specs.declared.session.Request.TheVariants.{Query, Group}
use Rattle.pg_wire.specs.declared.session.Step.{Step}
use Rattle.pg_wire.specs.declared.session.Step.TheVariants as step

-- the fields of an error or a notice
abbrev pub Fields : Type 0
Fields = List ErrorField

-- ---- what a request is sent as ("Simple Query", "Extended Query")

-- the message that asks for a step: the one of its name
abbrev pub step_message : Step → FrontMessage
step_message (step.Parse name text types) = front.Parse name text types
step_message (step.Bind portal statement formats values result_formats) = front.Bind portal
    statement formats values result_formats
step_message (step.Describe target name) = front.Describe target name
step_message (step.Execute portal max_rows) = front.Execute portal max_rows
step_message (step.Close target name) = front.Close target name

-- what a client sends for a request: one Query, or the messages of a group's steps and a Sync
abbrev pub request_messages : Request → List FrontMessage
request_messages (Query text) = front.Query text ∷ []
request_messages (Group steps) = map step_message steps ++ front.Sync ∷ []

-- ---- asides ("Asynchronous Operations")

-- the message as an aside: a notice, a run-time parameter or a notification; None for any other
abbrev pub aside_of : BackMessage → Option Aside
aside_of (NoticeResponse fields) = Some (aside.Notice fields)
aside_of (ParameterStatus name value) = Some (aside.Parameter name value)
aside_of (Notification process channel payload) = Some (aside.Notification process channel payload)
aside_of _ = None

-- the asides among the messages, in their order
abbrev pub asides_of : List BackMessage → List Aside
asides_of ms = filter_map aside_of ms

-- the messages that are no asides, in order
abbrev pub without_asides : List BackMessage → List BackMessage
without_asides ms = filter (λ m. is_none (aside_of m)) ms

-- ---- results and answers ("Simple Query", "Extended Query", "COPY Operations")

-- the ParameterDescription in the answer to a Describe of a statement; of a portal (None) there is
-- none
abbrev pub parameters_sent : Option (List ℕ) → List BackMessage
parameters_sent None = []
parameters_sent (Some types) = ParameterDescription types ∷ []

-- the RowDescription in the answer to a Describe, or NoData where no rows come
abbrev pub columns_sent : Option (List Column) → BackMessage
columns_sent None = NoData
columns_sent (Some columns) = RowDescription columns

-- the message with which an Execute ends
abbrev pub execute_end_sent : ExecEnd → BackMessage
execute_end_sent (ends.Complete tag) = CommandComplete tag
execute_end_sent ends.Empty = EmptyQuery
execute_end_sent ends.Suspended = PortalSuspended

-- the messages of a part: one whole result of a query, or the whole answer to one step
abbrev pub messages_of : Part → List BackMessage
messages_of (part.Rows columns rows tag) = RowDescription columns ∷ map DataRow rows
    ++ CommandComplete tag ∷ []
messages_of (part.Command tag) = CommandComplete tag ∷ []
messages_of part.Empty = EmptyQuery ∷ []
messages_of (part.CopyOut head chunks tag) = back.CopyOut head ∷ map CopyData chunks
    ++ CopyDone ∷ CommandComplete tag ∷ []
messages_of (part.CopyIn head tag) = back.CopyIn head ∷ CommandComplete tag ∷ []
messages_of part.Parsed = ParseComplete ∷ []
messages_of part.Bound = BindComplete ∷ []
messages_of (part.Described parameters columns) = parameters_sent parameters
    ++ columns_sent columns ∷ []
messages_of (part.Executed rows end) = map DataRow rows ++ execute_end_sent end ∷ []
messages_of part.Shut = CloseComplete ∷ []

-- whether the part is a result of a query
abbrev pub is_result : Part → Bool
is_result (part.Rows columns rows tag) = true
is_result (part.Command tag) = true
is_result part.Empty = true
is_result (part.CopyOut head chunks tag) = true
is_result (part.CopyIn head tag) = true
is_result _ = false

-- whether the part answers this step
abbrev pub is_answer : Step → Part → Bool
is_answer (step.Parse name text types) part.Parsed = true
is_answer (step.Bind portal statement formats values result_formats) part.Bound = true
is_answer (step.Describe Statement name) (part.Described (Some types) columns) = true
is_answer (step.Describe Portal name) (part.Described None columns) = true
is_answer (step.Execute portal max_rows) (part.Executed rows end) = true
is_answer (step.Close target name) part.Shut = true
is_answer _ _ = false

-- ---- what a request's segment is

-- what a server has still to answer: any number of results, or these steps in order
pub data Asked : Type 0 where
  Results : Asked
  Steps : List Step → Asked

-- what a request asks for: a query any number of results, a group an answer to each step
abbrev pub asked : Request → Asked
asked (Query text) = Results
asked (Group steps) = Steps steps

-- The parts answer the first of what is asked, in order, and `rest` is still to be answered.
abbrev pub Answers : Asked → List Part → Asked → Type 0
Answers a [] rest = rest ≡ a
Answers Results (p ∷ ps) rest = (is_result p ≡ true) × Answers Results ps rest
Answers (Steps []) (p ∷ ps) rest = ⊥
Answers (Steps (s ∷ ss)) (p ∷ ps) rest = (is_answer s p ≡ true) × Answers (Steps ss) ps rest

-- Nothing more has to be answered. For a query that holds at any time, for a group after all steps.
abbrev pub IsDone : Asked → Type 0
IsDone Results = Unit {0}
IsDone (Steps []) = Unit {0}
IsDone (Steps (s ∷ ss)) = ⊥

-- The messages are the beginning of a next result or answer, or none, but not all of it.
abbrev pub IsCutOff : Asked → List BackMessage → Type 0
IsCutOff a messages = (messages ≡ [])
    ⊎ ((p : Part) × (next : BackMessage) × (others : List BackMessage) × (rest : Asked)
    × Answers a (p ∷ []) rest × (messages_of p ≡ messages ++ next ∷ others))

-- The messages, asides and ReadyForQuery left out, are these parts, all that was asked for; or
-- these parts, maybe the beginning of one more, which the error cuts off, that error and maybe
-- further ones, which are dropped.
abbrev pub Reads : Asked → List BackMessage → List Part → Option Fields → Type 0
Reads a messages parts None = (rest : Asked) × Answers a parts rest × IsDone rest
    × (messages ≡ flat_map messages_of parts)
Reads a messages parts (Some fields) = (rest : Asked) × Answers a parts rest
    × (cut : List BackMessage) × IsCutOff rest cut
    × (more : List Fields)
    × (messages ≡ flat_map messages_of parts
    ++ (cut ++ ErrorResponse fields ∷ map ErrorResponse more))

-- The messages are a whole segment that answers the request with this outcome.
pub record Fits (request : Request) (segment : List BackMessage) (outcome : Outcome) : Type 0 where
  pub body : List BackMessage
  pub closed : segment ≡ body ++ Ready outcome.status ∷ []
  pub asides : asides_of body ≡ outcome.asides
  pub reads : Reads (asked request) (without_asides body) outcome.parts outcome.error

-- The messages are the beginning of a segment that fits the request.
abbrev pub Begins : Request → List BackMessage → Type 0
Begins request messages = (more : List BackMessage) × (outcome : Outcome)
    × Fits request (messages ++ more) outcome

-- ---- the segments of a session: its messages, cut after each ReadyForQuery

-- a server's messages cut after each ReadyForQuery: the whole segments, and the messages after the
-- last ReadyForQuery
pub record Segments : Type 0 where
  pub whole : List (List BackMessage)
  pub rest : List BackMessage

-- the transaction status, if the message is a ReadyForQuery
abbrev pub status_of : BackMessage → Option Status
status_of (Ready status) = Some status
status_of _ = None

-- the fields, if the message is an ErrorResponse
abbrev pub error_of : BackMessage → Option Fields
error_of (ErrorResponse fields) = Some fields
error_of _ = None

-- these segments with the message m before them: a ReadyForQuery (one with a status) is a segment
-- of its own, any other joins the first
abbrev pub put_before : Option Status → BackMessage → List (List BackMessage) → List BackMessage
    → Segments
put_before (Some status) m whole rest = record { whole = (m ∷ []) ∷ whole; rest = rest }
put_before None m [] rest = record { whole = []; rest = m ∷ rest }
put_before None m (s ∷ ss) rest = record { whole = (m ∷ s) ∷ ss; rest = rest }

-- the messages cut after each ReadyForQuery
abbrev pub segments : List BackMessage → Segments
segments [] = record { whole = []; rest = [] }
segments (m ∷ ms) = let s = segments ms in put_before (status_of m) m s.whole s.rest
