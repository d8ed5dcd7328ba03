-- The lines of a loop: COPY text, in the order of what happened.
use Rattle.std.specs.Prelude.{ℕ, zero, suc, ◌+◌, Bool, true, false, List, [], ◌∷◌, ◌++◌, length, map, take, drop, Option, Some, None, codes}
use Rattle.std.specs.Fmt.{decimal, signed_decimal}
use Rattle.std.specs.List.{flat_map}
use Rattle.pg_copy.specs.Row.{Row, most_fields}
use Rattle.pg_copy.specs.Text.{default_options, written_row}
use Rattle.pg_wire.specs.Fault.{wire_code}
use Rattle.pg_wire.specs.value.Column.{Column}
use Rattle.pg_wire.specs.value.CopyHead.{CopyHead}
use Rattle.pg_wire.specs.value.ErrorField.{ErrorField}
use Rattle.pg_wire.specs.value.Status.{Status}
use Rattle.pg_wire.specs.value.Status.TheVariants as status
use Rattle.pg_wire.specs.declared.session.Aside.{Aside}
use Rattle.pg_wire.specs.declared.session.Aside.TheVariants as aside
use Rattle.pg_wire.specs.declared.session.ExecEnd.{ExecEnd}
use Rattle.pg_wire.specs.declared.session.ExecEnd.TheVariants as ends
use Rattle.pg_wire.specs.declared.session.Part.{Part}
use Rattle.pg_wire.specs.declared.session.Part.TheVariants as part
use Rattle.pg_wire.specs.declared.session.Request.{Request}
use Rattle.pg_wire.specs.declared.session.Request.TheVariants as request
use Rattle.pg_client.specs.Fault.{call_code, feed_code}
use Rattle.pg_client.specs.declared.fault.FeedFault.{FeedFault}
use Rattle.pg_client.specs.declared.fault.FeedFault.TheVariants as feed
use Rattle.pg_client.specs.declared.phase.Phase.{Phase}
use Rattle.pg_client.specs.declared.phase.Phase.TheVariants as phase
use Rattle.pg_client.specs.declared.settled.Loss.{Loss}
use Rattle.pg_client.specs.declared.settled.Settled.{Settled}
use Rattle.pg_backend.specs.declared.phase.BackPhase.{BackPhase}
use Rattle.pg_backend.specs.declared.phase.BackPhase.TheVariants as back_phase
use Rattle.pg_backend.specs.Fault.{backend_code}
use Rattle.pg_backend.specs.declared.fault.BackendFault.{BackendFault}
use Rattle.pg_backend.specs.declared.fault.BackendFault.TheVariants as backend
use Rattle.pg_backend.specs.declared.script.Logged.{Logged}
use Rattle.pg_pair.specs.declared.event.Applied.{Applied}
use Rattle.pg_pair.specs.declared.event.Applied.TheVariants as applied

-- ---- lines

-- a row as its canonical line of COPY text, of at most 32,767 fields; further ones are dropped
abbrev pub text_line : Row → List ℕ
text_line row = written_row default_options (take most_fields row)

-- rows as canonical lines, one each
abbrev pub text_lines : List Row → List ℕ
text_lines rows = flat_map text_line rows

-- ---- what several lines have

-- a field of an error or a notice as two fields of a line: its code, of one byte, and its value
abbrev pub error_field : ErrorField → Row
error_field f = Some (f.code ∷ []) ∷ Some f.value ∷ []

-- the fields of an error or a notice, as two fields of a line each
abbrev pub error_fields : List ErrorField → Row
error_fields fields = flat_map error_field fields

-- the names of these columns, one field each
abbrev pub column_names : List Column → Row
column_names columns = map (λ c. Some c.name) columns

-- the line `error`, with the error's fields
abbrev pub error_row : List ErrorField → Row
error_row fields = Some (codes "error") ∷ error_fields fields

-- the word for the format of a copy: text or binary
abbrev pub format_word : Bool → List ℕ
format_word false = codes "text"
format_word true = codes "binary"

-- the transaction status of a ReadyForQuery as its letter
abbrev pub status_letter : Status → List ℕ
status_letter status.Idle = codes "I"
status_letter status.InBlock = codes "T"
status_letter status.Failed = codes "E"

-- what a CopyInResponse or CopyOutResponse says: the format, and the number of columns
abbrev pub head_fields : CopyHead → Row
head_fields head = Some (format_word head.binary) ∷ Some (decimal (length head.formats)) ∷ []

-- a request as two fields: `query` and its text, or `group` and the number of its steps
abbrev pub request_fields : Request → Row
request_fields (request.Query text) = Some (codes "query") ∷ Some text ∷ []
request_fields (request.Group steps) = Some (codes "group") ∷ Some (decimal (length steps)) ∷ []

-- ---- a settled group: the request, its asides, its parts, its error and its status, in the form
-- of a script

-- the line of an aside: `notice` with its fields, `set` with a parameter and its value, or `notify`
-- with process, channel and payload
abbrev pub aside_row : Aside → Row
aside_row (aside.Notice fields) = Some (codes "notice") ∷ error_fields fields
aside_row (aside.Parameter name value) = Some (codes "set") ∷ Some name ∷ Some value ∷ []
aside_row (aside.Notification process channel payload) =
    Some (codes "notify") ∷ Some (signed_decimal process) ∷ Some channel ∷ Some payload ∷ []

-- the line `row`, with the values of a DataRow
abbrev pub value_row : Row → Row
value_row values = Some (codes "row") ∷ values

-- the line `chunk`, with the bytes of a CopyData
abbrev pub chunk_row : List ℕ → Row
chunk_row bytes = Some (codes "chunk") ∷ Some bytes ∷ []

-- the line `rows`, with the tag and the names of the columns; the rows have lines of their own
-- after it
abbrev pub rows_row : List Column → List ℕ → Row
rows_row columns tag = Some (codes "rows") ∷ Some tag ∷ column_names columns

-- the line `copyout`, with the tag, the format and the number of columns; the chunks have lines of
-- their own after it
abbrev pub copy_out_row : CopyHead → List ℕ → Row
copy_out_row head tag = Some (codes "copyout") ∷ Some tag ∷ head_fields head

-- the line `copyin`, with the format, the number of columns, `accept` and the tag
abbrev pub copy_in_row : CopyHead → List ℕ → Row
copy_in_row head tag =
    Some (codes "copyin") ∷ head_fields head ++ Some (codes "accept") ∷ Some tag ∷ []

-- the line `paramtypes` before a `described` of a statement; of a portal (None) there is none
abbrev pub parameter_rows : Option (List ℕ) → List Row
parameter_rows None = []
parameter_rows (Some types) =
    (Some (codes "paramtypes") ∷ map (λ oid. Some (decimal oid)) types) ∷ []

-- the line `described`, with the names of the columns; without any where no rows come
abbrev pub described_row : Option (List Column) → Row
described_row None = Some (codes "described") ∷ []
described_row (Some columns) = Some (codes "described") ∷ column_names columns

-- the line `executed`, with how the Execute ended: `complete` and the tag, `empty`, or `suspended`
abbrev pub executed_row : ExecEnd → Row
executed_row (ends.Complete tag) = Some (codes "executed") ∷ Some (codes "complete") ∷ Some tag ∷ []
executed_row ends.Empty = Some (codes "executed") ∷ Some (codes "empty") ∷ []
executed_row ends.Suspended = Some (codes "executed") ∷ Some (codes "suspended") ∷ []

-- the lines of one part of an outcome
abbrev pub part_rows : Part → List Row
part_rows (part.Rows columns rows tag) = rows_row columns tag ∷ map value_row rows
part_rows (part.Command tag) = (Some (codes "command") ∷ Some tag ∷ []) ∷ []
part_rows part.Empty = (Some (codes "empty") ∷ []) ∷ []
part_rows (part.CopyOut head chunks tag) = copy_out_row head tag ∷ map chunk_row chunks
part_rows (part.CopyIn head tag) = copy_in_row head tag ∷ []
part_rows part.Parsed = (Some (codes "parsed") ∷ []) ∷ []
part_rows part.Bound = (Some (codes "bound") ∷ []) ∷ []
part_rows (part.Described parameters columns) = parameter_rows parameters
    ++ described_row columns ∷ []
part_rows (part.Executed rows end) = executed_row end ∷ map value_row rows
part_rows part.Shut = (Some (codes "shut") ∷ []) ∷ []

-- the line `error`, if the outcome has an error
abbrev pub outcome_error_rows : Option (List ErrorField) → List Row
outcome_error_rows None = []
outcome_error_rows (Some fields) = error_row fields ∷ []

-- the line `status`, with the letter of the transaction status
abbrev pub status_row : Status → Row
status_row s = Some (codes "status") ∷ Some (status_letter s) ∷ []

-- the lines of a settled group: its request, its asides, its parts, its error and its status
abbrev pub settled_rows : Settled → List Row
settled_rows s =
    (Some (codes "settled") ∷ request_fields s.request) ∷ map aside_row s.outcome.asides
    ++ flat_map part_rows s.outcome.parts ++ outcome_error_rows s.outcome.error
    ++ status_row s.outcome.status ∷ []

-- the lines of an entry of a backend's log: those of the group that its client sees settled
abbrev pub logged_rows : Logged → List Row
logged_rows entry = settled_rows (record { request = entry.request; outcome = entry.outcome })

-- ---- rejected calls and faults

-- the fields after the code of a client's fault: of F1 the code of the stream's fault, of F5 and F6
-- the fields of the server's error
abbrev pub feed_details : FeedFault → Row
feed_details (feed.Wire fault) = Some (wire_code fault) ∷ []
feed_details (feed.StartupError fields) = error_fields fields
feed_details (feed.ServerEnd fields) = error_fields fields
feed_details _ = []

-- the fields after the code of a backend's fault: of K1 the code of the stream's fault
abbrev pub backend_details : BackendFault → Row
backend_details (backend.Wire fault) = Some (wire_code fault) ∷ []
backend_details _ = []

-- the line `fault`, with a code and the fields after it
abbrev pub fault_row : List ℕ → Row → Row
fault_row code details = Some (codes "fault") ∷ Some code ∷ details

-- the line of an event's answer, if it is one of Refused, Client, Backend and Carrier
abbrev pub answer_rows : Applied → List Row
answer_rows applied.Done = []
answer_rows applied.Nothing = []
answer_rows (applied.Refused back fault) =
    (Some (codes "refused") ∷ Some (call_code fault) ∷ []) ∷ []
answer_rows (applied.Client fault) = fault_row (feed_code fault) (feed_details fault) ∷ []
answer_rows (applied.Backend fault) = fault_row (backend_code fault) (backend_details fault) ∷ []
answer_rows applied.Carrier = fault_row (codes "carry") [] ∷ []

-- ---- a lost connection

-- the request that isn't settled as fields, or `none`
abbrev pub unsettled_fields : Option Request → Row
unsettled_fields None = Some (codes "none") ∷ []
unsettled_fields (Some r) = request_fields r

-- the word for whether an error had come for the request that isn't settled
abbrev pub error_word : Bool → List ℕ
error_word false = codes "clear"
error_word true = codes "error"

-- the line `lost`, with whether an error had come, and the request that isn't settled
abbrev pub lost_row : Loss → Row
lost_row loss =
    Some (codes "lost") ∷ Some (error_word loss.seen_error) ∷ unsettled_fields loss.unsettled

-- the line `lost`, if there is a loss
abbrev pub loss_rows : Option Loss → List Row
loss_rows None = []
loss_rows (Some loss) = lost_row loss ∷ []

-- ---- an event: the groups that were settled in it, its answer, and the loss that it brought

-- the lines of an event: the groups that were settled in it, its answer, and the loss that it
-- brought
abbrev pub event_rows : List Settled → Applied → Option Loss → List Row
event_rows settled answer loss = flat_map settled_rows settled ++ answer_rows answer
    ++ loss_rows loss

-- ---- a turn of a backend that serves a client, and its port

-- the lines of a turn: what was decided in it, as entries of the backend's log, and its answer
abbrev pub decided_rows : List Logged → Applied → List Row
decided_rows decided answer = flat_map logged_rows decided ++ answer_rows answer

-- the line `port`, with the port on which clients are awaited
abbrev pub port_row : ℕ → Row
port_row port = Some (codes "port") ∷ Some (decimal port) ∷ []

-- ---- the end

-- the most chunks in one line `loaded`
abbrev pub most_chunks : ℕ
most_chunks = 32765

-- the line `loaded`, with a request's number, counted from 1, and chunks
abbrev pub loaded_row : ℕ → List (List ℕ) → Row
loaded_row k chunks = Some (codes "loaded") ∷ Some (decimal k) ∷ map Some chunks

-- the lines `loaded` of request k: its chunks, at most 32,765 a line, and no line without chunks. n
-- only bounds the recursion: it is at least the number of chunks.
abbrev pub loaded_rows_of : ℕ → ℕ → List (List ℕ) → List Row
loaded_rows_of zero k chunks = []
loaded_rows_of (suc n) k [] = []
loaded_rows_of (suc n) k (c ∷ cs) =
    loaded_row k (take most_chunks (c ∷ cs)) ∷ loaded_rows_of n k (drop most_chunks (c ∷ cs))

-- the lines `loaded` of these log entries, the first of which is of request k
abbrev pub loaded_rows : ℕ → List Logged → List Row
loaded_rows k [] = []
loaded_rows k (entry ∷ entries) = loaded_rows_of (length entry.loaded) k entry.loaded
    ++ loaded_rows (k + 1) entries

-- the word for the client's phase
abbrev pub client_word : Phase → List ℕ
client_word phase.New = codes "new"
client_word phase.Starting = codes "starting"
client_word phase.Ready = codes "ready"
client_word phase.Busy = codes "busy"
client_word phase.CopyingIn = codes "copying"
client_word (phase.Closed cause) = codes "closed"

-- the word for the backend's phase
abbrev pub backend_word : BackPhase → List ℕ
backend_word back_phase.First = codes "first"
backend_word back_phase.Password = codes "password"
backend_word back_phase.Ready = codes "ready"
backend_word back_phase.Grouping = codes "grouping"
backend_word back_phase.CopyIn = codes "copying"
backend_word back_phase.Closed = codes "closed"

-- the lines of the phases of both ends
abbrev pub phase_rows : Phase → BackPhase → List Row
phase_rows client backend = (Some (codes "client") ∷ Some (client_word client) ∷ [])
    ∷ (Some (codes "backend") ∷ Some (backend_word backend) ∷ []) ∷ []

-- the last lines of a loop: the chunks that were loaded for each request, and the phases of both
-- ends
abbrev pub closing_rows : List Logged → Phase → BackPhase → List Row
closing_rows log client backend = loaded_rows 1 log ++ phase_rows client backend
