-- The names of the backend's messages, and what an object has of each (Frontend/Backend Protocol,
-- "Message Formats").
use Rattle.std.specs.Prelude.{ℕ, ℤ, pos, ◌==◌, if◌then◌else◌, List, [], ◌∷◌, Option, codes, length, unwrap_or}
use Rattle.std.specs.Option.{option_or}
use Rattle.std.specs.Ordering.{int_eq}
use Rattle.pg_values.specs.Fields.{severity_text, code_text, message_text}
use Rattle.pg_wire.specs.message.BackMessage.{BackMessage}
use Rattle.pg_wire.specs.message.BackMessage.TheVariants.{AuthOk, AuthCleartext, AuthMd5, AuthOther, KeyData, ParameterStatus, Ready, RowDescription, DataRow, CommandComplete, EmptyQuery, ParseComplete, BindComplete, CloseComplete, NoData, PortalSuspended, ParameterDescription, ErrorResponse, NoticeResponse, Notification, CopyIn, CopyOut, CopyData, CopyDone}
use Rattle.pg_wire.specs.value.Column.{Column}
use Rattle.pg_wire.specs.value.CopyHead.{CopyHead}
use Rattle.pg_wire.specs.value.ErrorField.{ErrorField}
use Rattle.pgpipe_texts.specs.Backend.{named_request}
use Rattle.pgpipe_texts.specs.Words.{plain_type, other_type, array_type, status_text}
use Rattle.serde_json.specs.Data.{Data, boolean, object, string, no_members}
use Rattle.pgpipe_texts.specs.Json.Members.{Member, with_members, object_json, message_json}
use Rattle.pgpipe_texts.specs.Json.Values.{count_json, hex_json, hidden_json, list_json, signed_json, text_json, text_or_null, word_or_null}

-- ---- parts of messages

-- the name of a type, where it is a usual one
abbrev pub type_name : ℕ → Option (List ℕ)
type_name oid = option_or (plain_type oid) (option_or (other_type oid) (array_type oid))

-- a column: its name, and where it is from
abbrev pub origin_members : Column → List Member
origin_members c = (codes "name", text_json c.name) ∷ (codes "table", count_json c.table_oid)
    ∷ (codes "attribute", signed_json c.attribute) ∷ []

-- its type, by its object id and by its name, and the format of its values
abbrev pub type_members : Column → List Member
type_members c = (codes "type", count_json c.type_oid)
    ∷ (codes "type_name", word_or_null (type_name c.type_oid)) ∷ (codes "size", signed_json c.size)
    ∷ (codes "modifier", signed_json c.modifier) ∷ (codes "format", signed_json c.format) ∷ []

-- a column of a row description: an object with its name, where it is from, and its type
abbrev pub column_json : Column → Data
column_json c = object (with_members (type_members c) (with_members (origin_members c) no_members))

-- a field of an error or a notice: its code, a byte, and its text
abbrev pub field_json : ErrorField → Data
field_json f = object_json ((codes "code", text_json (f.code ∷ []))
    ∷ (codes "value", text_json f.value) ∷ [])

-- an error or a notice: its severity, its code and its message where it has them, and all fields in
-- their order
abbrev pub error_members : List ErrorField → List Member
error_members fields = (codes "severity", text_or_null (severity_text fields))
    ∷ (codes "code", text_or_null (code_text fields))
    ∷ (codes "message", text_or_null (message_text fields))
    ∷ (codes "fields", list_json field_json fields) ∷ []

-- a copy: whether its data are binary, and the format of each column
abbrev pub copy_members : CopyHead → List Member
copy_members head = (codes "binary", boolean head.binary)
    ∷ (codes "formats", list_json signed_json head.formats) ∷ []

-- What comes with an authentication request that has no message of its own: of SASL the list of its
-- mechanisms, each with a zero byte after it, and one at the end. What else is said of a password is
-- hidden.
abbrev pub request_more : ℤ → List ℕ → List Member
request_more code rest = if length rest == 0 then []
    else if int_eq code (pos 10) then (codes "mechanisms", text_json rest) ∷ []
    else (codes "data", hidden_json) ∷ []

-- such a request: its code too
abbrev pub request_members : ℤ → List ℕ → List Member
request_members code rest = (codes "code", signed_json code) ∷ request_more code rest

-- its name
abbrev pub request_called : ℤ → List ℕ
request_called code = unwrap_or (named_request code) (codes "Authentication")

-- A process, and its key, which is hidden: who knows it can cancel what the process does.
abbrev pub key_members : ℤ → List Member
key_members process = (codes "process", signed_json process) ∷ (codes "key", hidden_json) ∷ []

-- ---- messages

-- the name of a message, as the documentation has it
abbrev pub back_called : BackMessage → List ℕ
back_called AuthOk = codes "AuthenticationOk"
back_called AuthCleartext = codes "AuthenticationCleartextPassword"
back_called (AuthMd5 salt) = codes "AuthenticationMD5Password"
back_called (AuthOther code rest) = request_called code
back_called (KeyData process secret) = codes "BackendKeyData"
back_called (ParameterStatus name value) = codes "ParameterStatus"
back_called (Ready status) = codes "ReadyForQuery"
back_called (RowDescription columns) = codes "RowDescription"
back_called (DataRow values) = codes "DataRow"
back_called (CommandComplete tag) = codes "CommandComplete"
back_called EmptyQuery = codes "EmptyQueryResponse"
back_called ParseComplete = codes "ParseComplete"
back_called BindComplete = codes "BindComplete"
back_called CloseComplete = codes "CloseComplete"
back_called NoData = codes "NoData"
back_called PortalSuspended = codes "PortalSuspended"
back_called (ParameterDescription types) = codes "ParameterDescription"
back_called (ErrorResponse fields) = codes "ErrorResponse"
back_called (NoticeResponse fields) = codes "NoticeResponse"
back_called (Notification process channel payload) = codes "NotificationResponse"
back_called (CopyIn head) = codes "CopyInResponse"
back_called (CopyOut head) = codes "CopyOutResponse"
back_called (CopyData bytes) = codes "CopyData"
back_called CopyDone = codes "CopyDone"

-- what its object has beside its name and its length field
abbrev pub back_members : BackMessage → List Member
back_members AuthOk = []
back_members AuthCleartext = []
back_members (AuthMd5 salt) = (codes "salt", hex_json salt) ∷ []
back_members (AuthOther code rest) = request_members code rest
back_members (KeyData process secret) = key_members process
back_members (ParameterStatus name value) = (codes "parameter", text_json name)
    ∷ (codes "value", text_json value) ∷ []
back_members (Ready status) = (codes "status", string (status_text status)) ∷ []
back_members (RowDescription columns) = (codes "columns", list_json column_json columns) ∷ []
back_members (DataRow values) = (codes "values", list_json text_or_null values) ∷ []
back_members (CommandComplete tag) = (codes "command", text_json tag) ∷ []
back_members EmptyQuery = []
back_members ParseComplete = []
back_members BindComplete = []
back_members CloseComplete = []
back_members NoData = []
back_members PortalSuspended = []
back_members (ParameterDescription types) = (codes "types", list_json count_json types) ∷ []
back_members (ErrorResponse fields) = error_members fields
back_members (NoticeResponse fields) = error_members fields
back_members (Notification process channel payload) = (codes "process", signed_json process)
    ∷ (codes "channel", text_json channel) ∷ (codes "payload", text_json payload) ∷ []
back_members (CopyIn head) = copy_members head
back_members (CopyOut head) = copy_members head
back_members (CopyData bytes) = (codes "data", text_json bytes) ∷ []
back_members CopyDone = []

-- a message of the backend with this length field
abbrev pub back_json : ℕ → BackMessage → Data
back_json size m = message_json (back_called m) size (back_members m)
