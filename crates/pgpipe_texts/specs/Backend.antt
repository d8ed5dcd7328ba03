-- What the backend's messages are shown as.
use Rattle.std.specs.Prelude.{ℕ, ℤ, pos, ◌-◌, ◌==◌, ◌&&◌, nat_lt, false, if◌then◌else◌, List, [], ◌++◌, length, take, slice_index, Option, None, Some, codes, unwrap_or}
use Rattle.std.specs.Fmt.{signed_decimal}
use Rattle.std.specs.List.{flat_map}
use Rattle.std.specs.Ordering.{int_eq}
use Rattle.hex.specs.Hex.{encode_lower}
use Rattle.pg_wire.specs.message.BackMessage.{BackMessage}
use Rattle.pg_wire.specs.message.BackMessage.TheVariants.{AuthOk, AuthCleartext, AuthMd5, AuthOther, KeyData, ParameterStatus, Ready, RowDescription, DataRow, CommandComplete, EmptyQuery, ParseComplete, BindComplete, CloseComplete, NoData, PortalSuspended, ParameterDescription, ErrorResponse, NoticeResponse, Notification, CopyIn, CopyOut, CopyData, CopyDone}
use Rattle.pg_wire.specs.value.Column.{Column}
use Rattle.pg_wire.specs.value.CopyHead.{CopyHead}
use Rattle.pgpipe_texts.specs.Fields.{fields_text}
use Rattle.pgpipe_texts.specs.Text.{listed, quoted, shown_byte, whole}
use Rattle.pgpipe_texts.specs.Words.{format_text, status_text, type_text}

-- a value: its bytes in quotes, or NULL
abbrev pub value_text : Option (List ℕ) → List ℕ
value_text None = codes "NULL"
value_text (Some bytes) = quoted bytes

-- the format of a column, unless its values are texts
unfoldable pub column_format : ℤ → List ℕ
column_format code = if int_eq code (pos 0) then [] else codes " " ++ format_text code

-- the type of a column, and its format unless that is text
abbrev pub column_type : ℕ → ℤ → List ℕ
column_type oid code = codes " " ++ type_text oid ++ column_format code

-- a column: its name and its type
abbrev pub column_text : Column → List ℕ
column_text c = whole c.name ++ column_type c.type_oid c.format

-- the formats of a copy: the one of all its data, and that of each column
unfoldable pub copy_text : CopyHead → List ℕ
copy_text head = (if head.binary then codes "binary " else codes "text ")
    ++ listed format_text head.formats

-- the name of an authentication request that isn't of the three with a message of their own
unfoldable pub named_request : ℤ → Option (List ℕ)
named_request code =
    if int_eq code (pos 2) then Some (codes "AuthenticationKerberosV5")
    else if int_eq code (pos 6) then Some (codes "AuthenticationSCMCredential")
    else if int_eq code (pos 7) then Some (codes "AuthenticationGSS")
    else if int_eq code (pos 8) then Some (codes "AuthenticationGSSContinue")
    else if int_eq code (pos 9) then Some (codes "AuthenticationSSPI")
    else if int_eq code (pos 10) then Some (codes "AuthenticationSASL")
    else if int_eq code (pos 11) then Some (codes "AuthenticationSASLContinue")
    else if int_eq code (pos 12) then Some (codes "AuthenticationSASLFinal")
    else None

-- its name, or its code
abbrev pub request_name : ℤ → List ℕ
request_name code = unwrap_or (named_request code) (codes "Authentication " ++ signed_decimal code)

-- the bytes without two zero bytes at their end: that of the last name of a list, and that of the
-- list
unfoldable pub without_ends : List ℕ → List ℕ
without_ends bytes = if nat_lt (length bytes) 2 then bytes
    else if slice_index bytes (length bytes - 1) == 0 && slice_index bytes (length bytes - 2) == 0
    then take (length bytes - 2) bytes else bytes

-- a byte of the name of a mechanism, or the zero byte between two names
unfoldable pub of_mechanism : ℕ → List ℕ
of_mechanism b = if b == 0 then codes ", " else shown_byte false 92 b

-- the names of SASL's mechanisms
abbrev pub mechanisms : List ℕ → List ℕ
mechanisms rest = flat_map of_mechanism (without_ends rest)

-- What comes with such a request: the mechanisms that SASL may use are shown, and what else is said
-- of a password is hidden.
unfoldable pub request_text : ℤ → List ℕ → List ℕ
request_text code rest = if length rest == 0 then []
    else if int_eq code (pos 10) then codes " " ++ mechanisms rest else codes " (hidden)"

-- A process, and that its key comes with it: who knows the key can cancel what the process does.
unfoldable pub key_text : ℤ → List ℕ
key_text process = codes " process " ++ signed_decimal process ++ codes " key (hidden)"

-- a notification: the process that raised it, its channel and its payload
unfoldable pub notification_text : ℤ → List ℕ → List ℕ → List ℕ
notification_text process channel payload = (codes " process " ++ signed_decimal process)
    ++ (codes " " ++ whole channel) ++ (codes " " ++ quoted payload)

-- a message of the backend
abbrev pub back_text : BackMessage → List ℕ
back_text AuthOk = codes "AuthenticationOk"
back_text AuthCleartext = codes "AuthenticationCleartextPassword"
back_text (AuthMd5 salt) = codes "AuthenticationMD5Password salt " ++ encode_lower salt
back_text (AuthOther code rest) = request_name code ++ request_text code rest
back_text (KeyData process secret) = codes "BackendKeyData" ++ key_text process
back_text (ParameterStatus name value) = codes "ParameterStatus " ++ whole name ++ codes " "
    ++ quoted value
back_text (Ready status) = codes "ReadyForQuery " ++ status_text status
back_text (RowDescription columns) = codes "RowDescription " ++ listed column_text columns
back_text (DataRow values) = codes "DataRow " ++ listed value_text values
back_text (CommandComplete tag) = codes "CommandComplete " ++ whole tag
back_text EmptyQuery = codes "EmptyQueryResponse"
back_text ParseComplete = codes "ParseComplete"
back_text BindComplete = codes "BindComplete"
back_text CloseComplete = codes "CloseComplete"
back_text NoData = codes "NoData"
back_text PortalSuspended = codes "PortalSuspended"
back_text (ParameterDescription types) = codes "ParameterDescription " ++ listed type_text types
back_text (ErrorResponse fields) = codes "ErrorResponse " ++ fields_text fields
back_text (NoticeResponse fields) = codes "NoticeResponse " ++ fields_text fields
back_text (Notification process channel payload) = codes "NotificationResponse"
    ++ notification_text process channel payload
back_text (CopyIn head) = codes "CopyInResponse " ++ copy_text head
back_text (CopyOut head) = codes "CopyOutResponse " ++ copy_text head
back_text (CopyData bytes) = codes "CopyData " ++ quoted bytes
back_text CopyDone = codes "CopyDone"
