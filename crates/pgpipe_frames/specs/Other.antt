-- What a frame is shown as that isn't of the tables of this library: the name that its tag has in
-- the documentation, and its tag, its length field and its bytes (Frontend/Backend Protocol, "Message
-- Formats").
use Rattle.std.specs.Prelude.{ℕ, ◌-◌, ◌/◌, ◌%◌, ◌==◌, ◌&&◌, ◌||◌, nat_lt, Bool, if◌then◌else◌, List, [], ◌∷◌, ◌++◌, length, drop, slice_index, Option, None, Some, codes, unwrap_or}
use Rattle.std.specs.Fmt.{decimal}
use Rattle.std.specs.List.{list_any}
use Rattle.pgpipe_frames.specs.Frames.{code}
use Rattle.pgpipe_texts.specs.Text.{digits_escape, quoted}

-- ---- names by tags

-- the backend's messages that end a step, or tell how the session stands
unfoldable pub plain_back_name : ℕ → Option (List ℕ)
plain_back_name t =
    if t == 49 then Some (codes "ParseComplete")  -- 1
    else if t == 50 then Some (codes "BindComplete")  -- 2
    else if t == 51 then Some (codes "CloseComplete")  -- 3
    else if t == 67 then Some (codes "CommandComplete")  -- C
    else if t == 73 then Some (codes "EmptyQueryResponse")  -- I
    else if t == 75 then Some (codes "BackendKeyData")  -- K
    else if t == 82 then Some (codes "Authentication")  -- R
    else if t == 83 then Some (codes "ParameterStatus")  -- S
    else if t == 90 then Some (codes "ReadyForQuery")  -- Z
    else if t == 110 then Some (codes "NoData")  -- n
    else if t == 115 then Some (codes "PortalSuspended")  -- s
    else if t == 118 then Some (codes "NegotiateProtocolVersion")  -- v
    else None

-- the backend's messages that bring something
unfoldable pub data_back_name : ℕ → Option (List ℕ)
data_back_name t =
    if t == 65 then Some (codes "NotificationResponse")  -- A
    else if t == 68 then Some (codes "DataRow")  -- D
    else if t == 69 then Some (codes "ErrorResponse")  -- E
    else if t == 71 then Some (codes "CopyInResponse")  -- G
    else if t == 72 then Some (codes "CopyOutResponse")  -- H
    else if t == 78 then Some (codes "NoticeResponse")  -- N
    else if t == 84 then Some (codes "RowDescription")  -- T
    else if t == 86 then Some (codes "FunctionCallResponse")  -- V
    else if t == 87 then Some (codes "CopyBothResponse")  -- W
    else if t == 99 then Some (codes "CopyDone")  -- c
    else if t == 100 then Some (codes "CopyData")  -- d
    else if t == 116 then Some (codes "ParameterDescription")  -- t
    else None

-- a message of the backend
abbrev pub back_name : ℕ → List ℕ
back_name t = unwrap_or (plain_back_name t) (unwrap_or (data_back_name t) (codes "Unknown"))

-- the frontend's messages but for those with the tag p
unfoldable pub plain_front_name : ℕ → Option (List ℕ)
plain_front_name t =
    if t == 66 then Some (codes "Bind")  -- B
    else if t == 67 then Some (codes "Close")  -- C
    else if t == 68 then Some (codes "Describe")  -- D
    else if t == 69 then Some (codes "Execute")  -- E
    else if t == 70 then Some (codes "FunctionCall")  -- F
    else if t == 72 then Some (codes "Flush")  -- H
    else if t == 80 then Some (codes "Parse")  -- P
    else if t == 81 then Some (codes "Query")  -- Q
    else if t == 83 then Some (codes "Sync")  -- S
    else if t == 88 then Some (codes "Terminate")  -- X
    else if t == 99 then Some (codes "CopyDone")  -- c
    else if t == 100 then Some (codes "CopyData")  -- d
    else if t == 102 then Some (codes "CopyFail")  -- f
    else None

-- A message with the tag p that is no PasswordMessage: a mechanism's name and its zero byte stand in
-- the first answer to a request for SASL, and no zero byte in a further one of SCRAM.
unfoldable pub answer_name : List ℕ → List ℕ
answer_name body = if list_any (λ b. b == 0) body then codes "SASLInitialResponse"
    else codes "SASLResponse"

-- a message of the frontend, by its tag and its body
abbrev pub front_name : ℕ → List ℕ → List ℕ
front_name t body = unwrap_or (plain_front_name t)
    (if t == 112 then answer_name body else codes "Unknown")

-- ---- what is shown

-- the tag itself where it is a visible character of ASCII, and else its escape
unfoldable pub tag_text : ℕ → List ℕ
tag_text t = if nat_lt 32 t && nat_lt t 127 then t ∷ [] else digits_escape t

-- bytes in quotes, unless they are to be hidden
unfoldable pub shown_or_hidden : Bool → List ℕ → List ℕ
shown_or_hidden hidden bytes = if hidden then codes "(hidden)" else quoted bytes

-- a frame that isn't of the tables: its name and a mark; its tag, its length field and its bytes
unfoldable pub other_text : List ℕ → List ℕ → ℕ → Bool → List ℕ → List ℕ
other_text name tag size hidden bytes = name ++ codes ", not of the profile: " ++ tag ++ codes " "
    ++ decimal size ++ codes " " ++ shown_or_hidden hidden bytes

-- A message of the backend: of a request for a password and of a key no byte is shown.
unfoldable pub other_back : List ℕ → List ℕ
other_back bytes = other_text (back_name (slice_index bytes 0)) (tag_text (slice_index bytes 0))
    (length bytes - 1) (slice_index bytes 0 == 75 || slice_index bytes 0 == 82) (drop 5 bytes)

-- A message of the frontend: of an answer to a request for a password no byte is shown.
unfoldable pub other_front : List ℕ → List ℕ
other_front bytes = other_text (front_name (slice_index bytes 0) (drop 5 bytes))
    (tag_text (slice_index bytes 0)) (length bytes - 1) (slice_index bytes 0 == 112) (drop 5 bytes)

-- ---- first packets

-- the requests by their codes
unfoldable pub request_of_code : ℕ → Option (List ℕ)
request_of_code c =
    if c == 80877102 then Some (codes "CancelRequest")
    else if c == 80877103 then Some (codes "SSLRequest")
    else if c == 80877104 then Some (codes "GSSENCRequest")
    else None

-- a startup of this version, or a request of this code
unfoldable pub version_text : ℕ → List ℕ
version_text c = if c / 65536 == 1234 then codes "Request " ++ decimal (c % 65536)
    else codes "StartupMessage " ++ decimal (c / 65536) ++ codes "." ++ decimal (c % 65536)

-- a first packet, by its code
abbrev pub packet_name : ℕ → List ℕ
packet_name c = unwrap_or (request_of_code c) (version_text c)

-- A first packet. No byte of a request to cancel is shown, as a key stands in it.
unfoldable pub other_packet : List ℕ → List ℕ
other_packet bytes = other_text (packet_name (code bytes)) (codes "packet") (length bytes)
    (code bytes == 80877102) (drop 8 bytes)
