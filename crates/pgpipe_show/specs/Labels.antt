-- What a frame is counted under: the name of its message, and of a ReadyForQuery and an ErrorResponse
-- what it says; or the name of what isn't of the tables, marked.
use Rattle.std.specs.Prelude.{ℕ, ◌≡◌, Bool, true, false, List, [], ◌++◌, drop, slice_index, Option, Some, None, codes}
use Rattle.pg_values.specs.Fields.{code_text}
use Rattle.pg_wire.specs.Backend.{backend}
use Rattle.pg_wire.specs.Frontend.{frontend}
use Rattle.pg_wire.specs.message.BackMessage.{BackMessage}
use Rattle.pg_wire.specs.message.BackMessage.TheVariants.{AuthOk, AuthCleartext, AuthMd5, AuthOther, KeyData, ParameterStatus, Ready, RowDescription, DataRow, CommandComplete, EmptyQuery, ParseComplete, BindComplete, CloseComplete, NoData, PortalSuspended, ParameterDescription, ErrorResponse, NoticeResponse, Notification, CopyIn, CopyOut, CopyData, CopyDone}
use Rattle.pg_wire.specs.message.FrontMessage.{FrontMessage}
use Rattle.pg_wire.specs.message.First.{First}
use Rattle.pgpipe_texts.specs.Fields.{first_field}
use Rattle.pgpipe_frames.specs.Other.{back_name, front_name}
use Rattle.pgpipe_texts.specs.Words.{status_text}
use Rattle.pgpipe_frames.specs.declared.next.NextFrame.{NextFrame}
use Rattle.pgpipe_frames.specs.declared.next.NextFrame.TheVariants as next
use Rattle.pgpipe_frames.specs.Frames.{code}
use Rattle.pgpipe_frames.specs.Reading.{IsReadAs, IsPacketReadAs}
use Rattle.pgpipe_texts.specs.Json.Backend.{back_called}
use Rattle.pgpipe_frames.specs.Json.Frontend.{front_called}
use Rattle.pgpipe_frames.specs.Json.Other.{packet_name}
use Rattle.pgpipe_texts.specs.Json.Packet.{packet_called}

-- what a message of the backend says beside its name: a ReadyForQuery its status, and an ErrorResponse
-- its code
abbrev pub back_detail : BackMessage → List ℕ
back_detail AuthOk = []
back_detail AuthCleartext = []
back_detail (AuthMd5 salt) = []
back_detail (AuthOther code rest) = []
back_detail (KeyData process secret) = []
back_detail (ParameterStatus name value) = []
back_detail (Ready status) = codes " " ++ status_text status
back_detail (RowDescription columns) = []
back_detail (DataRow values) = []
back_detail (CommandComplete tag) = []
back_detail EmptyQuery = []
back_detail ParseComplete = []
back_detail BindComplete = []
back_detail CloseComplete = []
back_detail NoData = []
back_detail PortalSuspended = []
back_detail (ParameterDescription types) = []
back_detail (ErrorResponse fields) = codes " " ++ first_field (code_text fields)
back_detail (NoticeResponse fields) = []
back_detail (Notification process channel payload) = []
back_detail (CopyIn head) = []
back_detail (CopyOut head) = []
back_detail (CopyData bytes) = []
back_detail CopyDone = []

-- the label of a message of the backend: its name, and its detail where it has one
abbrev pub back_label : BackMessage → List ℕ
back_label m = back_called m ++ back_detail m

-- a name, marked
abbrev pub marked : List ℕ → List ℕ
marked name = name ++ codes ", not of the profile"

-- the label of what was read, or this name, marked, where nothing was
abbrev pub label_or : {M : Type 0} → (M → List ℕ) → List ℕ → Option M → List ℕ
label_or label name (Some m) = label m
label_or label name None = marked name

-- what a message of the backend is counted under
abbrev pub IsBackLabel : List ℕ → List ℕ → Type 0
IsBackLabel bytes label = (m : Option BackMessage) × IsReadAs backend bytes m
    × (label ≡ label_or back_label (back_name (slice_index bytes 0)) m)

-- what a message of the frontend is counted under
abbrev pub IsFrontLabel : List ℕ → List ℕ → Type 0
IsFrontLabel bytes label = (m : Option FrontMessage) × IsReadAs frontend bytes m
    × (label ≡ label_or front_called (front_name (slice_index bytes 0) (drop 5 bytes)) m)

-- what a first packet is counted under
abbrev pub IsPacketLabel : List ℕ → List ℕ → Type 0
IsPacketLabel bytes label = (p : Option First) × IsPacketReadAs bytes p
    × (label ≡ label_or packet_called (packet_name (code bytes)) p)

-- what a message of a client (true) or of a backend is counted under
abbrev pub IsMessageLabel : Bool → List ℕ → List ℕ → Type 0
IsMessageLabel false bytes label = IsBackLabel bytes label
IsMessageLabel true bytes label = IsFrontLabel bytes label

-- what a frame of a client (true) or of a backend is counted under
abbrev pub IsLabelOf : Bool → NextFrame → List ℕ → List ℕ → Type 0
IsLabelOf front next.Packet bytes label = IsPacketLabel bytes label
IsLabelOf front next.Message bytes label = IsMessageLabel front bytes label
IsLabelOf front next.Nothing bytes label = IsMessageLabel front bytes label
