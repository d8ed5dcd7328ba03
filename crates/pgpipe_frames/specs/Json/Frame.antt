-- The JSON object that a frame is shown as: that of the message or the first packet that it is, or of
-- none of the tables.
use Rattle.std.specs.Prelude.{ℕ, ◌≡◌, ◌-◌, Bool, true, false, List, length, Option, Some, None}
use Rattle.pg_wire.specs.Backend.{backend}
use Rattle.pg_wire.specs.Frontend.{frontend}
use Rattle.pg_wire.specs.message.BackMessage.{BackMessage}
use Rattle.pg_wire.specs.message.FrontMessage.{FrontMessage}
use Rattle.pg_wire.specs.message.First.{First}
use Rattle.pgpipe_frames.specs.declared.next.NextFrame.{NextFrame}
use Rattle.pgpipe_frames.specs.declared.next.NextFrame.TheVariants as next
use Rattle.pgpipe_frames.specs.Reading.{IsReadAs, IsPacketReadAs}
use Rattle.serde_json.specs.Data.{Data}
use Rattle.serde_json.specs.Read.{read}
use Rattle.serde_json.specs.Written.{compact_text}
use Rattle.pgpipe_texts.specs.Json.Backend.{back_json}
use Rattle.pgpipe_frames.specs.Json.Frontend.{front_json}
use Rattle.pgpipe_texts.specs.Json.Packet.{packet_json}
use Rattle.pgpipe_frames.specs.Json.Other.{other_back, other_front, other_packet}

-- the object of what was read, or this other one where nothing was
abbrev pub json_or : {M : Type 0} → (M → Data) → Data → Option M → Data
json_or json other (Some m) = json m
json_or json other None = other

-- what a message of the backend is shown as
abbrev pub IsBackJson : List ℕ → Data → Type 0
IsBackJson bytes json = (m : Option BackMessage) × IsReadAs backend bytes m
    × (json ≡ json_or (back_json (length bytes - 1)) (other_back bytes) m)

-- what a message of the frontend is shown as
abbrev pub IsFrontJson : List ℕ → Data → Type 0
IsFrontJson bytes json = (m : Option FrontMessage) × IsReadAs frontend bytes m
    × (json ≡ json_or (front_json (length bytes - 1)) (other_front bytes) m)

-- what a first packet is shown as
abbrev pub IsPacketJson : List ℕ → Data → Type 0
IsPacketJson bytes json = (p : Option First) × IsPacketReadAs bytes p
    × (json ≡ json_or (packet_json (length bytes)) (other_packet bytes) p)

-- what a message of a client (true) or of a backend is shown as
abbrev pub IsMessageJson : Bool → List ℕ → Data → Type 0
IsMessageJson false bytes json = IsBackJson bytes json
IsMessageJson true bytes json = IsFrontJson bytes json

-- what a frame of a client (true) or of a backend is shown as
abbrev pub IsJsonOf : Bool → NextFrame → List ℕ → Data → Type 0
IsJsonOf front next.Packet bytes json = IsPacketJson bytes json
IsJsonOf front next.Message bytes json = IsMessageJson front bytes json
IsJsonOf front next.Nothing bytes json = IsMessageJson front bytes json

-- The text of an object: without spaces, and a reader of JSON reads that object.
abbrev pub IsTextOfJson : Data → List ℕ → Type 0
IsTextOfJson json text = (text ≡ compact_text json) × (read text ≡ Some json)

-- the text of the object that a frame is shown as
abbrev pub IsJsonText : Bool → NextFrame → List ℕ → List ℕ → Type 0
IsJsonText front kind bytes text = (json : Data) × IsJsonOf front kind bytes json
    × IsTextOfJson json text
