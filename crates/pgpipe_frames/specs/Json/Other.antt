-- What an object has of a frame that isn't of the tables of this library: that it isn't, its tag, or of
-- a first packet its code, and its bytes. Its name is the one that its tag or its code has in the
-- documentation (Frontend/Backend Protocol, "Message Formats").
use Rattle.std.specs.Prelude.{ℕ, ◌-◌, ◌/◌, ◌==◌, ◌||◌, Bool, false, if◌then◌else◌, List, [], ◌∷◌, length, drop, slice_index, codes, unwrap_or}
use Rattle.pgpipe_frames.specs.Other.{back_name, front_name, request_of_code}
use Rattle.pgpipe_frames.specs.Frames.{code}
use Rattle.serde_json.specs.Data.{Data, boolean}
use Rattle.pgpipe_texts.specs.Json.Members.{Member, message_json}
use Rattle.pgpipe_texts.specs.Json.Values.{count_json, hidden_json, text_json}

-- bytes, unless they are to be hidden
abbrev pub shown_or_hidden : Bool → List ℕ → Data
shown_or_hidden hidden bytes = if hidden then hidden_json else text_json bytes

-- a message: its tag, a byte, and the bytes after its length field
abbrev pub other_members : ℕ → Bool → List ℕ → List Member
other_members tag hidden bytes = (codes "profile", boolean false)
    ∷ (codes "tag", text_json (tag ∷ [])) ∷ (codes "bytes", shown_or_hidden hidden bytes) ∷ []

-- A message of the backend: of a request for a password and of a key no byte is shown.
abbrev pub other_back : List ℕ → Data
other_back bytes = message_json (back_name (slice_index bytes 0)) (length bytes - 1)
    (other_members (slice_index bytes 0) (slice_index bytes 0 == 75 || slice_index bytes 0 == 82)
    (drop 5 bytes))

-- A message of the frontend: of an answer to a request for a password no byte is shown.
abbrev pub other_front : List ℕ → Data
other_front bytes =
    message_json (front_name (slice_index bytes 0) (drop 5 bytes)) (length bytes - 1)
    (other_members (slice_index bytes 0) (slice_index bytes 0 == 112) (drop 5 bytes))

-- ---- first packets

-- a startup of another version, or a request
abbrev pub version_name : ℕ → List ℕ
version_name c = if c / 65536 == 1234 then codes "Request" else codes "StartupMessage"

-- a first packet, by its code
abbrev pub packet_name : ℕ → List ℕ
packet_name c = unwrap_or (request_of_code c) (version_name c)

-- a first packet: its code, and the bytes after it
abbrev pub other_packet_members : ℕ → Bool → List ℕ → List Member
other_packet_members c hidden bytes = (codes "profile", boolean false)
    ∷ (codes "code", count_json c) ∷ (codes "bytes", shown_or_hidden hidden bytes) ∷ []

-- A first packet: of a request to cancel no byte is shown, as a key stands in it.
abbrev pub other_packet : List ℕ → Data
other_packet bytes = message_json (packet_name (code bytes)) (length bytes)
    (other_packet_members (code bytes) (code bytes == 80877102) (drop 8 bytes))
