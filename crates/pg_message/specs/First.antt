-- First packets, which have no tag (Frontend/Backend Protocol, "Message Formats": StartupMessage, CancelRequest, SSLRequest,
-- GSSENCRequest).
use Rattle.std.specs.Prelude.{ℕ, ◌≡◌, ◌+◌, ◌==◌, Bool, false, List, [], ◌∷◌, ◌++◌, length, codes, Option, Some, None}
use Rattle.std.specs.List.{list_any}
use Rattle.pg_codec.specs.declared.fault.EncodeFault.{EncodeFault}
use Rattle.pg_message.specs.declared.message.First.{First}
use Rattle.pg_message.specs.declared.message.First.TheVariants as first
use Rattle.pg_codec.specs.Field.{Body, ◌⨾◌, int32, nothing, terminated}
pub use Rattle.pg_codec.specs.Value.{parameter}
use Rattle.pg_message.specs.Appending.{packet_of}
pub use Rattle.pg_message.specs.Appending.{longest_packet, packet_fault_of}

-- ---- a packet as bytes

-- the number after the length: the version 3.0, or a number that stands for a request
abbrev pub code : First → ℕ
code (first.Startup pairs) = 196608
code (first.Cancel process secret) = 80877102
code first.Ssl = 80877103
code first.Gss = 80877104

-- what stands after the code
abbrev pub content_body : First → Body
content_body (first.Startup pairs) = terminated parameter pairs
content_body (first.Cancel process secret) = int32 process ⨾ int32 secret
content_body first.Ssl = nothing
content_body first.Gss = nothing

-- what stands after the code, as bytes
abbrev pub content : First → List ℕ
content p = (content_body p).bytes

-- the length, which counts itself, the code and what stands after it
abbrev pub packet_length : First → ℕ
packet_length p = 8 + length (content p)

-- a packet as bytes: its length, its code, its content
abbrev pub packet : First → List ℕ
packet p = packet_of (code p) (content p)

-- whether a packet holds a text or another list, for which memory is asked
abbrev pub packet_holds_list : First → Bool
packet_holds_list p = (content_body p).holds_list

-- ---- which packets have a spelling

-- the name of a parameter is empty
abbrev pub has_no_name : List ℕ × List ℕ → Bool
has_no_name p = length p.0 == 0

-- a name or a value of a parameter has a zero byte
abbrev pub packet_has_zero : First → Bool
packet_has_zero p = (content_body p).has_zero

-- the name of one of its parameters is empty
abbrev pub packet_has_no_name : First → Bool
packet_has_no_name (first.Startup pairs) = list_any has_no_name pairs
packet_has_no_name _ = false

-- why a packet has no spelling, if it has none
abbrev pub packet_fault : First → Option EncodeFault
packet_fault p = packet_fault_of (packet_has_zero p) (packet_has_no_name p) (packet_length p)

-- The numbers are of their types.
abbrev pub PacketIsOfType : First → Type 0
PacketIsOfType p = (content_body p).IsOfType

-- What has a spelling.
pub record IsPacket (p : First) : Type 0 where
  pub of_type : PacketIsOfType p
  pub no_fault : packet_fault p ≡ None

-- ---- the parameters of a startup ("Start-up")

-- the parameter that names the database, where one is named
abbrev pub database_pair : Option (List ℕ) → List (List ℕ × List ℕ)
database_pair None = []
database_pair (Some name) = (codes "database", name) ∷ []

-- the user, the database if one is named, and further parameters
abbrev pub startup_parameters : List ℕ → Option (List ℕ) → List (List ℕ × List ℕ)
    → List (List ℕ × List ℕ)
startup_parameters user database pairs = (codes "user", user) ∷ database_pair database ++ pairs
