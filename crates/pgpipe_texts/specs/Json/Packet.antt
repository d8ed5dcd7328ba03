-- The names of a client's first packets, and what an object has of each.
use Rattle.std.specs.Prelude.{ℕ, List, [], ◌∷◌, codes}
use Rattle.pg_wire.specs.message.First.{First}
use Rattle.pg_wire.specs.message.First.TheVariants.{Startup, Cancel, Ssl, Gss}
use Rattle.serde_json.specs.Data.{Data}
use Rattle.pgpipe_texts.specs.Json.Backend.{key_members}
use Rattle.pgpipe_texts.specs.Json.Members.{Member, message_json, object_json}
use Rattle.pgpipe_texts.specs.Json.Values.{list_json, text_json}

-- a parameter of a startup: its name and its value
abbrev pub parameter_json : List ℕ × List ℕ → Data
parameter_json p = object_json ((codes "name", text_json p.0) ∷ (codes "value", text_json p.1) ∷ [])

-- the name of a first packet, as the documentation has it
abbrev pub packet_called : First → List ℕ
packet_called (Startup parameters) = codes "StartupMessage"
packet_called (Cancel process secret) = codes "CancelRequest"
packet_called Ssl = codes "SSLRequest"
packet_called Gss = codes "GSSENCRequest"

-- what its object has beside its name and its length
abbrev pub packet_members : First → List Member
packet_members (Startup parameters) = (codes "parameters", list_json parameter_json parameters) ∷ []
packet_members (Cancel process secret) = key_members process
packet_members Ssl = []
packet_members Gss = []

-- a first packet of this length
abbrev pub packet_json : ℕ → First → Data
packet_json size p = message_json (packet_called p) size (packet_members p)
