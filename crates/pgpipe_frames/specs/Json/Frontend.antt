-- The names of the frontend's messages, and what an object has of each.
use Rattle.std.specs.Prelude.{ℕ, List, [], ◌∷◌, codes}
use Rattle.pg_wire.specs.message.FrontMessage.{FrontMessage}
use Rattle.pg_wire.specs.message.FrontMessage.TheVariants.{Query, Parse, Bind, Describe, Close, Execute, Sync, Flush, Terminate, CopyData, CopyDone, CopyFail, Password}
use Rattle.pg_wire.specs.value.Target.{Target}
use Rattle.pg_wire.specs.value.Target.TheVariants.{Statement, Portal}
use Rattle.serde_json.specs.Data.{Data}
use Rattle.pgpipe_texts.specs.Json.Members.{Member, message_json}
use Rattle.pgpipe_texts.specs.Json.Values.{count_json, hidden_json, list_json, signed_json, text_json, text_or_null}

-- the key under which the name of a statement or of a portal stands
abbrev pub target_key : Target → List ℕ
target_key Statement = codes "statement"
target_key Portal = codes "portal"

-- the name of a message, as the documentation has it
abbrev pub front_called : FrontMessage → List ℕ
front_called (Query text) = codes "Query"
front_called (Parse name text types) = codes "Parse"
front_called (Bind portal statement formats values result_formats) = codes "Bind"
front_called (Describe target name) = codes "Describe"
front_called (Close target name) = codes "Close"
front_called (Execute portal max_rows) = codes "Execute"
front_called Sync = codes "Sync"
front_called Flush = codes "Flush"
front_called Terminate = codes "Terminate"
front_called (CopyData bytes) = codes "CopyData"
front_called CopyDone = codes "CopyDone"
front_called (CopyFail reason) = codes "CopyFail"
front_called (Password password) = codes "PasswordMessage"

-- what its object has beside its name and its length field; a password is hidden
abbrev pub front_members : FrontMessage → List Member
front_members (Query text) = (codes "query", text_json text) ∷ []
front_members (Parse name text types) = (codes "statement", text_json name)
    ∷ (codes "query", text_json text) ∷ (codes "types", list_json count_json types) ∷ []
front_members (Bind portal statement formats values result_formats) =
    (codes "portal", text_json portal) ∷ (codes "statement", text_json statement)
    ∷ (codes "formats", list_json signed_json formats)
    ∷ (codes "values", list_json text_or_null values)
    ∷ (codes "result_formats", list_json signed_json result_formats) ∷ []
front_members (Describe target name) = (target_key target, text_json name) ∷ []
front_members (Close target name) = (target_key target, text_json name) ∷ []
front_members (Execute portal max_rows) = (codes "portal", text_json portal)
    ∷ (codes "max_rows", signed_json max_rows) ∷ []
front_members Sync = []
front_members Flush = []
front_members Terminate = []
front_members (CopyData bytes) = (codes "data", text_json bytes) ∷ []
front_members CopyDone = []
front_members (CopyFail reason) = (codes "reason", text_json reason) ∷ []
front_members (Password password) = (codes "password", hidden_json) ∷ []

-- a message of the frontend with this length field
abbrev pub front_json : ℕ → FrontMessage → Data
front_json size m = message_json (front_called m) size (front_members m)
