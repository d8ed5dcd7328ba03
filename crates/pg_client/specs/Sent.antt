-- What a client sends ("Start-up", "Simple Query", "Extended Query", "COPY Operations",
-- "Termination").
use Rattle.std.specs.Prelude.{ℕ, List, [], ◌∷◌, Option, Some, None}
use Rattle.std.specs.List.{flat_map, AllByRecursion}
use Rattle.pg_wire.specs.fault.EncodeFault.{EncodeFault}
use Rattle.pg_wire.specs.message.BackMessage.{BackMessage}
use Rattle.pg_wire.specs.message.BackMessage.TheVariants.{AuthCleartext, AuthMd5}
use Rattle.pg_wire.specs.message.First.TheVariants.{Startup}
use Rattle.pg_wire.specs.message.FrontMessage.{FrontMessage}
use Rattle.pg_wire.specs.message.FrontMessage.TheVariants as front
use Rattle.pg_wire.specs.Direction.{spelling, HasSpelling, encode_fault}
use Rattle.pg_wire.specs.First.{packet, packet_fault, startup_parameters, IsPacket}
use Rattle.pg_wire.specs.Frontend.{frontend}
use Rattle.pg_wire.specs.Password.{md5_text}
use Rattle.pg_wire.specs.Segment.{request_messages}
use Rattle.pg_client.specs.declared.settings.Settings.{Settings}
use Rattle.pg_client.specs.declared.call.Call.{Call}
use Rattle.pg_client.specs.declared.call.Call.TheVariants as call
use Rattle.pg_client.specs.Session.{Happening, Did, Came}
use Rattle.pg_client.specs.View.{option_or}

-- The parameters of the StartupMessage ("Message Formats"): the user, the database if one is named,
-- and the further pairs of the settings.
abbrev pub startup_pairs : Settings → List (List ℕ × List ℕ)
startup_pairs settings = startup_parameters settings.user settings.database settings.pairs

-- The PasswordMessage with this password as it is, which answers AuthenticationCleartextPassword;
-- none without a password ("Start-up").
abbrev pub password_messages : Option (List ℕ) → List FrontMessage
password_messages None = []
password_messages (Some password) = front.Password password ∷ []

-- The PasswordMessage that answers AuthenticationMD5Password, with the MD5 text of this password
-- for this user and the server's salt; none without a password ("Start-up").
abbrev pub md5_messages : List ℕ → Option (List ℕ) → List ℕ → List FrontMessage
md5_messages user None salt = []
md5_messages user (Some password) salt = front.Password (md5_text user password salt) ∷ []

-- What a client sends for a message that came: a PasswordMessage for a question for a password, and
-- nothing for any other.
abbrev pub answer_to : Settings → BackMessage → List FrontMessage
answer_to settings AuthCleartext = password_messages settings.password
answer_to settings (AuthMd5 salt) = md5_messages settings.user settings.password salt
answer_to settings _ = []

-- The messages that a call sends. For start there are none, as the startup packet has a form of its
-- own.
abbrev pub call_messages : Call → List FrontMessage
call_messages call.Start = []
call_messages (call.Request r) = request_messages r
call_messages (call.Chunk bytes) = front.CopyData bytes ∷ []
call_messages call.Done = front.CopyDone ∷ []
call_messages (call.Fail reason) = front.CopyFail reason ∷ []
call_messages call.Terminate = front.Terminate ∷ []

-- The bytes that a call sends: those of the startup packet for start, and else those of its
-- messages ("Message Formats").
abbrev pub sent_by : Settings → Call → List ℕ
sent_by settings call.Start = packet (Startup (startup_pairs settings))
sent_by settings c = flat_map (spelling frontend) (call_messages c)

-- All that a call sends has a spelling, which is to say that it can be sent ("Message Formats").
-- For start the password must have one too, as the server may ask for it.
abbrev pub IsSpelled : Settings → Call → Type 0
IsSpelled settings call.Start = IsPacket (Startup (startup_pairs settings))
    × AllByRecursion (HasSpelling frontend) (password_messages settings.password)
IsSpelled settings c = AllByRecursion (HasSpelling frontend) (call_messages c)

-- The bytes that go out at this event: what a call sends, or the answer to a message that came.
abbrev pub sent_at : Settings → Happening → List ℕ
sent_at settings (Did c) = sent_by settings c
sent_at settings (Came m) = flat_map (spelling frontend) (answer_to settings m)

-- The bytes that went out in these events, in order: what the calls send, and the answer to a
-- question for a password.
abbrev pub sent_in : Settings → List Happening → List ℕ
sent_in settings hs = flat_map (sent_at settings) hs

-- All that goes out at this event has a spelling.
abbrev pub IsSpelledAt : Settings → Happening → Type 0
IsSpelledAt settings (Did c) = IsSpelled settings c
IsSpelledAt settings (Came m) = AllByRecursion (HasSpelling frontend) (answer_to settings m)

-- Why messages can't be sent: the fault of the first one that has no spelling. None where all have
-- one.
abbrev pub first_fault : List FrontMessage → Option EncodeFault
first_fault [] = None
first_fault (m ∷ ms) = option_or (encode_fault frontend m) (first_fault ms)

-- Why a call can't be sent; None where it can. For start the startup packet is judged first, and
-- then the password, for which the server may ask.
abbrev pub call_fault : Settings → Call → Option EncodeFault
call_fault settings call.Start = option_or (packet_fault (Startup (startup_pairs settings)))
    (first_fault (password_messages settings.password))
call_fault settings c = first_fault (call_messages c)
