-- What is sent from the beginning of a connection on ("Start-up").
use Rattle.std.specs.Prelude.{ℕ, List, [], ◌∷◌, ◌++◌, Option, Some, None, map, if◌then◌else◌, codes}
use Rattle.std.specs.Str.{bytes_eq}
use Rattle.pg_wire.specs.message.BackMessage.{BackMessage}
use Rattle.pg_wire.specs.message.BackMessage.TheVariants as back
use Rattle.pg_wire.specs.value.ErrorField.{ErrorField}
use Rattle.pg_wire.specs.message.First.{First}
use Rattle.pg_wire.specs.message.First.TheVariants as first
use Rattle.pg_wire.specs.message.FrontMessage.{FrontMessage}
use Rattle.pg_wire.specs.message.FrontMessage.TheVariants as front
use Rattle.pg_wire.specs.value.Status.TheVariants.{Idle}
use Rattle.pg_wire.specs.Password.{md5_text}
use Rattle.pg_backend.specs.declared.script.Auth.{Auth}
use Rattle.pg_backend.specs.declared.script.Auth.TheVariants.{Trust, Cleartext, Md5}
use Rattle.pg_backend.specs.declared.script.Key.{Key}
use Rattle.pg_backend.specs.declared.script.Script.{Script}
use Rattle.pg_backend.specs.OwnError.{no_user, wrong_password}
use Rattle.pg_backend.specs.Session.{Place, Terminated, Stray, farewell, replies}

-- ---- the first messages

-- the message of a run-time parameter: its name and its value
abbrev pub pair_message : List ℕ × List ℕ → BackMessage
pair_message p = back.ParameterStatus p.0 p.1

-- the BackendKeyData, if the script has a key
abbrev pub key_messages : Option Key → List BackMessage
key_messages None = []
key_messages (Some key) = back.KeyData key.process key.secret ∷ []

-- what a client that is let in is sent: AuthenticationOk, the run-time parameters, the key, and
-- ReadyForQuery with status idle
abbrev pub welcome : Script → List BackMessage
welcome s = back.AuthOk ∷ (map pair_message s.pairs ++ key_messages s.key ++ back.Ready Idle ∷ [])

-- ---- who is let in

-- the user that the pairs of a Startup name: the value of the last `user`; without one, the one
-- given
abbrev pub user_from : List ℕ → List (List ℕ × List ℕ) → List ℕ
user_from user [] = user
user_from user (p ∷ ps) = user_from (if bytes_eq p.0 (codes "user") then p.1 else user) ps

-- the message that asks for a password, if the script wants one: AuthenticationCleartextPassword or
-- AuthenticationMD5Password
abbrev pub question : Auth → List BackMessage
question Trust = []
question (Cleartext password) = back.AuthCleartext ∷ []
question (Md5 password salt) = back.AuthMd5 salt ∷ []

-- what a client with this user is asked for; one whose user is empty is rejected without a question
abbrev pub question_for : Auth → List ℕ → List BackMessage
question_for auth [] = []
question_for auth (c ∷ cs) = question auth

-- what becomes of a client after its Startup: it is rejected with an error; its password is
-- awaited; before its password it sent a Terminate or a message that may not stand there (Stopped);
-- or it is let in, and these messages follow
pub data Admission : Type 0 where
  Refused : (fields : List ErrorField) → Admission
  Awaited : Admission
  Stopped : (place : Place) → Admission
  Admitted : (messages : List FrontMessage) → Admission

-- what becomes of a client that is asked for this password, by the messages it sends: the first of
-- them has to be it
abbrev pub by_password : List ℕ → List FrontMessage → Admission
by_password expected [] = Awaited
by_password expected (front.Password password ∷ ms) =
    if bytes_eq password expected then Admitted ms else Refused wrong_password
by_password expected (front.Terminate ∷ ms) = Stopped Terminated
by_password expected (m ∷ ms) = Stopped Stray

-- what becomes of a client with this user and these messages, by the script's way of authentication
abbrev pub by_auth : Auth → List ℕ → List FrontMessage → Admission
by_auth Trust user ms = Admitted ms
by_auth (Cleartext password) user ms = by_password password ms
by_auth (Md5 password salt) user ms = by_password (md5_text user password salt) ms

-- what becomes of a client with this user and these messages: one whose user is empty is rejected
abbrev pub admission : Auth → List ℕ → List FrontMessage → Admission
admission auth [] ms = Refused no_user
admission auth (c ∷ cs) ms = by_auth auth (c ∷ cs) ms

-- what is sent to a client after the question, by what becomes of it
abbrev pub admission_messages : Script → Admission → List BackMessage
admission_messages s (Refused fields) = back.ErrorResponse fields ∷ []
admission_messages s Awaited = []
admission_messages s (Stopped place) = farewell place
admission_messages s (Admitted ms) = welcome s ++ replies s.answers ms

-- all that is sent for a Startup with these pairs and the messages after it
abbrev pub started : Script → List (List ℕ × List ℕ) → List FrontMessage → List BackMessage
started s pairs ms =
    let user = user_from [] pairs in
    question_for s.auth user ++ admission_messages s (admission s.auth user ms)

-- ---- all that is sent

-- one thing that a backend sends: the byte `N` to an SSLRequest or a GSSENCRequest, or a message
pub data Sent : Type 0 where
  No : Sent
  Says : (message : BackMessage) → Sent

-- all that is sent for these first packets and the messages after them
abbrev pub sent_for : Script → List First → List FrontMessage → List Sent
sent_for s [] ms = []
sent_for s (first.Ssl ∷ packets) ms = No ∷ sent_for s packets ms
sent_for s (first.Gss ∷ packets) ms = No ∷ sent_for s packets ms
sent_for s (first.Cancel process secret ∷ packets) ms = []
sent_for s (first.Startup pairs ∷ packets) ms = map Says (started s pairs ms)
