-- How the startup goes on from message to message ("Start-up"). How far it has come is a Welcome.
-- Fresh: nothing but asides has come. Asked: a password was asked for. Admitted: AuthenticationOk
-- has come.
use Rattle.std.specs.Prelude.{List, [], ◌∷◌, Option, Some, None}
use Rattle.pg_wire.specs.message.BackMessage.{BackMessage}
use Rattle.pg_wire.specs.message.BackMessage.TheVariants.{AuthOk, AuthCleartext, AuthMd5, KeyData}
use Rattle.pg_client.specs.declared.startup.Welcome.{Welcome}
use Rattle.pg_client.specs.declared.startup.Welcome.TheVariants.{Fresh, Asked, Admitted}

-- How far the startup has come after its first message. AuthenticationOk lets the client in;
-- AuthenticationCleartextPassword and AuthenticationMD5Password ask for its password. None: the
-- message may not come first.
abbrev pub greet_fresh : BackMessage → Option Welcome
greet_fresh AuthOk = Some Admitted
greet_fresh AuthCleartext = Some Asked
greet_fresh (AuthMd5 salt) = Some Asked
greet_fresh _ = None

-- How far it has come after the message that follows a question for a password. AuthenticationOk
-- lets the client in. None: no other message may come there.
abbrev pub greet_asked : BackMessage → Option Welcome
greet_asked AuthOk = Some Admitted
greet_asked _ = None

-- How far it has come after a message that follows AuthenticationOk. A BackendKeyData may come, and
-- the client stays let in. None: no other message may come there.
abbrev pub greet_admitted : BackMessage → Option Welcome
greet_admitted (KeyData process secret) = Some Admitted
greet_admitted _ = None

-- How far the startup has come after one more message, which is neither an aside nor its
-- ReadyForQuery, from how far it had come before. None: the message may not come there.
abbrev pub greet : Welcome → BackMessage → Option Welcome
greet Fresh m = greet_fresh m
greet Asked m = greet_asked m
greet Admitted m = greet_admitted m

-- How far it has come after any number of such messages, from how far it had come before. None: one
-- of them may not come where it does, or it was None before.
abbrev pub greet_from : Option Welcome → List BackMessage → Option Welcome
greet_from w [] = w
greet_from None (m ∷ ms) = None
greet_from (Some w) (m ∷ ms) = greet_from (greet w m) ms

-- How far a startup has come of which these are all messages so far, its asides left out. None: no
-- startup begins so.
abbrev pub greet_all : List BackMessage → Option Welcome
greet_all ms = greet_from (Some Fresh) ms
