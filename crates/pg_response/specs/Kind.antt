-- What kind of message it is.
use Rattle.std.specs.Prelude.{◌≡◌, Bool, true, false, Some, None}
use Rattle.pg_wire.specs.message.BackMessage.{BackMessage}
use Rattle.pg_wire.specs.message.BackMessage.TheVariants.{AuthOk, AuthCleartext, AuthMd5, AuthOther, KeyData, ParameterStatus, Ready}
use Rattle.pg_wire.specs.Segment.{aside_of, status_of}
use Rattle.pg_response.specs.declared.kind.Auth.{Auth}
use Rattle.pg_response.specs.declared.kind.Auth.TheVariants as auth
use Rattle.pg_response.specs.declared.kind.Kind.{Kind}
use Rattle.pg_response.specs.declared.kind.Kind.TheVariants as kind

-- The Authentication message of this kind ("Message Formats").
abbrev pub auth_message : Auth → BackMessage
auth_message auth.Ok = AuthOk
auth_message auth.Cleartext = AuthCleartext
auth_message (auth.Md5 salt) = AuthMd5 salt
auth_message (auth.Other code bytes) = AuthOther code bytes

-- Whether the message comes in the startup alone: an Authentication message or BackendKeyData
-- ("Start-up").
abbrev pub is_welcome : BackMessage → Bool
is_welcome AuthOk = true
is_welcome AuthCleartext = true
is_welcome (AuthMd5 salt) = true
is_welcome (AuthOther code bytes) = true
is_welcome (KeyData process secret) = true
is_welcome _ = false

-- The message belongs to a result of a query or to the answer to a step, or is an error, if it comes
-- at its place: it is neither an aside nor a ReadyForQuery nor a message of the startup.
pub record IsPart (m : BackMessage) : Type 0 where
  pub no_aside : aside_of m ≡ None
  pub no_end : status_of m ≡ None
  pub no_welcome : is_welcome m ≡ false

-- Whether the message is a ParameterStatus.
abbrev pub is_parameter_status : BackMessage → Bool
is_parameter_status (ParameterStatus name value) = true
is_parameter_status _ = false

-- The message is of this kind, and carries this. A ParameterStatus is an aside too, and has a kind
-- of its own.
abbrev pub IsKind : BackMessage → Kind → Type 0
IsKind m (kind.Aside a) = (aside_of m ≡ Some a) × (is_parameter_status m ≡ false)
IsKind m (kind.Parameter name value) = m ≡ ParameterStatus name value
IsKind m (kind.Ready status) = m ≡ Ready status
IsKind m (kind.Key process secret) = m ≡ KeyData process secret
IsKind m (kind.Auth a) = m ≡ auth_message a
IsKind m (kind.Part p) = (m ≡ p) × IsPart m
