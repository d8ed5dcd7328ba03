-- Why a client is closed: what closes it, and which fault feed returns then.
use Rattle.std.specs.Prelude.{◌≡◌, ℕ, List, [], ◌∷◌, ◌++◌, true, Option, Some, None}
use Rattle.pg_wire.specs.declared.fault.WireFault.{WireFault}
use Rattle.pg_wire.specs.message.BackMessage.{BackMessage}
use Rattle.pg_wire.specs.message.BackMessage.TheVariants.{AuthOther, ErrorResponse}
use Rattle.pg_wire.specs.Backend.{backend, tag}
use Rattle.pg_wire.specs.Direction.{spelling}
use Rattle.pg_wire.specs.Segment.{without_asides}
use Rattle.pg_wire.specs.Stream.{IsWithin, IsOpen, IsFaulty}
use Rattle.pg_client.specs.declared.settings.Settings.{Settings}
use Rattle.pg_client.specs.declared.phase.Cause.{Cause}
use Rattle.pg_client.specs.declared.phase.Cause.TheVariants as cause
use Rattle.pg_client.specs.declared.fault.FeedFault.{FeedFault}
use Rattle.pg_client.specs.declared.fault.FeedFault.TheVariants as feeding
use Rattle.pg_client.specs.declared.call.Call.TheVariants as call
use Rattle.pg_client.specs.Session.{Happening, Did, Came, rest_in, asks_password, Expected, IsStarting, IsReady}

-- The startup has begun, and nothing but asides has come ("Start-up").
abbrev pub AwaitsAuthentication : List Happening → Type 0
AwaitsAuthentication hs = IsStarting hs × (without_asides (rest_in hs) ≡ [])

-- The fault is that of this message, which may not come after these events, and it says more than
-- Unexpected. The client has this password or none. StartupError: an ErrorResponse in the startup.
-- ServerEnd: one later, while no request is outstanding. PasswordWanted and UnsupportedAuth: at the
-- beginning of the startup, a question for a password that the client hasn't, or for an
-- authentication of another kind.
abbrev pub IsNamedFault : Option (List ℕ) → List Happening → BackMessage → FeedFault → Type 0
IsNamedFault password hs m (feeding.StartupError fields) =
    IsStarting hs × (m ≡ ErrorResponse fields)
IsNamedFault password hs m (feeding.ServerEnd fields) = IsReady hs × (m ≡ ErrorResponse fields)
IsNamedFault password hs m feeding.PasswordWanted = AwaitsAuthentication hs
    × (asks_password m ≡ true) × (password ≡ None)
IsNamedFault password hs m (feeding.UnsupportedAuth code) = AwaitsAuthentication hs
    × (bytes : List ℕ) × (m ≡ AuthOther code bytes)
IsNamedFault _ _ _ _ = ⊥

-- The fault of this message, which may not come after these events: feed returns it, unless memory
-- runs out first. It is the one that says more than Unexpected, and where none does, Unexpected
-- with the message's tag.
abbrev pub IsFaultFor : Option (List ℕ) → List Happening → BackMessage → FeedFault → Type 0
IsFaultFor password hs m (feeding.Unexpected t) = (t ≡ tag m)
    × ((f : FeedFault) → IsNamedFault password hs m f → ⊥)
IsFaultFor password hs m f = IsNamedFault password hs m f

-- The cause with which this fault closes a client. None: the client was closed before, and keeps
-- its cause.
abbrev pub cause_of : FeedFault → Option Cause
cause_of (feeding.Wire f) = Some cause.Wire
cause_of (feeding.Unexpected t) = Some cause.Unexpected
cause_of (feeding.UnsupportedAuth code) = Some cause.UnsupportedAuth
cause_of feeding.PasswordWanted = Some cause.PasswordWanted
cause_of (feeding.StartupError fields) = Some cause.StartupError
cause_of (feeding.ServerEnd fields) = Some cause.ServerEnd
cause_of feeding.Memory = Some cause.Memory
cause_of feeding.Closed = None

-- The bytes begin with a message that may not come after these events, and this is its fault.
pub record IsRefusedAt (settings : Settings) (hs : List Happening) (bytes : List ℕ)
    (f : FeedFault) : Type 0 where
  pub message : BackMessage
  -- the bytes after that message
  pub more : List ℕ
  pub begins : bytes ≡ spelling backend message ++ more
  -- it isn't longer than the limit allows
  pub within : IsWithin backend settings.limit message
  pub not_expected : Expected settings.password (hs ++ Came message ∷ []) → ⊥
  pub fault : IsFaultFor settings.password hs message f

-- The client keeps the bytes that are left after the last whole message, and they may still become
-- a message no longer than the limit.
pub record IsKept (limit : ℕ) (rest kept : List ℕ) : Type 0 where
  pub kept_is : kept ≡ rest
  -- no message is whole, and no fault is there yet
  pub is_open : IsOpen backend limit rest

-- Why a client handles no further message after these events. The arguments are its settings, the
-- events, the bytes that are left, those that it keeps, and why it is closed, or None. Open, Lost
-- and Terminated: no message is whole; with Terminated, terminate was the last event. Wire: the
-- bytes left are no message and can't become one. Memory: memory ran out, at whatever point.
-- Any other cause: the bytes left begin with a message that may not come, with a fault of that
-- cause.
abbrev pub Ends : Settings → List Happening → List ℕ → List ℕ → Option Cause → Type 0
Ends settings hs rest kept None = IsKept settings.limit rest kept
Ends settings hs rest kept (Some cause.Lost) = IsKept settings.limit rest kept
Ends settings hs rest kept (Some cause.Terminated) = IsKept settings.limit rest kept
    × ((before : List Happening) × (hs ≡ before ++ Did call.Terminate ∷ []))
Ends settings hs rest kept (Some cause.Wire) = (f : WireFault)
    × IsFaulty backend settings.limit rest f
Ends settings hs rest kept (Some cause.Memory) = Unit {0}
Ends settings hs rest kept (Some c) = (f : FeedFault) × (cause_of f ≡ Some c)
    × IsRefusedAt settings hs rest f
