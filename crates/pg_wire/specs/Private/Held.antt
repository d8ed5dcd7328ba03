-- What is common to the decoders of tagged messages: a buffer whose beginning may be a message that
-- was given and is still held.
use Rattle.std.specs.Prelude.{◌≡◌, ◌≤◌, ◌⊎◌, [], ℕ, Bool, true, false, List, length, Option, Some, None, Result, Ok, Err}
use Rattle.std.specs.Option.{IsSome}
use Rattle.pg_message.specs.Private.LentReader.{lent_bytes}
use Rattle.pg_message.specs.declared.lent.Lent.{Lent}
use Rattle.pg_message.specs.Backend.{backend}
use Rattle.pg_message.specs.Direction.{Direction}
use Rattle.pg_message.specs.Lent.{message_of}
use Rattle.pg_wire.specs.Stream.{IsFaulty}
use Rattle.pg_wire.specs.Private.Found.{Awaits, BeginsNoLent, HasOtherTag}
use Rattle.pg_wire.specs.declared.find.Found.{Found}
use Rattle.pg_wire.specs.declared.find.Found.TheVariants as found
use Rattle.pg_wire.specs.Decoder.{DecoderState, Takes}
use Rattle.pg_wire.specs.BackDecoder.{BackState}
use Rattle.pg_wire.specs.Spellings.{SpellingsState, LetsBytes}
use Rattle.std.specs.declared.alloc.AllocError.{AllocError}
use Rattle.pg_message.specs.declared.message.BackMessage.TheVariants.{DataRow}
use Rattle.pg_wire.specs.declared.fault.WireFault.{WireFault}
use Rattle.pg_wire.specs.declared.fault.WireFault.TheVariants as wire

-- the bytes of the message that is still held, if one is, and the stream after it
pub record StreamState : Type 0 where
  pub front : List ℕ
  pub rest : DecoderState

-- as callers of a reader of spellings see it
abbrev pub spellings_state : StreamState → SpellingsState
spellings_state s = record { stream = s.rest; held = s.front }

-- as callers of a backend's decoder see it
abbrev pub back_state : StreamState → BackState
back_state s = record { stream = s.rest; held = lent_bytes s.front }

-- Nothing is held, or a whole message is.
abbrev pub IsHeldFront : List ℕ → Type 0
IsHeldFront front = (front ≡ []) ⊎ ((5 ≤ length front) × IsSome (lent_bytes front))

-- A fault of the rest was found, and is stored.
abbrev pub StoresFault : StreamState → StreamState → Type 0
StoresFault old new = (f : WireFault) × (old.rest.fault ≡ None)
    × IsFaulty backend old.rest.limit old.rest.kept f
    × (new ≡ record old { rest = record old.rest { fault = Some f } })

-- Nothing whole is next; or the next message was held; or its fault was stored; or nothing was changed,
-- where no message that is lent is next, and a whole one has another tag.
abbrev pub HoldsNext : StreamState → Found → StreamState → Type 0
HoldsNext old (found.Nothing size) new = (new ≡ old) × Takes backend old.rest (Ok None) old.rest
    × Awaits backend old.rest.limit old.rest.kept size
HoldsNext old (found.Lent size) new = (lent : Lent) × (5 ≤ length new.front)
    × (lent_bytes new.front ≡ Some lent)
    × Takes backend old.rest (Ok (Some (message_of lent))) new.rest
HoldsNext old found.Other new = StoresFault old new ⊎ ((new ≡ old) × (old.rest.fault ≡ None
    → BeginsNoLent old.rest.limit old.rest.kept × HasOtherTag old.rest.limit old.rest.kept))

-- A look at the bytes may find a message, or they are open, or a fault is stored.
abbrev pub MayFind : {M : Type 0} → Direction M → StreamState → Result Bool WireFault
    → StreamState → Type 0
MayFind d old (Ok true) new = (new ≡ old) × (old.rest.fault ≡ None)
MayFind d old (Ok false) new = (new.front ≡ []) × Takes d old.rest (Ok None) new.rest
MayFind {M} d old (Err f) new = LetsBytes {A = M} old.front (Err f) new.front
    × Takes d old.rest (Err f) new.rest

-- The next message is taken where it is a row, and memory may run out for one. Else nothing is changed.
abbrev pub TakesRow : StreamState → Result (Option (List (Option (List ℕ)))) AllocError
    → StreamState → Type 0
TakesRow old (Ok (Some values)) new = (new.front ≡ [])
    × Takes backend old.rest (Ok (Some (DataRow values))) new.rest
TakesRow old (Ok None) new = new ≡ old
TakesRow old (Err e) new = (new ≡ old) × Takes backend old.rest (Err wire.Memory) old.rest
