-- A backend's decoder as its callers see it, and what lending does.
use Rattle.std.specs.Prelude.{◌≡◌, false, Option, Some, None, Result, Ok, Err}
use Rattle.pg_wire.specs.declared.fault.WireFault.{WireFault}
use Rattle.pg_wire.specs.declared.fault.WireFault.TheVariants as wire
use Rattle.pg_wire.specs.declared.back.Cut.{Cut}
use Rattle.pg_wire.specs.declared.back.Cut.TheVariants as cut
use Rattle.pg_message.specs.declared.lent.Lent.{Lent}
use Rattle.pg_message.specs.declared.message.BackMessage.{BackMessage}
use Rattle.pg_message.specs.Backend.{backend}
use Rattle.pg_message.specs.Lent.{message_of, is_lent}
use Rattle.pg_wire.specs.Decoder.{DecoderState, Takes}

-- the stream, as every decoder has it, and what is held: the message that was given last, while it
-- is lent
pub record BackState : Type 0 where
  pub stream : DecoderState
  pub held : Option Lent

-- A call of `push` or `next` ends the holding, but where memory ran out, which changes nothing.
abbrev pub LetsGo : {A : Type 0} → Option Lent → Result A WireFault → Option Lent → Type 0
LetsGo old (Ok x) new = new ≡ None
LetsGo old (Err wire.Memory) new = new ≡ old
LetsGo old (Err f) new = new ≡ None

-- what `next` would have returned, by what is held now
abbrev pub as_next : Result Cut WireFault → Option Lent → Result (Option BackMessage) WireFault
as_next (Ok cut.Nothing) held = Ok None
as_next (Ok cut.Held) None = Ok None
as_next (Ok cut.Held) (Some lent) = Ok (Some (message_of lent))
as_next (Ok (cut.Other m)) held = Ok (Some m)
as_next (Err f) held = Err f

-- What is held after a call of `next_lent`: the message that it returned Held for, and else
-- nothing, but where memory ran out, which changes nothing. No row, error or notice is Other.
abbrev pub Holds : Option Lent → Result Cut WireFault → Option Lent → Type 0
Holds old (Ok cut.Nothing) new = new ≡ None
Holds old (Ok cut.Held) new = (lent : Lent) × (new ≡ Some lent)
Holds old (Ok (cut.Other m)) new = (new ≡ None) × (is_lent m ≡ false)
Holds old (Err wire.Memory) new = new ≡ old
Holds old (Err f) new = new ≡ None

-- A call of `next_lent` takes the message that `next` would take, and holds it if it can be lent.
pub record TakesLent (old : BackState) (result : Result Cut WireFault)
    (new : BackState) : Type 0 where
  pub takes : Takes backend old.stream (as_next result new.held) new.stream
  pub holds : Holds old.held result new.held
