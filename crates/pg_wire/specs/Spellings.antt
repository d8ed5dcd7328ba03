-- A reader of spellings as its callers see it, and what its calls do.
use Rattle.std.specs.Prelude.{◌≡◌, [], ℕ, List, Bool, true, false, Some, None, Result, Ok, Err}
use Rattle.pg_wire.specs.declared.fault.WireFault.{WireFault}
use Rattle.pg_wire.specs.declared.fault.WireFault.TheVariants as wire
use Rattle.pg_message.specs.Direction.{Direction, spelling}
use Rattle.pg_wire.specs.Decoder.{DecoderState, Takes}

-- the stream, as every decoder has it, and the bytes of the message that was given last, while they
-- are lent
pub record SpellingsState : Type 0 where
  pub stream : DecoderState
  pub held : List ℕ

-- After a call no bytes are held, but where memory ran out, which changes nothing.
abbrev pub LetsBytes : {A : Type 0} → List ℕ → Result A WireFault → List ℕ → Type 0
LetsBytes old (Ok x) new = new ≡ []
LetsBytes old (Err wire.Memory) new = new ≡ old
LetsBytes old (Err f) new = new ≡ []

-- What `next` returns: whether there is a next message, which is taken as a decoder takes it, and
-- its bytes are held. It needs no memory.
abbrev pub TakesSpelling : {M : Type 0} → Direction M → DecoderState → Result Bool WireFault
    → SpellingsState → Type 0
TakesSpelling {M} d old (Ok true) new = (m : M) × Takes d old (Ok (Some m)) new.stream
    × (new.held ≡ spelling d m)
TakesSpelling d old (Ok false) new = Takes d old (Ok None) new.stream × (new.held ≡ [])
TakesSpelling d old (Err wire.Memory) new = ⊥
TakesSpelling d old (Err f) new = Takes d old (Err f) new.stream × (new.held ≡ [])
