-- A decoder as its callers see it, what its calls do, and what it was given and has given.
use Rattle.std.specs.Prelude.{ℕ, ◌≡◌, ◌<◌, ◌+◌, ◌++◌, ◌∷◌, [], ◌⊎◌, true, List, length, Option, Some, None, Result, Ok, Err}
use Rattle.pg_wire.specs.declared.fault.WireFault.{WireFault}
use Rattle.pg_wire.specs.declared.fault.WireFault.TheVariants as wire
use Rattle.pg_message.specs.Direction.{Direction, spelling}
use Rattle.pg_wire.specs.Stream.{IsWithin, IsStream, IsFaulty, IsOpen}

-- the bytes that were pushed and not yet given as messages, the greatest length field that is
-- taken, and the fault that was found, if any
pub record DecoderState : Type 0 where
  pub kept : List ℕ
  pub limit : ℕ
  pub fault : Option WireFault

-- A decoder may store this fault, as each later call returns it. Memory isn't stored: the next call
-- may have some.
abbrev pub IsLasting : Option WireFault → Type 0
IsLasting None = Unit {0}
IsLasting (Some wire.Memory) = ⊥
IsLasting (Some f) = Unit {0}

-- The rest has the stored fault, if there is one.
abbrev pub HasStoredFault : {M : Type 0} → Direction M → ℕ → List ℕ → Option WireFault → Type 0
HasStoredFault d limit rest None = Unit {0}
HasStoredFault d limit rest (Some f) = IsFaulty d limit rest f

-- The decoder was pushed these bytes in all, and has given these messages: they are the first of
-- the stream, and the bytes kept are its rest.
pub record HasTaken {M : Type 0} (d : Direction M) (s : DecoderState) (pushed : List ℕ)
    (given : List M) : Type 0 where
  pub stream : IsStream d s.limit pushed given s.kept
  pub fault : HasStoredFault d s.limit s.kept s.fault

-- A push keeps the whole piece, or rejects it and changes nothing: by the fault that was found
-- before, or because memory ran out, but never a piece without bytes.
abbrev pub Pushes : DecoderState → List ℕ → Result Unit WireFault → DecoderState → Type 0
Pushes old piece (Ok x) new = (old.fault ≡ None) × (new ≡ record old { kept = old.kept ++ piece })
Pushes old piece (Err wire.Memory) new = (old.fault ≡ None) × (0 < length piece) × (new ≡ old)
Pushes old piece (Err f) new = (old.fault ≡ Some f) × (new ≡ old)

-- The rest begins with a message that holds a text or another list. Only there `next` asks for
-- memory.
abbrev pub WantsMemory : {M : Type 0} → Direction M → ℕ → List ℕ → Type 0
WantsMemory {M} d limit rest = (m : M) × (more : List ℕ) × IsWithin d limit m
    × (d.holds_list m ≡ true) × (rest ≡ spelling d m ++ more)

-- What `next` returns: the first message of the rest, which is dropped from it; None where the rest
-- is open; a fault exactly where the rest has it, then and for good. Memory leaves the decoder as
-- it was.
abbrev pub Takes : {M : Type 0} → Direction M → DecoderState → Result (Option M) WireFault
    → DecoderState → Type 0
Takes d old (Ok None) new = (old.fault ≡ None) × (new ≡ old) × IsOpen d old.limit old.kept
    × (length old.kept < old.limit + 1)
Takes d old (Ok (Some m)) new = (old.fault ≡ None) × IsWithin d old.limit m
    × (old.kept ≡ spelling d m ++ new.kept) × (new ≡ record old { kept = new.kept })
Takes d old (Err wire.Memory) new = (old.fault ≡ None) × (new ≡ old)
    × WantsMemory d old.limit old.kept
Takes d old (Err f) new = ((old.fault ≡ Some f) × (new ≡ old))
    ⊎ ((old.fault ≡ None) × (new ≡ record old { fault = Some f }) × IsFaulty d old.limit old.kept f)

-- all messages given, after a call of `next` that returned this
abbrev pub given_after : {M : Type 0} → List M → Result (Option M) WireFault → List M
given_after given (Ok None) = given
given_after given (Ok (Some m)) = given ++ m ∷ []
given_after given (Err f) = given
