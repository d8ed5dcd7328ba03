-- What is found at the beginning of a rest.
use Rattle.std.specs.Prelude.{ℕ, ◌≡◌, ◌<◌, ◌≤◌, ◌+◌, ◌-◌, ◌++◌, false, List, length, take, drop, Option, Some, Result, Ok, Err}
use Rattle.pg_wire.specs.declared.fault.WireFault.{WireFault}
use Rattle.pg_wire.specs.declared.fault.WireFault.TheVariants as wire
use Rattle.pg_wire.specs.declared.find.Judged.{Judged}
use Rattle.pg_wire.specs.declared.find.Judged.TheVariants as judged
use Rattle.pg_wire.specs.declared.find.Found.{Found}
use Rattle.pg_wire.specs.declared.find.Found.TheVariants as found
use Rattle.pg_message.specs.declared.lent.Lent.{Lent}
use Rattle.pg_message.specs.declared.message.BackMessage.{BackMessage}
use Rattle.pg_message.specs.declared.message.BackMessage.TheVariants.{DataRow}
use Rattle.pg_values.specs.Private.View.{row_of}
use Rattle.pg_message.specs.Backend.{backend}
use Rattle.pg_message.specs.Direction.{Direction, spelling}
use Rattle.pg_message.specs.Lent.{message_of, is_lent}
use Rattle.pg_message.specs.Private.LentReader.{has_lent, lent_bytes}
use Rattle.pg_wire.specs.Stream.{IsWithin, IsWhole, IsFaulty, IsOpen}
use Rattle.pg_wire.specs.Decoder.{WantsMemory}

-- Bytes that go on from these are open while they are no more than so many.
abbrev pub Awaits : {M : Type 0} → Direction M → ℕ → List ℕ → ℕ → Type 0
Awaits d limit rest size = (more : List ℕ) → length (rest ++ more) ≤ size
    → IsOpen d limit (rest ++ more) × (length (rest ++ more) < limit + 1)

-- They are open, and stay so while they are no more than so many.
abbrev pub StaysOpen : {M : Type 0} → Direction M → ℕ → List ℕ → ℕ → Type 0
StaysOpen d limit rest size = IsOpen d limit rest × (length rest < limit + 1)
    × Awaits d limit rest size

-- what the head says
abbrev pub Judges : {M : Type 0} → Direction M → ℕ → List ℕ → Judged → Type 0
Judges d limit rest (judged.Open size) = StaysOpen d limit rest size
Judges d limit rest (judged.Faulty f) = IsFaulty d limit rest f
Judges d limit rest (judged.Whole tag len) = IsWhole d limit rest tag len

abbrev pub Refuses : {M : Type 0} → Direction M → ℕ → List ℕ → WireFault → Type 0
Refuses d limit rest wire.Memory = WantsMemory d limit rest
Refuses d limit rest f = IsFaulty d limit rest f

-- The message takes so many bytes at the beginning of the rest.
abbrev pub IsFirst : {M : Type 0} → Direction M → ℕ → List ℕ → M → ℕ → Type 0
IsFirst d limit rest m len = (len ≤ length rest) × IsWithin d limit m
    × (rest ≡ spelling d m ++ drop len rest)

-- the first message of the rest, whose length field is this
abbrev pub MakesFirst : {M : Type 0} → Direction M → ℕ → List ℕ → ℕ → Result M WireFault
    → Type 0
MakesFirst d limit rest len (Ok m) = IsFirst d limit rest m (len + 1)
MakesFirst d limit rest len (Err f) = Refuses d limit rest f

-- what stands at the beginning of the rest, where a whole message is judged in place
abbrev pub FindsWhole : {M : Type 0} → Direction M → ℕ → List ℕ → Judged → Type 0
FindsWhole d limit rest (judged.Open size) = StaysOpen d limit rest size
FindsWhole d limit rest (judged.Faulty f) = IsFaulty d limit rest f
FindsWhole {M} d limit rest (judged.Whole tag len) = (m : M) × IsFirst d limit rest m (len + 1)

-- The rest begins with no message within the limit that is lent.
abbrev pub BeginsNoLent : ℕ → List ℕ → Type 0
BeginsNoLent limit rest = (m : BackMessage) (more : List ℕ) → IsWithin backend limit m
    → rest ≡ spelling backend m ++ more → is_lent m ≡ false

-- Where all bytes of the next message are there, its tag isn't that of one that is lent.
abbrev pub HasOtherTag : ℕ → List ℕ → Type 0
HasOtherTag limit rest = (t len : ℕ) → IsWhole backend limit rest t len → has_lent t ≡ false

-- what stands at the beginning of the rest, where some messages are lent; a whole message with the tag
-- of one that is lent is either lent or a fault
abbrev pub FindsLent : ℕ → List ℕ → Result Found WireFault → Type 0
FindsLent limit rest (Ok (found.Nothing size)) = StaysOpen backend limit rest size
FindsLent limit rest (Ok (found.Lent len)) = (lent : Lent) × (5 ≤ len)
    × (lent_bytes (take len rest) ≡ Some lent) × IsFirst backend limit rest (message_of lent) len
FindsLent limit rest (Ok found.Other) = BeginsNoLent limit rest × HasOtherTag limit rest
FindsLent limit rest (Err f) = IsFaulty backend limit rest f

-- The rest begins with a row within the limit, which takes so many bytes.
abbrev pub FindsRow : ℕ → List ℕ → ℕ → Type 0
FindsRow limit rest size = (values : List (Option (List ℕ))) × (5 ≤ size)
    × (row_of (take (size - 5) (drop 5 rest)) ≡ Some values)
    × IsFirst backend limit rest (DataRow values) size
