-- A stream of one direction: messages, and the rest after them (Frontend/Backend Protocol,
-- "Overview", "Message Formats").
use Rattle.std.specs.Prelude.{ℕ, ℤ, pos, ◌≡◌, ◌≤◌, ◌+◌, ◌-◌, ◌<ℤ◌, List, ◌++◌, length, take, drop, slice_index}
use Rattle.std.specs.List.{flat_map, AllByRecursion}
use Rattle.std.specs.Int.{w32, from_be_bytes, cast_signed}
use Rattle.pg_wire.specs.declared.fault.WireFault.{WireFault}
use Rattle.pg_wire.specs.declared.fault.WireFault.TheVariants as wire
use Rattle.pg_message.specs.Direction.{Direction, spelling, length_field, HasSpelling}
pub use Rattle.pg_message.specs.Message.{IsTag, NoMessage}

-- The message has a spelling, and its length field is at most the limit.
pub record IsWithin {M : Type 0} (d : Direction M) (limit : ℕ) (m : M) : Type 0 where
  pub spelled : HasSpelling d m
  pub limited : length_field d m ≤ limit

-- The bytes are these messages, one after the other, and a rest.
pub record IsStream {M : Type 0} (d : Direction M) (limit : ℕ) (bytes : List ℕ) (messages : List M)
    (rest : List ℕ) : Type 0 where
  pub whole : bytes ≡ flat_map (spelling d) messages ++ rest
  pub each : AllByRecursion (IsWithin d limit) messages

-- ---- what a rest is

-- The first five bytes of the rest are there: the tag t and, as an Int32, the length field n.
pub record Head (rest : List ℕ) (t : ℕ) (n : ℤ) : Type 0 where
  pub there : 5 ≤ length rest
  pub tag_is : slice_index rest 0 ≡ t
  pub length_is : cast_signed w32 (from_be_bytes w32 (take 4 (drop 1 rest))) ≡ n

-- All bytes of the next message are there by its length field `len`, which is 4 to the limit, and
-- some message has its tag t.
pub record IsWhole {M : Type 0} (d : Direction M) (limit : ℕ) (rest : List ℕ)
    (t len : ℕ) : Type 0 where
  pub head : Head rest t (pos len)
  pub known : IsTag d t
  pub not_short : 4 ≤ len
  pub not_long : len ≤ limit
  pub there : len + 1 ≤ length rest

-- The rest is faulty, for this reason. Each reason is looked at only where those above it don't
-- hold.
abbrev pub IsFaulty : {M : Type 0} → Direction M → ℕ → List ℕ → WireFault → Type 0
IsFaulty d limit rest (wire.UnknownTag t) = (n : ℤ) × Head rest t n × (IsTag d t → ⊥)
IsFaulty d limit rest (wire.ShortLength n) = (t : ℕ) × Head rest t n × IsTag d t × (n <ℤ pos 4)
IsFaulty d limit rest (wire.LongLength n) = (t : ℕ) × Head rest t n × IsTag d t × (pos limit <ℤ n)
IsFaulty d limit rest (wire.BadBody t) = (len : ℕ) × IsWhole d limit rest t len
    × NoMessage d t (take (len - 4) (drop 5 rest))
IsFaulty d limit rest (wire.BadFirst c) = ⊥
IsFaulty d limit rest wire.Memory = ⊥

-- The rest begins with no message within the limit.
abbrev pub BeginsNoMessage : {M : Type 0} → Direction M → ℕ → List ℕ → Type 0
BeginsNoMessage {M} d limit rest = (m : M) (more : List ℕ) → IsWithin d limit m
    → rest ≡ spelling d m ++ more → ⊥

-- The rest is open: it begins with no message within the limit and isn't faulty, so more bytes are
-- to come.
pub record IsOpen {M : Type 0} (d : Direction M) (limit : ℕ) (rest : List ℕ) : Type 0 where
  pub no_message : BeginsNoMessage d limit rest
  pub no_fault : (f : WireFault) → IsFaulty d limit rest f → ⊥
