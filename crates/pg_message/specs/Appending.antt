-- How a message is put together of its tag and its body, why there may be no spelling, and what appending it does
-- (Frontend/Backend Protocol, "Message Formats").
use Rattle.std.specs.Prelude.{ℕ, ◌≡◌, ◌+◌, ◌++◌, ◌∷◌, nat_lt, if◌then◌else◌, Bool, false, List, length, Option, Some, None, Result, Ok, Err}
use Rattle.std.specs.Int.{w32, to_be_bytes}
use Rattle.pg_codec.specs.declared.fault.EncodeFault.{EncodeFault}
use Rattle.pg_codec.specs.declared.fault.EncodeFault.TheVariants as faults
use Rattle.pg_codec.specs.Field.{Body}

-- ---- tagged messages

-- the greatest length field
abbrev pub longest : ℕ
longest = 1073741823

-- a tagged message as bytes: its tag, its length field, its body
abbrev pub tagged : ℕ → List ℕ → List ℕ
tagged t bytes = t ∷ to_be_bytes w32 (4 + length bytes) ++ bytes

-- why there is no spelling: the first of these that holds
abbrev pub fault_of : Bool → Bool → Bool → ℕ → Option EncodeFault
fault_of zero too_many reserved size =
    if zero then Some faults.HasZero
    else if too_many then Some faults.TooMany
    else if reserved then Some faults.ReservedCode
    else if nat_lt longest (4 + size) then Some faults.TooLong
    else None

-- why a message with this body has no spelling, where its tag doesn't say it
abbrev pub body_fault : Body → Option EncodeFault
body_fault body = fault_of body.has_zero body.has_too_many false (length body.bytes)

-- ---- first packets

-- the greatest length
abbrev pub longest_packet : ℕ
longest_packet = 10000

-- a first packet as bytes: its length, its code, its content
abbrev pub packet_of : ℕ → List ℕ → List ℕ
packet_of code bytes = to_be_bytes w32 (8 + length bytes) ++ to_be_bytes w32 code ++ bytes

-- why there is no spelling: the first of these that holds
abbrev pub packet_fault_of : Bool → Bool → ℕ → Option EncodeFault
packet_fault_of zero no_name size =
    if zero then Some faults.HasZero
    else if no_name then Some faults.EmptyName
    else if nat_lt longest_packet size then Some faults.TooLong
    else None

-- why a first packet with this content, in which a name is empty or none is, has no spelling
abbrev pub content_fault : Bool → Body → Option EncodeFault
content_fault no_name content = packet_fault_of content.has_zero no_name (8 + length content.bytes)

-- ---- appending

-- What has no fault is appended, and its numbers are of their types; what has one is rejected with
-- it; and memory may run out where there is no fault. A refusal leaves the buffer as it was.
abbrev pub EncodesAs : Type 0 → Option EncodeFault → List ℕ → List ℕ → Result Unit EncodeFault
    → List ℕ → Type 0
EncodesAs OfType fault spelled old (Ok x) new = OfType × (fault ≡ None) × (new ≡ old ++ spelled)
EncodesAs OfType fault spelled old (Err faults.Memory) new = (fault ≡ None) × (new ≡ old)
EncodesAs OfType fault spelled old (Err f) new = (fault ≡ Some f) × (new ≡ old)

-- The message of this tag and this body is appended, or rejected.
abbrev pub Appends : ℕ → Body → List ℕ → Result Unit EncodeFault → List ℕ → Type 0
Appends t body = EncodesAs body.IsOfType (body_fault body) (tagged t body.bytes)

-- The first packet of this code and this content is appended, or rejected.
abbrev pub AppendsPacket : ℕ → Bool → Body → List ℕ → Result Unit EncodeFault → List ℕ → Type 0
AppendsPacket code no_name content = EncodesAs content.IsOfType (content_fault no_name content)
    (packet_of code content.bytes)
