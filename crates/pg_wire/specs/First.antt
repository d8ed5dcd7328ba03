-- What a connection begins with: first packets, and the rest after them (Frontend/Backend Protocol,
-- "Start-up"). How a packet is spelled is passed on.
use Rattle.std.specs.Prelude.{ℕ, ℤ, pos, ◌≡◌, ◌≤◌, ◌<ℤ◌, ◌≤ℤ◌, Bool, true, false, List, [], ◌∷◌, ◌++◌, length, take, drop}
use Rattle.std.specs.List.{flat_map, AllByRecursion}
use Rattle.std.specs.Int.{w32, from_be_bytes, cast_signed}
use Rattle.pg_wire.specs.declared.fault.WireFault.{WireFault}
use Rattle.pg_wire.specs.declared.fault.WireFault.TheVariants as wire
use Rattle.pg_message.specs.declared.message.First.{First}
use Rattle.pg_message.specs.declared.message.First.TheVariants as first
pub use Rattle.pg_message.specs.First.{parameter, code, content_body, content}
pub use Rattle.pg_message.specs.First.{packet_length, longest_packet, packet}
pub use Rattle.pg_message.specs.First.{has_no_name, packet_holds_list, packet_has_zero}
pub use Rattle.pg_message.specs.First.{packet_has_no_name, packet_fault_of, packet_fault}
pub use Rattle.pg_message.specs.First.{PacketIsOfType, IsPacket}
pub use Rattle.pg_message.specs.First.{database_pair, startup_parameters}

-- whether no first packet may come after this one: a Startup or a Cancel
abbrev pub is_last : First → Bool
is_last (first.Startup pairs) = true
is_last (first.Cancel process secret) = true
is_last first.Ssl = false
is_last first.Gss = false

-- No packet stands after a Startup or a Cancel, and `ended` says whether the last packet is one.
abbrev pub EndsIn : List First → Bool → Type 0
EndsIn [] ended = ended ≡ false
EndsIn (p ∷ []) ended = ended ≡ is_last p
EndsIn (p ∷ q ∷ packets) ended = (is_last p ≡ false) × EndsIn (q ∷ packets) ended

-- The bytes are these first packets, one after the other, and a rest. `ended` says whether the last
-- packet is a Startup or a Cancel, after which no packet is read.
pub record IsBeginning (bytes : List ℕ) (packets : List First) (ended : Bool)
    (rest : List ℕ) : Type 0 where
  pub whole : bytes ≡ flat_map packet packets ++ rest
  pub each : AllByRecursion IsPacket packets
  pub last : EndsIn packets ended

-- ---- what a rest is, where the packets have not ended

-- The first four bytes of the rest are there and are, as an Int32, the length n.
pub record PacketHead (rest : List ℕ) (n : ℤ) : Type 0 where
  pub there : 4 ≤ length rest
  pub length_is : cast_signed w32 (from_be_bytes w32 (take 4 rest)) ≡ n

-- The next four bytes are there too and are, as an Int32, the code c.
pub record PacketCode (rest : List ℕ) (c : ℤ) : Type 0 where
  pub there : 8 ≤ length rest
  pub code_is : cast_signed w32 (from_be_bytes w32 (take 4 (drop 4 rest))) ≡ c

-- The length is 8 to 10,000, as a first packet's may be.
abbrev pub IsPacketLength : ℤ → Type 0
IsPacketLength n = (pos 8 ≤ℤ n) × (n ≤ℤ pos longest_packet)

-- The code is that of a Startup, a Cancel, an Ssl or a Gss.
abbrev pub IsPacketCode : ℤ → Type 0
IsPacketCode c = (p : First) × (pos (code p) ≡ c)

-- All bytes of the next packet are there by its length `len`, which is 8 to 10,000, and its code c
-- is one of the four.
pub record IsWholePacket (rest : List ℕ) (c : ℤ) (len : ℕ) : Type 0 where
  pub head : PacketHead rest (pos len)
  pub code : PacketCode rest c
  pub known : IsPacketCode c
  pub not_short : 8 ≤ len
  pub not_long : len ≤ longest_packet
  pub there : len ≤ length rest

-- These bytes are no packet's.
abbrev pub NoPacket : List ℕ → Type 0
NoPacket bytes = (p : First) → IsPacket p → packet p ≡ bytes → ⊥

-- The rest is faulty, for this reason. Each reason is looked at only where those above it don't
-- hold. A packet has no tag, so the tag of a bad body is 0.
abbrev pub IsFaultyPacket : List ℕ → WireFault → Type 0
IsFaultyPacket rest (wire.UnknownTag t) = ⊥
IsFaultyPacket rest (wire.ShortLength n) = PacketHead rest n × (n <ℤ pos 8)
IsFaultyPacket rest (wire.LongLength n) = PacketHead rest n × (pos longest_packet <ℤ n)
IsFaultyPacket rest (wire.BadFirst c) = (n : ℤ) × PacketHead rest n × IsPacketLength n
    × PacketCode rest c × (IsPacketCode c → ⊥)
IsFaultyPacket rest (wire.BadBody t) = (t ≡ 0) × (c : ℤ) × (len : ℕ) × IsWholePacket rest c len
    × NoPacket (take len rest)
IsFaultyPacket rest wire.Memory = ⊥

-- The rest begins with no first packet.
abbrev pub BeginsNoPacket : List ℕ → Type 0
BeginsNoPacket rest = (p : First) (more : List ℕ) → IsPacket p → rest ≡ packet p ++ more → ⊥

-- The rest is open, where a first packet may come: it begins with no packet and isn't faulty, so
-- more bytes are to come.
pub record IsOpenPacket (rest : List ℕ) : Type 0 where
  pub no_packet : BeginsNoPacket rest
  pub no_fault : (f : WireFault) → IsFaultyPacket rest f → ⊥
