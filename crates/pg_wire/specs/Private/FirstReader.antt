-- Reading a first packet, and what is found at the beginning of a rest.
use Rattle.std.specs.Prelude.{ℕ, ℤ, pos, ◌≡◌, ◌<◌, ◌≤◌, ◌++◌, ◌==◌, if◌then◌else◌, List, length, drop, Option, Some, None, Result, Ok, Err}
use Rattle.std.specs.Int.{w32}
use Rattle.std.specs.Ordering.{int_eq}
use Rattle.pg_wire.specs.declared.fault.WireFault.{WireFault}
use Rattle.pg_wire.specs.declared.fault.WireFault.TheVariants as wire
use Rattle.pg_wire.specs.declared.first.kind.FirstKind.{FirstKind}
use Rattle.pg_wire.specs.declared.first.kind.FirstKind.TheVariants as kinds
use Rattle.pg_wire.specs.declared.first.JudgedPacket.{JudgedPacket}
use Rattle.pg_wire.specs.declared.first.JudgedPacket.TheVariants as judged
use Rattle.pg_message.specs.declared.message.First.{First}
use Rattle.pg_message.specs.declared.message.First.TheVariants as first
use Rattle.pg_wire.specs.First.{IsPacket, packet, longest_packet, IsWholePacket, IsFaultyPacket, IsOpenPacket}
use Rattle.pg_wire.specs.FirstDecoder.{PacketWantsMemory}
use Rattle.pg_codec.specs.Private.Reader.{pair_at, signed_at, terminated_at, parameter_at, whole}

-- the code of each kind of packet
abbrev pub first_code : FirstKind → ℕ
first_code kinds.Startup = 196608
first_code kinds.Cancel = 80877102
first_code kinds.Ssl = 80877103
first_code kinds.Gss = 80877104

abbrev pub first_kind_of : ℤ → Option FirstKind
first_kind_of c =
    if int_eq c (pos 196608) then Some kinds.Startup
    else if int_eq c (pos 80877102) then Some kinds.Cancel
    else if int_eq c (pos 80877103) then Some kinds.Ssl
    else if int_eq c (pos 80877104) then Some kinds.Gss
    else None

abbrev pub first_of : FirstKind → List ℕ → Option First
first_of kinds.Startup bytes = whole first.Startup (terminated_at parameter_at bytes)
first_of kinds.Cancel bytes = whole (λ (p : ℤ
    × ℤ). first.Cancel p.0 p.1) (pair_at (signed_at w32) (signed_at w32) bytes)
first_of kinds.Ssl bytes = if length bytes == 0 then Some first.Ssl else None
first_of kinds.Gss bytes = if length bytes == 0 then Some first.Gss else None

-- what the head says
abbrev pub JudgesPacket : List ℕ → JudgedPacket → Type 0
JudgesPacket rest judged.Open = IsOpenPacket rest × (length rest < longest_packet)
JudgesPacket rest (judged.Faulty f) = IsFaultyPacket rest f
JudgesPacket rest (judged.Whole kind len) = IsWholePacket rest (pos (first_code kind)) len

-- the next packet, and how many bytes it takes
abbrev pub FindsPacket : List ℕ → Result (Option (First × ℕ)) WireFault → Type 0
FindsPacket rest (Ok None) = IsOpenPacket rest × (length rest < longest_packet)
FindsPacket rest (Ok (Some x)) = (x.1 ≤ length rest) × IsPacket x.0
    × (rest ≡ packet x.0 ++ drop x.1 rest)
FindsPacket rest (Err wire.Memory) = PacketWantsMemory rest
FindsPacket rest (Err f) = IsFaultyPacket rest f
