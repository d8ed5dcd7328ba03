-- A decoder of first packets as its callers see it, what its calls do, and what it was given and
-- has given.
use Rattle.std.specs.Prelude.{ℕ, ◌≡◌, ◌<◌, ◌++◌, ◌∷◌, [], ◌⊎◌, Bool, true, false, List, length, Option, Some, None, Result, Ok, Err}
use Rattle.pg_wire.specs.declared.fault.WireFault.{WireFault}
use Rattle.pg_wire.specs.declared.fault.WireFault.TheVariants as wire
use Rattle.pg_message.specs.declared.message.First.{First}
use Rattle.pg_wire.specs.First.{IsPacket, packet, packet_holds_list, is_last, IsBeginning, longest_packet, IsFaultyPacket, IsOpenPacket}

-- the bytes that were pushed and not yet given as packets, whether a Startup or a Cancel was given,
-- and the fault that was found, if any
pub record FirstState : Type 0 where
  pub kept : List ℕ
  pub ended : Bool
  pub fault : Option WireFault

-- The rest has the stored fault, if there is one, and no Startup or Cancel was given before it.
abbrev pub PacketFaultHolds : FirstState → Option WireFault → Type 0
PacketFaultHolds s None = Unit {0}
PacketFaultHolds s (Some f) = (s.ended ≡ false) × IsFaultyPacket s.kept f

-- The decoder was pushed these bytes in all, and has given these first packets; the bytes kept are
-- the rest after them.
pub record HasBegun (s : FirstState) (pushed : List ℕ) (given : List First) : Type 0 where
  pub beginning : IsBeginning pushed given s.ended s.kept
  pub fault : PacketFaultHolds s s.fault

-- A push keeps the whole piece, or rejects it and changes nothing: by the fault that was found
-- before, or because memory ran out, but never a piece without bytes.
abbrev pub FirstPushes : FirstState → List ℕ → Result Unit WireFault → FirstState → Type 0
FirstPushes old piece (Ok x) new = (old.fault ≡ None)
    × (new ≡ record old { kept = old.kept ++ piece })
FirstPushes old piece (Err wire.Memory) new = (old.fault ≡ None) × (0 < length piece) × (new ≡ old)
FirstPushes old piece (Err f) new = (old.fault ≡ Some f) × (new ≡ old)

-- Why `next` returns None: a Startup or a Cancel was given (true), or the rest is open, with fewer
-- bytes than the longest packet has.
abbrev pub NoMorePackets : Bool → List ℕ → Type 0
NoMorePackets true rest = Unit {0}
NoMorePackets false rest = IsOpenPacket rest × (length rest < longest_packet)

-- The rest begins with a packet that holds a list, as a Startup does. Only there `next` asks for
-- memory.
abbrev pub PacketWantsMemory : List ℕ → Type 0
PacketWantsMemory rest = (p : First) × (more : List ℕ) × IsPacket p × (packet_holds_list p ≡ true)
    × (rest ≡ packet p ++ more)

-- What `next` returns: the first packet of the rest, which is dropped from it; None as
-- NoMorePackets says; a fault exactly where the rest has it. Memory leaves the decoder as it was.
abbrev pub FirstTakes : FirstState → Result (Option First) WireFault → FirstState → Type 0
FirstTakes old (Ok None) new = (old.fault ≡ None) × (new ≡ old) × NoMorePackets old.ended old.kept
FirstTakes old (Ok (Some p)) new = (old.fault ≡ None) × (old.ended ≡ false) × IsPacket p
    × (old.kept ≡ packet p ++ new.kept)
    × (new ≡ record old { kept = new.kept; ended = is_last p })
FirstTakes old (Err wire.Memory) new = (old.fault ≡ None) × (old.ended ≡ false) × (new ≡ old)
    × PacketWantsMemory old.kept
FirstTakes old (Err f) new = ((old.fault ≡ Some f) × (new ≡ old))
    ⊎ ((old.fault ≡ None) × (old.ended ≡ false) × (new ≡ record old { fault = Some f })
    × IsFaultyPacket old.kept f)

-- all packets given, after a call of `next` that returned this
abbrev pub packets_after : List First → Result (Option First) WireFault → List First
packets_after given (Ok None) = given
packets_after given (Ok (Some p)) = given ++ p ∷ []
packets_after given (Err f) = given
