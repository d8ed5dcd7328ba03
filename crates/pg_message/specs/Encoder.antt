-- What an encoder does.
use Rattle.std.specs.Prelude.{ℕ, List, Result}
use Rattle.pg_codec.specs.declared.fault.EncodeFault.{EncodeFault}
use Rattle.pg_message.specs.declared.message.First.{First}
pub use Rattle.pg_message.specs.Appending.{EncodesAs, Appends, AppendsPacket}
use Rattle.pg_message.specs.First.{PacketIsOfType, packet_fault, packet}
use Rattle.pg_message.specs.Direction.{Direction, spelling, encode_fault}

-- The one spelling of the message is appended, or the first reason why it has none is returned.
abbrev pub Encodes : {M : Type 0} → Direction M → M → List ℕ → Result Unit EncodeFault → List ℕ
    → Type 0
Encodes d m = EncodesAs (d.IsOfType m) (encode_fault d m) (spelling d m)

-- The one spelling of the first packet is appended, or the first reason why it has none is
-- returned.
abbrev pub EncodesPacket : First → List ℕ → Result Unit EncodeFault → List ℕ → Type 0
EncodesPacket p = EncodesAs (PacketIsOfType p) (packet_fault p) (packet p)
