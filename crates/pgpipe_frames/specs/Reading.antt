-- What is read of a frame: a message of the tables of this library, or that it is none of these.
use Rattle.std.specs.Prelude.{ℕ, ◌≡◌, List, drop, slice_index, Option, Some, None}
use Rattle.pg_wire.specs.Direction.{Direction}
use Rattle.pg_wire.specs.First.{IsPacket, packet, NoPacket}
use Rattle.pg_wire.specs.Message.{IsMessage, NoMessage}
use Rattle.pg_wire.specs.message.First.{First}

-- the tag of a frame that is a message
abbrev pub tag_of : List ℕ → ℕ
tag_of bytes = slice_index bytes 0

-- the body of a frame that is a message: all after its tag and its length field
abbrev pub body_of : List ℕ → List ℕ
body_of bytes = drop 5 bytes

-- The frame is this message of a direction; or it is none, as its tag or its body isn't of the
-- tables.
abbrev pub IsReadAs : {M : Type 0} → Direction M → List ℕ → Option M → Type 0
IsReadAs d bytes (Some m) = IsMessage d (tag_of bytes) (body_of bytes) m
IsReadAs d bytes None = NoMessage d (tag_of bytes) (body_of bytes)

-- The frame is this first packet, or none that is of the tables.
abbrev pub IsPacketReadAs : List ℕ → Option First → Type 0
IsPacketReadAs bytes (Some p) = IsPacket p × (packet p ≡ bytes)
IsPacketReadAs bytes None = NoPacket bytes
