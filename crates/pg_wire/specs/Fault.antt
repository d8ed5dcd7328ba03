-- The codes of a stream's faults. When each comes stands in docs/PROTOCOL.md, under its code.
use Rattle.std.specs.Prelude.{List, ℕ, codes}
use Rattle.pg_wire.specs.declared.fault.WireFault.{WireFault}
use Rattle.pg_wire.specs.declared.fault.WireFault.TheVariants as wire

-- the code of a stream's fault, W1 to W6, in ASCII
abbrev pub wire_code : WireFault → List ℕ
wire_code (wire.UnknownTag tag) = codes "W1"
wire_code (wire.ShortLength size) = codes "W2"
wire_code (wire.LongLength size) = codes "W3"
wire_code (wire.BadBody tag) = codes "W4"
wire_code (wire.BadFirst code) = codes "W5"
wire_code wire.Memory = codes "W6"
