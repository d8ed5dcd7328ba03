-- The line of a message: its tag as a letter, its length field in decimal and its body in
-- hexadecimal, parted by spaces.
use Rattle.std.specs.Prelude.{ℕ, List, [], ◌∷◌}
use Rattle.std.specs.List.{flat_map}
use Rattle.pg_wire.specs.Direction.{Direction, length_field}
use Rattle.pgpipe_base.specs.Outbox.{line_of}

-- the line of a message
abbrev pub line : {M : Type 0} → Direction M → M → List ℕ
line d m = line_of (d.tag m ∷ []) (length_field d m) (d.body m)

-- the lines of these messages, in order
abbrev pub lines : {M : Type 0} → Direction M → List M → List ℕ
lines d messages = flat_map (line d) messages
