-- The line of a first packet, and what comes after one: a line is a word for the packet, its length
-- in decimal and the bytes after the length in hexadecimal, parted by spaces.
use Rattle.std.specs.Prelude.{ℕ, Bool, true, false, List, [], ◌∷◌, ◌++◌}
use Rattle.std.specs.Int.{w32, to_be_bytes}
use Rattle.std.specs.List.{flat_map}
use Rattle.pg_wire.specs.message.First.{First}
use Rattle.pg_wire.specs.message.First.TheVariants as first
use Rattle.pg_wire.specs.First.{packet_length, code, content}
use Rattle.pgpipe_frames.specs.declared.next.NextFrame.{NextFrame}
use Rattle.pgpipe_frames.specs.declared.next.NextFrame.TheVariants as next
use Rattle.pgpipe_base.specs.Outbox.{line_of}

-- the word for a packet: startup, cancel, ssl or gss
abbrev pub word : First → List ℕ
word (first.Startup pairs) = 115 ∷ 116 ∷ 97 ∷ 114 ∷ 116 ∷ 117 ∷ 112 ∷ []
word (first.Cancel process secret) = 99 ∷ 97 ∷ 110 ∷ 99 ∷ 101 ∷ 108 ∷ []
word first.Ssl = 115 ∷ 115 ∷ 108 ∷ []
word first.Gss = 103 ∷ 115 ∷ 115 ∷ []

-- the line of a first packet
abbrev pub packet_line : First → List ℕ
packet_line p = line_of (word p) (packet_length p) (to_be_bytes w32 (code p) ++ content p)

-- the lines of these first packets, in order
abbrev pub packet_lines : List First → List ℕ
packet_lines packets = flat_map packet_line packets

-- what may come after this packet: messages, nothing that is read, or another packet
abbrev pub after_packet : First → NextFrame
after_packet (first.Startup pairs) = next.Message
after_packet (first.Cancel process secret) = next.Nothing
after_packet first.Ssl = next.Packet
after_packet first.Gss = next.Packet

-- what may come after these packets, by the last of them; at first a packet
abbrev pub next_after : List First → NextFrame
next_after [] = next.Packet
next_after (p ∷ []) = after_packet p
next_after (p ∷ q ∷ packets) = next_after (q ∷ packets)

-- whether no further first packet may come
abbrev pub have_ended : NextFrame → Bool
have_ended next.Packet = false
have_ended next.Message = true
have_ended next.Nothing = true
