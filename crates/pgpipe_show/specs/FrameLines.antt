-- The line of a frame, and the lines of frames.
use Rattle.std.specs.Prelude.{ℕ, ◌≡◌, ◌-◌, ◌&&◌, nat_lt, Bool, true, false, if◌then◌else◌, List, [], ◌∷◌, ◌++◌, length, drop, slice_index, Option, Some, None, codes}
use Rattle.pg_wire.specs.Backend.{backend}
use Rattle.pg_wire.specs.Direction.{Direction}
use Rattle.pg_wire.specs.Frontend.{frontend}
use Rattle.pg_wire.specs.message.First.{First}
use Rattle.pgpipe_base.specs.Hex.{encode_lower}
use Rattle.pgpipe_base.specs.Outbox.{line_of}
use Rattle.pgpipe_frames.specs.FrameText.{IsTextOf}
use Rattle.pgpipe_frames.specs.declared.next.NextFrame.{NextFrame}
use Rattle.pgpipe_frames.specs.declared.next.NextFrame.TheVariants as next
use Rattle.pgpipe_frames.specs.Frames.{Frame, AreFramed}
use Rattle.pgpipe_frames.specs.Reading.{IsReadAs, IsPacketReadAs}
use Rattle.pgpipe_frames.specs.Json.Frame.{IsJsonText}
use Rattle.pgpipe_show.specs.Messages.{line}
use Rattle.pgpipe_show.specs.Packets.{packet_line}
use Rattle.pgpipe_show.specs.declared.form.Line.{Line}
use Rattle.pgpipe_show.specs.declared.form.Line.TheVariants as lines_of

-- ---- in hexadecimal

-- a tag: itself where it is a visible character of ASCII, and else `\x` and two hexadecimal digits
abbrev pub tag_word : ℕ → List ℕ
tag_word t = if nat_lt 32 t && nat_lt t 127 then t ∷ [] else codes "\\x" ++ encode_lower (t ∷ [])

-- the line of a message that isn't of the tables: `?` before its tag
abbrev pub other_line : List ℕ → List ℕ
other_line bytes = line_of (codes "?" ++ tag_word (slice_index bytes 0)) (length bytes - 1)
    (drop 5 bytes)

-- the line of a message, of the tables as `show` writes it
abbrev pub message_line : {M : Type 0} → Direction M → List ℕ → Option M → List ℕ
message_line d bytes (Some m) = line d m
message_line d bytes None = other_line bytes

-- the line of a first packet, of the tables as `show` writes it
abbrev pub first_line : List ℕ → Option First → List ℕ
first_line bytes (Some p) = packet_line p
first_line bytes None = line_of (codes "?packet") (length bytes) (drop 4 bytes)

-- the line of a message of this direction
abbrev pub IsMessageLine : {M : Type 0} → Direction M → List ℕ → List ℕ → Type 0
IsMessageLine {M} d bytes text = (m : Option M) × IsReadAs d bytes m
    × (text ≡ message_line d bytes m)

-- the line of a message of a client (true) or a backend
abbrev pub IsSideLine : Bool → List ℕ → List ℕ → Type 0
IsSideLine false bytes text = IsMessageLine backend bytes text
IsSideLine true bytes text = IsMessageLine frontend bytes text

-- the line of a frame
abbrev pub IsHexLine : Bool → NextFrame → List ℕ → List ℕ → Type 0
IsHexLine front next.Packet bytes text = (p : Option First) × IsPacketReadAs bytes p
    × (text ≡ first_line bytes p)
IsHexLine front next.Message bytes text = IsSideLine front bytes text
IsHexLine front next.Nothing bytes text = IsSideLine front bytes text

-- ---- in each form

-- the line of a frame; where it is decoded or a JSON object, its text and a newline
abbrev pub IsLine : Line → Bool → Frame → List ℕ → Type 0
IsLine lines_of.Hexadecimal front f text = IsHexLine front f.kind f.bytes text
IsLine lines_of.Decoded front f text = (words : List ℕ) × IsTextOf front f.kind f.bytes words
    × (text ≡ words ++ codes "\n")
IsLine lines_of.Json front f text = (json : List ℕ) × IsJsonText front f.kind f.bytes json
    × (text ≡ json ++ codes "\n")

-- The text is a line for each of these frames, in order.
abbrev pub AreLines : Line → Bool → List Frame → List ℕ → Type 0
AreLines form front [] text = text ≡ []
AreLines form front (f ∷ frames) text = (first more : List ℕ) × IsLine form front f first
    × AreLines form front frames more × (text ≡ first ++ more)

-- what a stream begins with
abbrev pub first_of : Bool → NextFrame
first_of false = next.Message
first_of true = next.Packet

-- The bytes are frames and this rest, and the text is the frames' lines. `n` says what is next.
pub record AreFramesShown (form : Line) (front : Bool) (bytes text : List ℕ) (n : NextFrame)
    (rest : List ℕ) : Type 0 where
  pub frames : List Frame
  pub framed : AreFramed (first_of front) bytes frames n rest
  pub lines : AreLines form front frames text
