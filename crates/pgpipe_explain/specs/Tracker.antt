-- What each byte of a stream or of a file does: it stands within its message or row, or ends it. Only lengths and line ends count; whether
-- a message or a row has a meaning isn't judged.
use Rattle.std.specs.Prelude.{ℕ, ◌+◌, ◌-◌, ◌*◌, ◌/◌, ◌%◌, ◌==◌, ◌||◌, nat_lt, if◌then◌else◌, List, [], ◌∷◌, Option, Some, None}
use Rattle.pg_wire.specs.Direction.{longest}
use Rattle.pg_wire.specs.First.{longest_packet}
use Rattle.pgpipe_explain.specs.declared.binary.Binary.{Binary}
use Rattle.pgpipe_explain.specs.declared.binary.Binary.TheVariants as binary
use Rattle.pgpipe_explain.specs.declared.place.Place.{Place}
use Rattle.pgpipe_explain.specs.declared.text.LastByte.{LastByte}
use Rattle.pgpipe_explain.specs.declared.text.LastByte.TheVariants as text
use Rattle.pgpipe_explain.specs.declared.tracker.TrackedKind.{TrackedKind}
use Rattle.pgpipe_explain.specs.declared.tracker.TrackedKind.TheVariants as kind
use Rattle.pgpipe_explain.specs.declared.tracker.Phase.{Phase}
use Rattle.pgpipe_explain.specs.declared.tracker.Phase.TheVariants as phase
use Rattle.pgpipe_explain.specs.declared.tracker.Tracker.{Tracker}
use Rattle.pgpipe_explain.specs.declared.tracker.ByteEffect.{ByteEffect}
use Rattle.pgpipe_explain.specs.declared.tracker.ByteEffect.TheVariants as effect
use Rattle.pgpipe_explain.specs.declared.wire.NextPart.{NextPart}
use Rattle.pgpipe_explain.specs.declared.wire.NextPart.TheVariants as next
use Rattle.pgpipe_explain.specs.declared.wire.Wire.{Wire}
use Rattle.pgpipe_explain.specs.declared.wire.Wire.TheVariants as wire
use Rattle.pgpipe_explain.specs.Place.{counted_up, next_place}

-- the number that the last four bytes make, the most significant first, with one byte more
abbrev pub with_byte : ℕ → ℕ → ℕ
with_byte word b = (word % 16777216) * 256 + b

-- ---- the lines of a text file

-- A line ends at a newline, a return, or a return with a newline directly after it. One of these after
-- a backslash stands within its line of the file's rows.
abbrev pub text_taken : LastByte → ℕ → ByteEffect
text_taken text.Escape b =
    if (b == 10) || (b == 13) then effect.Line (phase.Text text.Plain)
    else effect.Within (phase.Text text.Plain)
text_taken text.Plain b =
    if b == 10 then effect.Last (phase.Text text.Plain)
    else if b == 92 then effect.Within (phase.Text text.Escape)
    else if b == 13 then effect.Within (phase.Text text.Return)
    else effect.Within (phase.Text text.Plain)
text_taken text.Return b =
    if b == 10 then effect.Last (phase.Text text.Plain)
    else if b == 92 then effect.First (phase.Text text.Escape)
    else if b == 13 then effect.First (phase.Text text.Return)
    else effect.First (phase.Text text.Plain)

-- ---- the messages and first packets of a stream

-- what comes after a first packet with this code: nothing after a request to cancel, a packet after
-- any other request, whose code has 1234 as its upper half, and messages after any other code, as after
-- a startup of any version
abbrev pub next_by : ℕ → NextPart
next_by code =
    if code == 80877102 then next.Nothing
    else if code / 65536 == 1234 then next.Packet
    else next.Message

-- what begins where a part has ended
abbrev pub beginning : NextPart → Wire
beginning next.Message = wire.Head 0 0
beginning next.Packet = wire.Length 0 0
beginning next.Nothing = wire.Rest

-- a byte came of a part of which so many are left now
abbrev pub body_of : ℕ → NextPart → ByteEffect
body_of left n =
    if left == 0 then effect.Last (phase.Wire (beginning n))
    else effect.Within (phase.Wire (wire.Body left n))

-- a message's length came; after one that can't be nothing has an end
abbrev pub after_length : ℕ → ByteEffect
after_length n =
    if nat_lt n 4 || nat_lt longest n then effect.Within (phase.Wire wire.Rest)
    else body_of (n - 4) next.Message

-- a first packet's length came; after one that can't be nothing has an end
abbrev pub after_packet_length : ℕ → ByteEffect
after_packet_length n =
    if nat_lt n 8 || nat_lt longest_packet n then effect.Within (phase.Wire wire.Rest)
    else effect.Within (phase.Wire (wire.Code 0 0 (n - 8)))

-- A message is a tag, a length field, which counts itself, and a body; a first packet has no tag, and
-- its body begins with a code.
abbrev pub wire_taken : Wire → ℕ → ByteEffect
wire_taken (wire.Head seen word) b =
    if nat_lt seen 4 then effect.Within (phase.Wire (wire.Head (seen + 1) (with_byte word b)))
    else after_length (with_byte word b)
wire_taken (wire.Length seen word) b =
    if nat_lt seen 3 then effect.Within (phase.Wire (wire.Length (seen + 1) (with_byte word b)))
    else after_packet_length (with_byte word b)
wire_taken (wire.Code seen word left) b =
    if nat_lt seen 3 then effect.Within (phase.Wire (wire.Code (seen + 1) (with_byte word b) left))
    else body_of left (next_by (with_byte word b))
wire_taken (wire.Body left n) b = body_of (left - 1) n
wire_taken wire.Rest b = effect.Within (phase.Wire wire.Rest)

-- ---- the rows of a binary file

-- a row of which so many values are left
abbrev pub fields_left : ℕ → ByteEffect
fields_left left =
    if left == 0 then effect.Last (phase.Binary (binary.Count 0 0))
    else effect.Within (phase.Binary (binary.Length 0 0 (left - 1)))

-- a row whose number of fields came; -1 is the trailer
abbrev pub count_taken : ℕ → ByteEffect
count_taken n =
    if n == 65535 then effect.Within (phase.Binary binary.Trailer) else fields_left n

-- a value's length came, which is -1 for null, and so many values are left after it
abbrev pub length_taken : ℕ → ℕ → ByteEffect
length_taken n left =
    if (n == 0) || (n == 4294967295) then fields_left left
    else effect.Within (phase.Binary (binary.Value n left))

-- the extension's length came
abbrev pub extension_of : ℕ → ByteEffect
extension_of left =
    if left == 0 then effect.Within (phase.Binary (binary.Count 0 0))
    else effect.Within (phase.Binary (binary.Extension left))

-- A file is a header of 19 bytes, whose last four are its extension's length, the extension, rows and
-- a trailer. A row is its number of fields, and of each the length and the bytes.
abbrev pub binary_taken : Binary → ℕ → ByteEffect
binary_taken (binary.Header seen word) b =
    if nat_lt seen 18
    then effect.Within (phase.Binary (binary.Header (seen + 1) (with_byte word b)))
    else extension_of (with_byte word b)
binary_taken (binary.Extension left) b =
    if nat_lt 1 left then effect.Within (phase.Binary (binary.Extension (left - 1)))
    else effect.Within (phase.Binary (binary.Count 0 0))
binary_taken (binary.Count seen word) b =
    if nat_lt seen 1 then effect.Within (phase.Binary (binary.Count (seen + 1) (with_byte word b)))
    else count_taken (with_byte word b % 65536)
binary_taken (binary.Length seen word left) b =
    if nat_lt seen 3 then
    effect.Within (phase.Binary (binary.Length (seen + 1) (with_byte word b) left))
    else length_taken (with_byte word b) left
binary_taken (binary.Value left more) b =
    if nat_lt 1 left then effect.Within (phase.Binary (binary.Value (left - 1) more))
    else fields_left more
binary_taken binary.Trailer b = effect.Within (phase.Binary binary.Trailer)

-- ---- a tracker

-- before the first byte
abbrev pub beginning_of : TrackedKind → Phase
beginning_of kind.Back = phase.Wire (wire.Head 0 0)
beginning_of kind.Front = phase.Wire (wire.Length 0 0)
beginning_of kind.Text = phase.Text text.Plain
beginning_of kind.Binary = phase.Binary (binary.Header 0 0)

-- the tracker before the first byte: at part 1 in line 1
abbrev pub begun : TrackedKind → Tracker
begun k = record {
  place = record { number = 1; line = 1; offset = 0 };
  line = 1;
  read = 0;
  phase = beginning_of k;
}

-- what a byte does, by the part that it is of
abbrev pub taken : Phase → ℕ → ByteEffect
taken (phase.Wire w) b = wire_taken w b
taken (phase.Text t) b = text_taken t b
taken (phase.Binary n) b = binary_taken n b

-- the tracker after a byte that did this
abbrev pub turned : ByteEffect → Tracker → Tracker
turned (effect.Within p) t = record t { read = counted_up t.read; phase = p }
turned (effect.Line p) t = record t {
  line = counted_up t.line;
  read = counted_up t.read;
  phase = p;
}
turned (effect.Last p) t = record {
  place = next_place t.place (counted_up t.line) (counted_up t.read);
  line = counted_up t.line;
  read = counted_up t.read;
  phase = p;
}
turned (effect.First p) t = record {
  place = next_place t.place (counted_up t.line) t.read;
  line = counted_up t.line;
  read = counted_up t.read;
  phase = p;
}

-- the tracker after one more byte
abbrev pub after_byte : Tracker → ℕ → Tracker
after_byte t b = turned (taken t.phase b) t

-- the tracker after these bytes too
unfoldable pub after : Tracker → List ℕ → Tracker
after t [] = t
after t (b ∷ bytes) = after (after_byte t b) bytes

-- where the part of this number begins, if the tracker is at it before or after some of these bytes
unfoldable pub place_in : Tracker → List ℕ → ℕ → Option Place
place_in t [] n = if t.place.number == n then Some t.place else None
place_in t (b ∷ bytes) n =
    if t.place.number == n then Some t.place else place_in (after_byte t b) bytes n
