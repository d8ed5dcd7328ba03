-- The frames of a stream, by their length fields alone (Frontend/Backend Protocol, "Overview",
-- "Message Formats", "Start-up"): the tag, the length field and the body of a message, or a first
-- packet, which has no tag.
use Rattle.std.specs.Prelude.{ℕ, ◌≡◌, ◌+◌, ◌/◌, ◌==◌, ◌||◌, nat_lt, if◌then◌else◌, List, [], ◌∷◌, ◌++◌, length, take, drop, Option, Some, None}
use Rattle.std.specs.Int.{w32, from_be_bytes, cast_signed}
use Rattle.std.specs.List.{flat_map}
use Rattle.pg_wire.specs.Direction.{longest}
use Rattle.pg_wire.specs.First.{longest_packet}
use Rattle.pg_wire.specs.declared.fault.WireFault.TheVariants as wire
use Rattle.pgpipe_frames.specs.declared.next.NextFrame.{NextFrame}
use Rattle.pgpipe_frames.specs.declared.next.NextFrame.TheVariants as next
use Rattle.pgpipe_frames.specs.declared.judge.FrameJudgement.{FrameJudgement}
use Rattle.pgpipe_frames.specs.declared.judge.FrameJudgement.TheVariants.{Open, Whole, Faulty}

-- ---- one frame

-- the four bytes of a length field, if they are there; so many bytes stand before it
abbrev pub field_at : ℕ → List ℕ → Option (List ℕ)
field_at tag rest = if nat_lt (length rest) (tag + 4) then None else Some (take 4 (drop tag rest))

-- What a length field means for a rest of `size` bytes. The field may be from `least` to `most`,
-- and counts all but the tag. It is faulty, or not all that it counts is there, or a frame of so
-- many bytes is. It is an Int32: from 2^31 on it is negative.
abbrev pub judged_by : ℕ → ℕ → ℕ → ℕ → List ℕ → FrameJudgement
judged_by tag least most size field =
    if nat_lt (from_be_bytes w32 field) least || nat_lt 2147483647 (from_be_bytes w32 field)
    then Faulty (wire.ShortLength (cast_signed w32 (from_be_bytes w32 field)))
    else if nat_lt most (from_be_bytes w32 field)
    then Faulty (wire.LongLength (cast_signed w32 (from_be_bytes w32 field)))
    else if nat_lt size (tag + from_be_bytes w32 field) then Open
    else Whole (tag + from_be_bytes w32 field)

-- what a length field that may not be there yet means for a rest
abbrev pub judged_field : ℕ → ℕ → ℕ → ℕ → Option (List ℕ) → FrameJudgement
judged_field tag least most size None = Open
judged_field tag least most size (Some field) = judged_by tag least most size field

-- What stands at the beginning of a rest, by what is next there. The length field of a first packet
-- is from 8 to 10,000, and that of a message, which stands after the tag, from 4 to 1,073,741,823.
abbrev pub judged : NextFrame → List ℕ → FrameJudgement
judged next.Packet rest = judged_field 0 8 longest_packet (length rest) (field_at 0 rest)
judged next.Message rest = judged_field 1 4 longest (length rest) (field_at 1 rest)
judged next.Nothing rest = Open

-- the fewest bytes of a frame
abbrev pub fewest : NextFrame → ℕ
fewest next.Packet = 8
fewest next.Message = 5
fewest next.Nothing = 5

-- the code of a first packet
abbrev pub code : List ℕ → ℕ
code packet = from_be_bytes w32 (take 4 (drop 4 packet))

-- What stands after a first packet of this code: nothing that is read after a request to cancel;
-- another first packet after another request, whose code has 1234 as its upper half; and messages
-- after any other, as after a startup of any version.
abbrev pub after_code : ℕ → NextFrame
after_code c = if c == 80877102 then next.Nothing
    else if c / 65536 == 1234 then next.Packet else next.Message

-- what stands after these bytes, which are a frame
abbrev pub next_after : NextFrame → List ℕ → NextFrame
next_after next.Packet bytes = after_code (code bytes)
next_after next.Message bytes = next.Message
next_after next.Nothing bytes = next.Nothing

-- ---- the frames of a stream

-- a frame: what it is, a first packet or a message, and its bytes
pub record Frame : Type 0 where
  pub kind : NextFrame
  pub bytes : List ℕ

-- These frames stand one after the other, the first where `first` is next and each other where the
-- one before says; and after them `last` is next.
abbrev pub AreFrames : NextFrame → List Frame → NextFrame → Type 0
AreFrames first [] last = first ≡ last
AreFrames first (f ∷ frames) last =
    (f.kind ≡ first) × (judged first f.bytes ≡ Whole (length f.bytes))
    × AreFrames (next_after first f.bytes) frames last

-- The bytes are these frames and a rest, at which `last` is next.
pub record AreFramed (first : NextFrame) (bytes : List ℕ) (frames : List Frame) (last : NextFrame)
    (rest : List ℕ) : Type 0 where
  pub whole : bytes ≡ flat_map (λ f. f.bytes) frames ++ rest
  pub each : AreFrames first frames last
