-- The lines of two streams in their order: what each is, how it is printed, and which comes next.
use Rattle.std.specs.Prelude.{ℕ, zero, suc, ◌≡◌, ◌==◌, Bool, true, false, List, [], ◌∷◌, ◌++◌, length, codes, if◌then◌else◌}
use Rattle.std.specs.List.{flat_map}
use Rattle.pgpipe_frames.specs.FrameText.{IsTextOf}
use Rattle.pgpipe_frames.specs.declared.judge.FrameJudgement.{FrameJudgement}
use Rattle.pgpipe_frames.specs.declared.judge.FrameJudgement.TheVariants as judge
use Rattle.pgpipe_frames.specs.declared.next.NextFrame.{NextFrame}
use Rattle.pgpipe_frames.specs.declared.next.NextFrame.TheVariants as next
use Rattle.pgpipe_frames.specs.Frames.{Frame, judged, next_after}
use Rattle.pgpipe_show.specs.declared.both.turn.Due.{Due}
use Rattle.pgpipe_show.specs.declared.both.turn.Due.TheVariants as whose
use Rattle.pgpipe_show.specs.declared.both.turn.Encryption.{Encryption}
use Rattle.pgpipe_show.specs.declared.both.turn.Ended.{Ended}
use Rattle.pgpipe_show.specs.declared.both.turn.Ended.TheVariants as ended
use Rattle.pgpipe_show.specs.declared.both.turn.Turn.{Turn}
use Rattle.pgpipe_show.specs.Turn.{after_reply, due, ended_by, is_reply, moved}

-- ---- an entry

-- A frame of the client (true) or of the server; the end of one of their streams, after which these
-- bytes are left; or the byte by which the server answers a request for encryption.
pub data Entry : Type 0 where
  Message : (front : Bool) (frame : Frame) → Entry
  End : (front : Bool) (how : Ended) (rest : List ℕ) → Entry
  Reply : (byte : ℕ) → Entry

-- whose it is
abbrev pub side_of : Entry → Bool
side_of (Message front frame) = front
side_of (End front how rest) = front
side_of (Reply byte) = false

-- the bytes that it stands for
abbrev pub spelling : Entry → List ℕ
spelling (Message front frame) = frame.bytes
spelling (End front how rest) = rest
spelling (Reply byte) = byte ∷ []

-- these bytes where the side is this one, and else none
abbrev pub bytes_at : Bool → Bool → List ℕ → List ℕ
bytes_at true true bytes = bytes
bytes_at true false bytes = []
bytes_at false true bytes = []
bytes_at false false bytes = bytes

-- the bytes of one side, the client (true) or the server, in an entry
abbrev pub bytes_of : Bool → Entry → List ℕ
bytes_of side x = bytes_at side (side_of x) (spelling x)

-- the bytes of one side in these entries
abbrev pub said : Bool → List Entry → List ℕ
said side entries = flat_map (bytes_of side) entries

-- ---- how an entry is printed

-- the arrow before a line: from the client or from the server
abbrev pub arrow : Bool → List ℕ
arrow true = codes "-> "
arrow false = codes "<- "

-- the line of a frame
abbrev pub IsFrameLine : Bool → Frame → List ℕ → Type 0
IsFrameLine front f text = (words : List ℕ) × IsTextOf front f.kind f.bytes words
    × (text ≡ arrow front ++ words ++ codes "\n")

-- the line of an answer to a request for encryption
abbrev pub reply_line : ℕ → List ℕ
reply_line byte =
    if byte == 78 then codes "<- N (no encryption)\n"
    else if byte == 83 then codes "<- S (what follows is encrypted, and can't be read)\n"
    else codes "<- G (what follows is encrypted, and can't be read)\n"

-- the line of an entry; of an end there is none
abbrev pub IsEntryLine : Entry → List ℕ → Type 0
IsEntryLine (Message front frame) text = IsFrameLine front frame text
IsEntryLine (End front how rest) text = text ≡ []
IsEntryLine (Reply byte) text = text ≡ reply_line byte

-- The text is the lines of these entries, in order.
abbrev pub AreEntryLines : List Entry → List ℕ → Type 0
AreEntryLines [] text = text ≡ []
AreEntryLines (x ∷ entries) text = (first more : List ℕ) × IsEntryLine x first
    × AreEntryLines entries more × (text ≡ first ++ more)

-- ---- which frame is next

-- What is next in the stream of the client (true), where that is `n`, or of the server.
abbrev pub kind_at : Bool → NextFrame → NextFrame
kind_at true n = n
kind_at false n = next.Message

-- how a stream ends, by what stands at the beginning of so many bytes that are left
abbrev pub end_by : FrameJudgement → ℕ → Ended
end_by (judge.Faulty fault) size = ended.Fault fault
end_by _ zero = ended.Whole
end_by _ (suc size) = ended.Rest (suc size)

-- how a stream ends in which this is next, and of which these bytes are left
abbrev pub end_at : NextFrame → List ℕ → Ended
end_at next.Packet rest = end_by (judged next.Packet rest) (length rest)
end_at next.Message rest = end_by (judged next.Message rest) (length rest)
end_at next.Nothing rest = ended.Canceled

-- The stream ends so: no frame stands at the beginning of the bytes that are left.
abbrev pub HasEnded : NextFrame → List ℕ → Ended → Type 0
HasEnded n rest how = (how ≡ end_at n rest) × ((size : ℕ) → judged n rest ≡ judge.Whole size → ⊥)

-- The entry is a whole frame of this kind, or the end of a stream in which such a frame is next.
abbrev pub IsAt : NextFrame → Entry → Type 0
IsAt kind (Message front f) = (f.kind ≡ kind) × (judged kind f.bytes ≡ judge.Whole (length f.bytes))
IsAt kind (End front how rest) = HasEnded kind rest how
IsAt kind (Reply byte) = Unit {0}

-- what is next in the client's stream after a frame of the client (true) or of the server
abbrev pub next_by : Bool → NextFrame → List ℕ → NextFrame
next_by true n bytes = next_after n bytes
next_by false n bytes = n

-- what is next in the client's stream after an entry
abbrev pub next_for : NextFrame → Entry → NextFrame
next_for n (Message front f) = next_by front n f.bytes
next_for n (End front how rest) = n
next_for n (Reply byte) = n

-- ---- whose turn it is

-- whether these bytes begin with an answer to a request for encryption
abbrev pub begins_reply : Encryption → List ℕ → Bool
begins_reply request [] = false
begins_reply request (byte ∷ bytes) = is_reply request byte

-- The entry is due: of the side that has the turn; or the answer to a request for encryption, or in its
-- place what doesn't begin with one.
abbrev pub IsDue : Due → Entry → Type 0
IsDue (whose.Side side) (Message front f) = front ≡ side
IsDue (whose.Side side) (End front how rest) = front ≡ side
IsDue (whose.Side side) (Reply byte) = ⊥
IsDue (whose.Reply request) (Message front f) = (front ≡ false)
    × (begins_reply request f.bytes ≡ false)
IsDue (whose.Reply request) (End front how rest) = (front ≡ false)
    × (begins_reply request rest ≡ false)
IsDue (whose.Reply request) (Reply byte) = is_reply request byte ≡ true
IsDue (whose.Nobody ends) x = ⊥

-- who has the turn after an entry
abbrev pub turn_after : Turn → Entry → Turn
turn_after turn (Message front f) = moved turn front f
turn_after turn (End front how rest) = ended_by turn front how
turn_after turn (Reply byte) = after_reply (byte == 78) turn

-- These entries stand one after the other, each when it is due, where this has the turn and this is
-- next in the client's stream; and after them that has the turn, and that is next there.
abbrev pub AreInTurn : Turn → NextFrame → List Entry → Turn → NextFrame → Type 0
AreInTurn turn n [] turn' n' = (turn ≡ turn') × (n ≡ n')
AreInTurn turn n (x ∷ entries) turn' n' = IsDue (due turn) x × IsAt (kind_at (side_of x) n) x
    × AreInTurn (turn_after turn x) (next_for n x) entries turn' n'
