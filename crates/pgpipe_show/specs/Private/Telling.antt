-- How far the printing has come.
use Rattle.std.specs.Prelude.{ℕ, ◌≡◌, ◌≤◌, ◌+◌, ◌⊎◌, Bool, true, false, List, [], ◌∷◌, ◌++◌, length, Option, Some, None, Result, Ok, Err}
use Rattle.std.specs.List.{FoldsTo, concat}
use Rattle.pg_wire.specs.declared.link.LinkFault.{LinkFault}
use Rattle.pg_wire.specs.Link.{HasRisen}
use Rattle.pgpipe_base.specs.declared.stop.Stop.{Stop}
use Rattle.pgpipe_base.specs.declared.stop.Stop.TheVariants as stop
use Rattle.pgpipe_base.specs.Outbox.{Puts}
use Rattle.pgpipe_base.specs.Receiving.{most_receives}
use Rattle.pgpipe_frames.specs.declared.judge.FrameJudgement.TheVariants as judge
use Rattle.pgpipe_frames.specs.declared.next.NextFrame.{NextFrame}
use Rattle.pgpipe_frames.specs.declared.next.NextFrame.TheVariants as next
use Rattle.pgpipe_frames.specs.Frames.{judged, next_after}
use Rattle.pgpipe_frames.specs.Reader.{FramesState}
use Rattle.pgpipe_show.specs.declared.both.reader.Look.{Look}
use Rattle.pgpipe_show.specs.declared.both.reader.Look.TheVariants as look
use Rattle.pgpipe_show.specs.declared.both.turn.Due.{Due}
use Rattle.pgpipe_show.specs.declared.both.turn.Due.TheVariants as whose
use Rattle.pgpipe_show.specs.declared.both.turn.Ended.{Ended}
use Rattle.pgpipe_show.specs.declared.both.turn.Ended.TheVariants as ending
use Rattle.pgpipe_show.specs.declared.both.turn.BothEnds.{BothEnds}
use Rattle.pgpipe_show.specs.declared.both.turn.Stage.{Stage}
use Rattle.pgpipe_show.specs.declared.both.turn.Stage.TheVariants.{Opening, Requested, Talking}
use Rattle.pgpipe_show.specs.declared.both.turn.Turn.{Turn}
use Rattle.pgpipe_show.specs.Both.{EndsSource, most_entries}
use Rattle.pgpipe_show.specs.Entries.{Entry, Message, End, Reply, AreEntryLines, AreInTurn, HasEnded, IsAt, IsDue, IsEntryLine, said, spelling, turn_after}
use Rattle.pgpipe_show.specs.Turn.{due, first_turn}
use mathlib.Core.List.{IsPrefix}

-- ---- a line

-- A text is put; or the sink failed in its midst.
abbrev pub PutsText : {K : Type 0} → (K → List ℕ → K → Type 0) → (K → ℕ) → List ℕ → K → List ℕ
    → Result Unit (Stop BothEnds) → List ℕ → K → Type 0
PutsText takes failures collected sink text (Ok x) collected' sink' =
    Puts {A = Unit {0}} takes failures collected sink text (Ok tt) collected' sink'
PutsText takes failures collected sink text (Err stop.SinkFailed) collected' sink' =
    (fault : LinkFault)
    × Puts {A = Unit {0}} takes failures collected sink text (Err fault) collected' sink'
PutsText takes failures collected sink text (Err _) collected' sink' = ⊥

-- The line of an entry is put; or memory ran out, and then nothing was put; or the sink failed.
abbrev pub PutsEntry : {K : Type 0} → (K → List ℕ → K → Type 0) → (K → ℕ) → List ℕ → K → Entry
    → Result Unit (Stop BothEnds) → List ℕ → K → Type 0
PutsEntry takes failures collected sink x (Ok u) collected' sink' = (text : List ℕ)
    × IsEntryLine x text
    × Puts {A = Unit {0}} takes failures collected sink text (Ok tt) collected' sink'
PutsEntry takes failures collected sink x (Err stop.Memory) collected' sink' = (collected'
    ≡ collected) × (sink' ≡ sink)
PutsEntry takes failures collected sink x (Err stop.SinkFailed) collected' sink' =
    (text : List ℕ) × IsEntryLine x text × (fault : LinkFault)
    × Puts {A = Unit {0}} takes failures collected sink text (Err fault) collected' sink'
PutsEntry takes failures collected sink x (Err _) collected' sink' = ⊥

-- The line of an entry is put, and the turn goes on after it; or it couldn't be put.
abbrev pub TellsEntry : {K : Type 0} → (K → List ℕ → K → Type 0) → (K → ℕ) → Turn → List ℕ → K
    → Entry → Result Turn (Stop BothEnds) → List ℕ → K → Type 0
TellsEntry takes failures turn collected sink x (Ok turn') collected' sink' =
    (turn' ≡ turn_after turn x)
    × PutsEntry takes failures collected sink x (Ok tt) collected' sink'
TellsEntry takes failures turn collected sink x (Err w) collected' sink' =
    PutsEntry takes failures collected sink x (Err w) collected' sink'

-- ---- one stream

-- What a reader of frames finds in the bytes that it keeps: a frame, which it lends; or more bytes are
-- to come; or the stream ends there.
abbrev pub Looks : FramesState → Look → FramesState → Type 0
Looks old look.Frame new = (old.kept ≡ new.held ++ new.kept)
    × (judged old.next new.held ≡ judge.Whole (length new.held))
    × (new.next ≡ next_after old.next new.held)
Looks old look.Open new = (judged old.next old.kept ≡ judge.Open) × (old.next ≡ next.Nothing → ⊥)
    × (new.next ≡ old.next) × (new.kept ≡ old.kept)
Looks old (look.Over how) new = HasEnded old.next old.kept how × EndsSource ⊥ how
    × (new.next ≡ old.next) × (new.kept ≡ old.kept)

-- what is to be done where no frame is whole and this is next
abbrev pub look_on : NextFrame → Look
look_on next.Packet = look.Open
look_on next.Message = look.Open
look_on next.Nothing = look.Over ending.Canceled

-- What one call of `receive` leads to, which gave this piece: it is kept, or the source has ended, or it
-- failed, or memory ran out.
abbrev pub Received : Type 0 → ℕ → ℕ → FramesState → List ℕ → Result Bool (Stop BothEnds)
    → FramesState → Type 0
Received at_end count count' old piece (Ok true) new = (new.next ≡ old.next)
    × (new.kept ≡ old.kept ++ piece) × (count' ≡ count)
Received at_end count count' old piece (Ok false) new =
    at_end × (piece ≡ []) × (new.next ≡ old.next) × (new.kept ≡ old.kept) × (count' ≡ count)
Received at_end count count' old piece (Err stop.SourceFailed) new = HasRisen count count'
Received at_end count count' old piece (Err stop.Memory) new = count' ≡ count
Received at_end count count' old piece (Err _) new = ⊥

-- One byte was received, or the end was found, or the source failed.
abbrev pub ReceivedByte : Type 0 → ℕ → ℕ → List ℕ → Result (Option ℕ) (Stop BothEnds) → Type 0
ReceivedByte at_end count count' piece (Ok (Some byte)) = (piece ≡ byte ∷ []) × (count' ≡ count)
ReceivedByte at_end count count' piece (Ok None) = at_end × (piece ≡ []) × (count' ≡ count)
ReceivedByte at_end count count' piece (Err stop.SourceFailed) = HasRisen count count'
ReceivedByte at_end count count' piece (Err _) = ⊥

-- Pieces came until a frame was whole, which is lent, or the stream ended so; or the source failed or
-- gave too many pieces, or memory ran out.
abbrev pub Fetched : Type 0 → ℕ → ℕ → ℕ → FramesState → List ℕ → Result (Option Ended)
    (Stop BothEnds) → FramesState → Type 0
Fetched at_end count count' pieces old came (Ok None) new =
    (old.kept ++ came ≡ new.held ++ new.kept)
    × (judged old.next new.held ≡ judge.Whole (length new.held))
    × (new.next ≡ next_after old.next new.held) × (count' ≡ count)
Fetched at_end count count' pieces old came (Ok (Some how)) new = (old.kept ++ came ≡ new.kept)
    × (new.next ≡ old.next) × HasEnded old.next new.kept how × EndsSource at_end how
    × (count' ≡ count)
Fetched at_end count count' pieces old came (Err stop.SourceFailed) new = HasRisen count count'
Fetched at_end count count' pieces old came (Err stop.Endless) new = most_receives ≤ pieces
Fetched at_end count count' pieces old came (Err stop.Memory) new = count' ≡ count
Fetched at_end count count' pieces old came (Err _) new = ⊥

abbrev pub Fetches : {S : Type 0} → (S → List ℕ → S → Type 0) → (S → ℕ) → (S → Type 0) → FramesState
    → S → Result (Option Ended) (Stop BothEnds) → FramesState → S → Type 0
Fetches gives failures has_ended old source result new source' = (pieces : List (List ℕ))
    × FoldsTo gives source pieces source'
    × Fetched (has_ended source') (failures source) (failures source') (length pieces) old
    (concat pieces) result new

-- ---- an entry more

-- the bytes that are kept after an entry: after the end of a stream all of them are its rest
abbrev pub left_after : Entry → List ℕ → List ℕ
left_after (Message front f) kept = kept
left_after (End front how rest) kept = []
left_after (Reply byte) kept = kept

-- what is next in the stream that an entry is of
abbrev pub kind_after : NextFrame → Entry → NextFrame
kind_after kind (Message front f) = next_after kind f.bytes
kind_after kind (End front how rest) = kind
kind_after kind (Reply byte) = kind

-- the source has ended, where the entry is such an end
abbrev pub IsEnding : Type 0 → Entry → Type 0
IsEnding at_end (Message front f) = Unit {0}
IsEnding at_end (End front how rest) = EndsSource at_end how
IsEnding at_end (Reply byte) = Unit {0}

-- after the answer to a request for encryption no byte is kept
abbrev pub IsAlone : Entry → List ℕ → Type 0
IsAlone (Message front f) kept = Unit {0}
IsAlone (End front how rest) kept = Unit {0}
IsAlone (Reply byte) kept = kept ≡ []

-- This entry was put, with which these bytes of a stream begin.
pub record IsTold {K : Type 0} (takes : K → List ℕ → K → Type 0) (failures : K → ℕ) (d : Due)
    (turn : Turn) (kind : NextFrame) (bytes collected : List ℕ) (sink : K) (turn' : Turn)
    (kind' : NextFrame) (kept' collected' : List ℕ) (sink' : K) (x : Entry) : Type 0 where
  pub is_due : IsDue d x
  pub is_at : IsAt kind x
  pub turn_is : turn' ≡ turn_after turn x
  pub spelled : bytes ≡ spelling x ++ left_after x kept'
  pub alone : IsAlone x kept'
  pub kind_is : kind' ≡ kind_after kind x
  pub text : List ℕ
  pub line : IsEntryLine x text
  pub put : Puts {A = Unit {0}} takes failures collected sink text (Ok tt) collected' sink'

-- The sink failed in the midst of the line of an entry, with which these bytes of a stream begin.
pub record BreaksAt {K : Type 0} (takes : K → List ℕ → K → Type 0) (failures : K → ℕ) (d : Due)
    (kind : NextFrame) (bytes collected : List ℕ) (sink : K) (collected' : List ℕ)
    (sink' : K) : Type 0 where
  pub entry : Entry
  pub is_due : IsDue d entry
  pub is_at : IsAt kind entry
  pub begins : IsPrefix (spelling entry) bytes
  pub text : List ℕ
  pub line : IsEntryLine entry text
  pub fault : LinkFault
  pub put : Puts {A = Unit {0}} takes failures collected sink text (Err fault) collected' sink'

-- What became of these bytes of a stream, where this is due.
abbrev pub Told : {K : Type 0} → Type 0 → ℕ → ℕ → ℕ → (K → List ℕ → K → Type 0) → (K → ℕ) → Due
    → Turn → NextFrame → List ℕ → List ℕ → K → Result Turn (Stop BothEnds) → NextFrame → List ℕ
    → List ℕ → K → Type 0
Told at_end count count' pieces takes failures d turn kind bytes collected sink (Ok turn') kind'
    kept' collected' sink' =
    (x : Entry) × IsTold takes failures d turn kind bytes collected sink turn' kind' kept'
    collected' sink' x × IsEnding at_end x × (count' ≡ count)
Told at_end count count' pieces takes failures d turn kind bytes collected sink (Err stop.Memory)
    kind' kept' collected' sink' =
    (count' ≡ count) × (collected' ≡ collected) × (sink' ≡ sink)
Told at_end count count' pieces takes failures d turn kind bytes collected sink
    (Err stop.SourceFailed) kind' kept' collected' sink' =
    HasRisen count count' × (collected' ≡ collected) × (sink' ≡ sink)
Told at_end count count' pieces takes failures d turn kind bytes collected sink (Err stop.Endless)
    kind' kept' collected' sink' =
    (most_receives ≤ pieces) × (collected' ≡ collected) × (sink' ≡ sink)
Told at_end count count' pieces takes failures d turn kind bytes collected sink
    (Err stop.SinkFailed) kind' kept' collected' sink' =
    BreaksAt takes failures d kind bytes collected sink collected' sink'
Told at_end count count' pieces takes failures d turn kind bytes collected sink
    (Err (stop.Answer ends)) kind' kept' collected' sink' =
    ⊥

-- An entry more is put, of a stream of which these bytes are kept, with the pieces that came for it.
abbrev pub Tells : {S K : Type 0} → (S → List ℕ → S → Type 0) → (S → ℕ) → (S → Type 0)
    → (K → List ℕ → K → Type 0) → (K → ℕ) → Due → Turn → NextFrame → List ℕ → S → List ℕ → K
    → Result Turn (Stop BothEnds) → NextFrame → List ℕ → S → List ℕ → K → Type 0
Tells gives failures has_ended takes sink_failures d turn kind kept source collected sink result
    kind' kept' source' collected' sink' =
    (pieces : List (List ℕ)) × FoldsTo gives source pieces source'
    × Told (has_ended source') (failures source) (failures source') (length pieces) takes
    sink_failures d turn kind (kept ++ concat pieces) collected sink result kind' kept' collected'
    sink'

-- ---- both streams

-- the bytes that are kept of a stream and belong to no entry: none after its end
abbrev pub unread : Option Ended → List ℕ → List ℕ
unread None kept = kept
unread (Some ending.Whole) kept = []
unread (Some (ending.Rest size)) kept = []
unread (Some (ending.Fault f)) kept = []
unread (Some ending.Canceled) kept = []
unread (Some ending.Encrypted) kept = kept

-- before the server has sent a message no byte of it is kept
abbrev pub IsUntouched : Stage → List ℕ → Type 0
IsUntouched Opening kept = kept ≡ []
IsUntouched (Requested request) kept = kept ≡ []
IsUntouched (Talking talk) kept = Unit {0}

-- the source has ended where the stream has
abbrev pub IsSourceAtEnd : Type 0 → Option Ended → Type 0
IsSourceAtEnd at_end None = Unit {0}
IsSourceAtEnd at_end (Some how) = EndsSource at_end how

-- Pieces of a stream came, and these bytes of them belong to entries.
pub record HasCome {S : Type 0} (gives : S → List ℕ → S → Type 0) (start : S) (entry_bytes : List ℕ)
    (source : S) : Type 0 where
  pub pieces : List (List ℕ)
  pub received : FoldsTo gives start pieces source
  pub begins : IsPrefix entry_bytes (concat pieces)

-- And all others are kept, and the source didn't fail.
pub record HasRead {S : Type 0} (gives : S → List ℕ → S → Type 0) (failures : S → ℕ) (start : S)
    (entry_bytes : List ℕ) (how : Option Ended) (kept : List ℕ) (source : S) : Type 0 where
  pub pieces : List (List ℕ)
  pub received : FoldsTo gives start pieces source
  pub sound : failures source ≡ failures start
  pub bytes : concat pieces ≡ entry_bytes ++ unread how kept

-- So many entries were put from the beginning of a connection on, and the work can go on.
pub record Stands {F B K : Type 0} (front_gives : F → List ℕ → F → Type 0) (front_failures : F → ℕ)
    (front_ended : F → Type 0) (back_gives : B → List ℕ → B → Type 0) (back_failures : B → ℕ)
    (back_ended : B → Type 0) (takes : K → List ℕ → K → Type 0) (failures : K → ℕ) (front0 : F)
    (back0 : B) (sink0 : K) (count : ℕ) (turn : Turn) (front_next : NextFrame) (front_kept : List ℕ)
    (front : F) (back_next : NextFrame) (back_kept : List ℕ) (back : B) (collected : List ℕ)
    (sink : K) : Type 0 where
  pub entries : List Entry
  pub counted : length entries ≡ count
  pub in_turn : AreInTurn first_turn next.Packet entries turn front_next
  pub front_read : HasRead front_gives front_failures front0 (said true entries) turn.front
      front_kept front
  pub back_read : HasRead back_gives back_failures back0 (said false entries) turn.back
      back_kept back
  pub front_end : IsSourceAtEnd (front_ended front) turn.front
  pub back_end : IsSourceAtEnd (back_ended back) turn.back
  pub back_is : back_next ≡ next.Message
  pub untouched : IsUntouched turn.stage back_kept
  pub text : List ℕ
  pub lines : AreEntryLines entries text
  pub put : Puts {A = Unit {0}} takes failures [] sink0 text (Ok tt) collected sink

-- Entries were put from the beginning of a connection on, the last maybe in part.
pub record Halted {F B K : Type 0} (front_gives : F → List ℕ → F → Type 0)
    (back_gives : B → List ℕ → B → Type 0) (takes : K → List ℕ → K → Type 0) (failures : K → ℕ)
    (front0 : F) (back0 : B) (sink0 : K) (result : Result Unit LinkFault) (front : F) (back : B)
    (collected : List ℕ) (sink : K) : Type 0 where
  pub entries : List Entry
  pub turn : Turn
  pub last : NextFrame
  pub in_turn : AreInTurn first_turn next.Packet entries turn last
  pub front_came : HasCome front_gives front0 (said true entries) front
  pub back_came : HasCome back_gives back0 (said false entries) back
  pub text : List ℕ
  pub lines : AreEntryLines entries text
  pub put : Puts {A = Unit {0}} takes failures [] sink0 text result collected sink

-- What stands where the work stops.
abbrev pub Stops : {F B K : Type 0} → (F → List ℕ → F → Type 0) → (F → ℕ) → (F → Type 0)
    → (B → List ℕ → B → Type 0) → (B → ℕ) → (B → Type 0) → (K → List ℕ → K → Type 0) → (K → ℕ) → F
    → B → K → Stop BothEnds → F → B → List ℕ → K → Type 0
Stops front_gives front_failures front_ended back_gives back_failures back_ended takes failures
    front0 back0 sink0 (stop.Answer ends) front back collected sink =
    (count : ℕ) × (turn : Turn) × (front_next : NextFrame) × (front_kept : List ℕ)
    × (back_next : NextFrame) × (back_kept : List ℕ)
    × Stands front_gives front_failures front_ended back_gives back_failures back_ended takes
    failures front0 back0 sink0 count turn front_next front_kept front back_next back_kept back
    collected sink
    × (due turn ≡ whose.Nobody ends)
Stops front_gives front_failures front_ended back_gives back_failures back_ended takes failures
    front0 back0 sink0 stop.Memory front back collected sink =
    Halted front_gives back_gives takes failures front0 back0 sink0 (Ok tt) front back collected
    sink
    × (front_failures front ≡ front_failures front0) × (back_failures back ≡ back_failures back0)
Stops front_gives front_failures front_ended back_gives back_failures back_ended takes failures
    front0 back0 sink0 stop.SourceFailed front back collected sink =
    Halted front_gives back_gives takes failures front0 back0 sink0 (Ok tt) front back collected
    sink
    × (HasRisen (front_failures front0) (front_failures front)
    ⊎ HasRisen (back_failures back0) (back_failures back))
Stops front_gives front_failures front_ended back_gives back_failures back_ended takes failures
    front0 back0 sink0 stop.Endless front back collected sink =
    (halted : Halted front_gives back_gives takes failures front0 back0 sink0 (Ok tt) front back
    collected sink)
    × ((most_receives ≤ length halted.front_came.pieces) ⊎ ((most_receives
    ≤ length halted.back_came.pieces) ⊎ (most_entries ≤ length halted.entries)))
Stops front_gives front_failures front_ended back_gives back_failures back_ended takes failures
    front0 back0 sink0 stop.SinkFailed front back collected sink =
    (fault : LinkFault)
    × Halted front_gives back_gives takes failures front0 back0 sink0 (Err fault) front back
    collected sink

-- Where a step of the work leads, after so many entries.
abbrev pub StepTells : {F B K : Type 0} → (F → List ℕ → F → Type 0) → (F → ℕ) → (F → Type 0)
    → (B → List ℕ → B → Type 0) → (B → ℕ) → (B → Type 0) → (K → List ℕ → K → Type 0) → (K → ℕ) → F
    → B → K → ℕ → Result Turn (Stop BothEnds) → NextFrame → List ℕ → F → NextFrame → List ℕ → B
    → List ℕ → K → Type 0
StepTells front_gives front_failures front_ended back_gives back_failures back_ended takes failures
    front0 back0 sink0 count (Ok turn) front_next front_kept front back_next back_kept back
    collected sink =
    Stands front_gives front_failures front_ended back_gives back_failures back_ended takes failures
    front0 back0 sink0 (count + 1) turn front_next front_kept front back_next back_kept back
    collected sink
StepTells front_gives front_failures front_ended back_gives back_failures back_ended takes failures
    front0 back0 sink0 count (Err w) front_next front_kept front back_next back_kept back
    collected sink =
    Stops front_gives front_failures front_ended back_gives back_failures back_ended takes failures
    front0 back0 sink0 w front back collected sink
