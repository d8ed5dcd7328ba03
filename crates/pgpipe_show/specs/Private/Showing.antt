-- How far the work has come.
use Rattle.std.specs.Prelude.{ℕ, ◌≡◌, ◌<◌, ◌≤◌, Bool, true, false, List, [], length, None, Result, Ok, Err}
use Rattle.std.specs.List.{FoldsTo, concat}
use Rattle.pg_wire.specs.declared.link.LinkFault.{LinkFault}
use Rattle.pg_wire.specs.message.First.{First}
use Rattle.pg_wire.specs.Backend.{backend}
use Rattle.pg_wire.specs.Decoder.{DecoderState}
use Rattle.pg_wire.specs.Spellings.{SpellingsState}
use Rattle.pg_wire.specs.Direction.{Direction}
use Rattle.pg_wire.specs.First.{IsBeginning, IsOpenPacket, IsFaultyPacket}
use Rattle.pg_wire.specs.FirstDecoder.{FirstState}
use Rattle.pg_wire.specs.Frontend.{frontend}
use Rattle.pg_wire.specs.Link.{HasRisen}
use Rattle.pg_wire.specs.Stream.{IsStream, IsOpen, IsFaulty}
use Rattle.pgpipe_frames.specs.declared.next.NextFrame.{NextFrame}
use Rattle.pgpipe_frames.specs.declared.next.NextFrame.TheVariants as next
use Rattle.pgpipe_show.specs.declared.show.Shown.{Shown}
use Rattle.pgpipe_show.specs.declared.show.Shown.TheVariants as shown
use Rattle.pgpipe_show.specs.Packets.{packet_lines, next_after, have_ended}
use Rattle.pgpipe_base.specs.declared.stop.Stop.{Stop}
use Rattle.pgpipe_base.specs.declared.stop.Stop.TheVariants as stop
use Rattle.pgpipe_show.specs.declared.decoding.Decoding.{Decoding}
use Rattle.pgpipe_show.specs.declared.decoding.Decoding.TheVariants as decoding
use Rattle.pgpipe_frames.specs.declared.judge.FrameJudgement.TheVariants as judge
use Rattle.pgpipe_frames.specs.Frames.{Frame, judged, AreFramed}
use Rattle.pgpipe_frames.specs.FrameText.{IsTextOf}
use Rattle.pgpipe_frames.specs.Json.Frame.{IsJsonText}
use Rattle.pgpipe_frames.specs.Reader.{FramesState}
use Rattle.pgpipe_show.specs.declared.form.Form.TheVariants as forms
use Rattle.pgpipe_show.specs.declared.form.Line.{Line}
use Rattle.pgpipe_show.specs.declared.form.Line.TheVariants as line_kind
use Rattle.pgpipe_show.specs.FrameLines.{AreLines, AreFramesShown}
use Rattle.pgpipe_show.specs.Messages.{lines}
use Rattle.pgpipe_show.specs.Way.{Way, messages_of}
use Rattle.pgpipe_base.specs.Outbox.{most_collected, Puts, StaysWithin}
use mathlib.Core.List.{IsPrefix}
use Rattle.pgpipe_show.specs.Show.{length_limit, AreMessages, IsClientSide, AreShown, IsOpenFor, IsFaultyFor, AreAllShown, AreShownBefore}
use Rattle.pgpipe_base.specs.Receiving.{most_receives, IsSentAtOnce}
pub use Rattle.pgpipe_show.specs.Private.Stopping.{end_stop, fault_stop}

-- A line is put, and no more is collected than there is room for; or memory ran out, and then
-- nothing was put; or the sink failed.
abbrev pub PutsLine : {K : Type 0} → (K → List ℕ → K → Type 0) → (K → ℕ) → List ℕ → K → List ℕ
    → Result Unit (Stop Shown) → List ℕ → K → Type 0
PutsLine takes failures collected sink text (Ok x) collected' sink' =
    Puts {A = Unit {0}} takes failures collected sink text (Ok tt) collected' sink'
    × (length collected' ≤ most_collected)
PutsLine takes failures collected sink text (Err stop.Memory) collected' sink' = (collected'
    ≡ collected) × (sink' ≡ sink)
PutsLine takes failures collected sink text (Err stop.SinkFailed) collected' sink' =
    (fault : LinkFault)
    × Puts {A = Unit {0}} takes failures collected sink text (Err fault) collected' sink'
PutsLine takes failures collected sink text (Err _) collected' sink' = ⊥

-- ---- the messages that a decoder keeps

-- The decoder found no fault, and takes what may be taken.
pub record IsSound (decoder : DecoderState) : Type 0 where
  pub limited : decoder.limit ≡ length_limit
  pub no_fault : decoder.fault ≡ None

-- Of these bytes the messages are put, but for those that begin the rest.
pub record HasPut {K M : Type 0} (takes : K → List ℕ → K → Type 0) (failures : K → ℕ)
    (d : Direction M) (collected : List ℕ) (sink : K) (bytes rest collected' : List ℕ)
    (sink' : K) : Type 0 where
  pub messages : List M
  pub stream : IsStream d length_limit bytes messages rest
  pub put : Puts {A = Unit {0}} takes failures collected sink (lines d messages) (Ok tt) collected'
      sink'
  pub within : StaysWithin collected collected'

-- The sink failed in the midst of the messages' lines.
pub record Breaks {K M : Type 0} (takes : K → List ℕ → K → Type 0) (failures : K → ℕ)
    (d : Direction M) (collected : List ℕ) (sink : K) (bytes collected' : List ℕ)
    (sink' : K) : Type 0 where
  pub fault : LinkFault
  pub messages : List M
  pub rest : List ℕ
  pub stream : IsStream d length_limit bytes messages rest
  pub put : Puts {A = Unit {0}} takes failures collected sink (lines d messages) (Err fault)
      collected' sink'

-- The messages in these bytes are put, as far as may be.
abbrev pub PutsMessages : {K M : Type 0} → (K → List ℕ → K → Type 0) → (K → ℕ) → Direction M
    → List ℕ → K → List ℕ → Result SpellingsState (Stop Shown) → List ℕ → K → Type 0
PutsMessages takes failures d collected sink bytes (Ok new) collected' sink' =
    IsSound new.stream
    × HasPut takes failures d collected sink bytes new.stream.kept collected' sink'
    × IsOpen d length_limit new.stream.kept
PutsMessages takes failures d collected sink bytes (Err (stop.Answer (shown.Fault f))) collected'
    sink' =
    (rest : List ℕ) × HasPut takes failures d collected sink bytes rest collected' sink'
    × IsFaulty d length_limit rest f
PutsMessages takes failures d collected sink bytes (Err stop.Memory) collected' sink' =
    (rest : List ℕ) × HasPut takes failures d collected sink bytes rest collected' sink'
PutsMessages takes failures d collected sink bytes (Err stop.SinkFailed) collected' sink' =
    Breaks takes failures d collected sink bytes collected' sink'
PutsMessages takes failures d collected sink bytes (Err _) collected' sink' = ⊥

-- ---- the packets that a decoder keeps

-- Of these bytes the packets are put, but for those that begin the rest.
pub record HasPutPackets {K : Type 0} (takes : K → List ℕ → K → Type 0) (failures : K → ℕ)
    (collected : List ℕ) (sink : K) (bytes : List ℕ) (n : NextFrame) (rest collected' : List ℕ)
    (sink' : K) : Type 0 where
  pub packets : List First
  pub beginning : IsBeginning bytes packets (have_ended n) rest
  pub next_is : next_after packets ≡ n
  pub put : Puts {A = Unit {0}} takes failures collected sink (packet_lines packets) (Ok tt)
      collected' sink'
  pub within : StaysWithin collected collected'

-- The sink failed in the midst of the packets' lines.
pub record BreaksPackets {K : Type 0} (takes : K → List ℕ → K → Type 0) (failures : K → ℕ)
    (collected : List ℕ) (sink : K) (bytes collected' : List ℕ) (sink' : K) : Type 0 where
  pub fault : LinkFault
  pub packets : List First
  pub rest : List ℕ
  pub beginning : IsBeginning bytes packets (have_ended (next_after packets)) rest
  pub put : Puts {A = Unit {0}} takes failures collected sink (packet_lines packets) (Err fault)
      collected' sink'

-- The packets in these bytes are put, as far as may be.
abbrev pub PutsPackets : {K : Type 0} → (K → List ℕ → K → Type 0) → (K → ℕ) → List ℕ → K → List ℕ
    → Result NextFrame (Stop Shown) → FirstState → List ℕ → K → Type 0
PutsPackets takes failures collected sink bytes (Ok next.Packet) new collected' sink' = (new.ended
    ≡ false) × (new.fault ≡ None)
    × HasPutPackets takes failures collected sink bytes next.Packet new.kept collected' sink'
    × IsOpenPacket new.kept
PutsPackets takes failures collected sink bytes (Ok n) new collected' sink' = (new.fault ≡ None)
    × HasPutPackets takes failures collected sink bytes n new.kept collected' sink'
PutsPackets takes failures collected sink bytes (Err (stop.Answer (shown.Fault f))) new collected'
    sink' =
    (rest : List ℕ)
    × HasPutPackets takes failures collected sink bytes next.Packet rest collected' sink'
    × IsFaultyPacket rest f
PutsPackets takes failures collected sink bytes (Err stop.Memory) new collected' sink' =
    (rest : List ℕ)
    × HasPutPackets takes failures collected sink bytes next.Packet rest collected' sink'
PutsPackets takes failures collected sink bytes (Err stop.SinkFailed) new collected' sink' =
    BreaksPackets takes failures collected sink bytes collected' sink'
PutsPackets takes failures collected sink bytes (Err _) new collected' sink' = ⊥

-- ---- the frames of a stream

-- lines in words: decoded, or (true) JSON objects
abbrev pub words_of : Bool → Line
words_of false = line_kind.Decoded
words_of true = line_kind.Json

-- These are the words of a frame's line, without its end.
abbrev pub AreWords : Bool → Bool → Frame → List ℕ → Type 0
AreWords false front f words = IsTextOf front f.kind f.bytes words
AreWords true front f words = IsJsonText front f.kind f.bytes words

-- A line of this kind is put, and no more is collected than there is room for; or memory ran
-- out, and then nothing was put; or the sink failed.
abbrev pub PutsLineOf : {K : Type 0} → (K → List ℕ → K → Type 0) → (K → ℕ) → List ℕ → K
    → (List ℕ → Type 0) → Result Unit (Stop Shown) → List ℕ → K → Type 0
PutsLineOf takes failures collected sink IsText (Ok x) collected' sink' = (text : List ℕ)
    × IsText text × PutsLine takes failures collected sink text (Ok x) collected' sink'
PutsLineOf takes failures collected sink IsText (Err stop.Memory) collected' sink' = (collected'
    ≡ collected) × (sink' ≡ sink)
PutsLineOf takes failures collected sink IsText (Err w) collected' sink' = (text : List ℕ)
    × IsText text × PutsLine takes failures collected sink text (Err w) collected' sink'

-- Of these bytes, at which `first` is next, the frames are put, but for those that begin the rest.
pub record HasPutFrames {K : Type 0} (takes : K → List ℕ → K → Type 0) (failures : K → ℕ)
    (line : Line) (front : Bool) (collected : List ℕ) (sink : K) (first : NextFrame)
    (bytes : List ℕ) (n : NextFrame) (rest collected' : List ℕ) (sink' : K) : Type 0 where
  pub frames : List Frame
  pub framed : AreFramed first bytes frames n rest
  pub text : List ℕ
  pub lines : AreLines line front frames text
  pub put : Puts {A = Unit {0}} takes failures collected sink text (Ok tt) collected' sink'
  pub within : StaysWithin collected collected'

-- The sink failed in the midst of the frames' lines.
pub record BreaksFrames {K : Type 0} (takes : K → List ℕ → K → Type 0) (failures : K → ℕ)
    (line : Line) (front : Bool) (collected : List ℕ) (sink : K) (first : NextFrame)
    (bytes collected' : List ℕ) (sink' : K) : Type 0 where
  pub fault : LinkFault
  pub frames : List Frame
  pub n : NextFrame
  pub rest : List ℕ
  pub framed : AreFramed first bytes frames n rest
  pub text : List ℕ
  pub lines : AreLines line front frames text
  pub put : Puts {A = Unit {0}} takes failures collected sink text (Err fault) collected' sink'

-- The frames in what a reader keeps are put, as far as may be.
abbrev pub PutsFrames : {K : Type 0} → (K → List ℕ → K → Type 0) → (K → ℕ) → Line → Bool → List ℕ
    → K → FramesState → Result Unit (Stop Shown) → FramesState → List ℕ → K → Type 0
PutsFrames takes failures line front collected sink old (Ok x) new collected' sink' =
    HasPutFrames takes failures line front collected sink old.next old.kept new.next new.kept
    collected' sink' × (judged new.next new.kept ≡ judge.Open)
PutsFrames takes failures line front collected sink old (Err (stop.Answer (shown.Fault f))) new
    collected' sink' = (n : NextFrame) × (rest : List ℕ)
    × HasPutFrames takes failures line front collected sink old.next old.kept n rest collected'
    sink' × (judged n rest ≡ judge.Faulty f)
PutsFrames takes failures line front collected sink old (Err stop.Memory) new collected' sink' =
    (n : NextFrame) × (rest : List ℕ)
    × HasPutFrames takes failures line front collected sink old.next old.kept n rest collected'
    sink'
PutsFrames takes failures line front collected sink old (Err stop.SinkFailed) new collected' sink' =
    BreaksFrames takes failures line front collected sink old.next old.kept collected' sink'
PutsFrames takes failures line front collected sink old (Err _) new collected' sink' = ⊥

-- ---- what is read now

-- what is shown, and of which side
abbrev pub way_of : Decoding → Way
way_of (decoding.Back d) = messages_of false
way_of (decoding.First s) = messages_of true
way_of (decoding.Front d) = messages_of true
way_of (decoding.Over size) = messages_of true
way_of (decoding.Framed f) = record { form = forms.Frames f.line; front = f.front }
way_of (decoding.FramedOver line side size) = record { form = forms.Frames line; front = side }

-- how many bytes no line was put for
abbrev pub unshown : Decoding → ℕ
unshown (decoding.Back d) = length d.stream.kept
unshown (decoding.First s) = length s.kept
unshown (decoding.Front d) = length d.stream.kept
unshown (decoding.Over n) = n
unshown (decoding.Framed f) = length f.frames.kept
unshown (decoding.FramedOver line side n) = n

-- No fault was found in what is read now, and it has not come to its end.
abbrev pub IsSoundAt : Decoding → Type 0
IsSoundAt (decoding.Back d) = IsSound d.stream
IsSoundAt (decoding.First s) = (s.ended ≡ false) × (s.fault ≡ None)
IsSoundAt (decoding.Front d) = IsSound d.stream
IsSoundAt (decoding.Over size) = Unit {0}
IsSoundAt (decoding.Framed f) = Unit {0}
IsSoundAt (decoding.FramedOver line side size) = Unit {0}

-- What is read now keeps the open rest of these bytes, and the text is the lines for the others.
abbrev pub AreAt : List ℕ → List ℕ → Decoding → Type 0
AreAt bytes text (decoding.Back d) = IsSound d.stream
    × AreMessages backend bytes text d.stream.kept × IsOpen backend length_limit d.stream.kept
AreAt bytes text (decoding.First s) = (s.ended ≡ false) × (s.fault ≡ None)
    × IsClientSide bytes text next.Packet s.kept × IsOpenPacket s.kept
AreAt bytes text (decoding.Front d) = IsSound d.stream
    × IsClientSide bytes text next.Message d.stream.kept
    × IsOpen frontend length_limit d.stream.kept
AreAt bytes text (decoding.Over size) = (rest : List ℕ) × IsClientSide bytes text next.Nothing rest
    × (size ≡ length rest)
AreAt bytes text (decoding.Framed f) =
    AreFramesShown f.line f.front bytes text f.frames.next f.frames.kept
    × (judged f.frames.next f.frames.kept ≡ judge.Open)
AreAt bytes text (decoding.FramedOver line side size) = (rest : List ℕ)
    × AreFramesShown line side bytes text next.Nothing rest × (size ≡ length rest)

-- The lines for the bytes received are put, and what is read now keeps the open rest.
pub record HasShown {K : Type 0} (takes : K → List ℕ → K → Type 0) (failures : K → ℕ) (start : K)
    (bytes : List ℕ) (at : Decoding) (collected : List ℕ) (sink : K) : Type 0 where
  pub text : List ℕ
  pub are_at : AreAt bytes text at
  pub put : Puts {A = Unit {0}} takes failures [] start text (Ok tt) collected sink
  pub within : length collected ≤ most_collected

-- The lines for the bytes received are put, but for this rest, and these sends were the first.
pub record ArePut {K : Type 0} (takes : K → List ℕ → K → Type 0) (failures : K → ℕ) (way : Way)
    (start : K) (bytes : List ℕ) (earlier : List (List ℕ)) (n : NextFrame) (rest collected : List ℕ)
    (sink : K) : Type 0 where
  pub text : List ℕ
  pub shown : AreShown way bytes text n rest
  pub put : Puts {A = Unit {0}} takes failures [] start text (Ok tt) collected sink
  pub begins : IsPrefix earlier put.pieces
  pub within : length collected ≤ most_collected

-- The sink failed in the midst of the lines, and these sends were the first.
pub record HasSinkFailed {K : Type 0} (takes : K → List ℕ → K → Type 0) (failures : K → ℕ)
    (way : Way) (start : K) (bytes : List ℕ) (earlier : List (List ℕ)) (collected : List ℕ)
    (sink : K) : Type 0 where
  pub fault : LinkFault
  pub text : List ℕ
  pub n : NextFrame
  pub rest : List ℕ
  pub shown : AreShown way bytes text n rest
  pub put : Puts {A = Unit {0}} takes failures [] start text (Err fault) collected sink
  pub begins : IsPrefix earlier put.pieces

-- What stands where the work stops, in a step before which these sends were made.
abbrev pub Stops : {K : Type 0} → (K → List ℕ → K → Type 0) → (K → ℕ) → Way → K → List ℕ
    → List (List ℕ) → Stop Shown → List ℕ → K → Type 0
Stops takes failures way start bytes earlier (stop.Answer shown.Whole) collected sink =
    (n : NextFrame) × (rest : List ℕ)
    × ArePut takes failures way start bytes earlier n rest collected sink
    × IsOpenFor way n rest × (0 ≡ length rest)
Stops takes failures way start bytes earlier (stop.Answer (shown.Rest size)) collected sink =
    (n : NextFrame) × (rest : List ℕ)
    × ArePut takes failures way start bytes earlier n rest collected sink
    × IsOpenFor way n rest × (size ≡ length rest) × (0 < size)
Stops takes failures way start bytes earlier (stop.Answer (shown.Fault f)) collected sink =
    (n : NextFrame) × (rest : List ℕ)
    × ArePut takes failures way start bytes earlier n rest collected sink
    × IsFaultyFor way n rest f
Stops takes failures way start bytes earlier stop.Memory collected sink =
    (n : NextFrame) × (rest : List ℕ)
    × ArePut takes failures way start bytes earlier n rest collected sink
Stops takes failures way start bytes earlier stop.SinkFailed collected sink =
    HasSinkFailed takes failures way start bytes earlier collected sink
Stops takes failures way start bytes earlier _ collected sink = (n : NextFrame) × (rest : List ℕ)
    × ArePut takes failures way start bytes earlier n rest collected sink × IsOpenFor way n rest

-- The lines for the bytes received are put as before, and these sends were the first.
abbrev pub GoesOn : {K : Type 0} → (K → List ℕ → K → Type 0) → (K → ℕ) → K → List ℕ
    → List (List ℕ) → Decoding → List ℕ → K → Type 0
GoesOn takes failures start bytes earlier at collected sink =
    (shown : HasShown takes failures start bytes at collected sink)
    × IsPrefix earlier shown.put.pieces

-- Where a step of the work leads, before which these sends were made.
abbrev pub StepShows : {K : Type 0} → (K → List ℕ → K → Type 0) → (K → ℕ) → Way → K → List ℕ
    → List (List ℕ) → Result Decoding (Stop Shown) → List ℕ → K → Type 0
StepShows takes failures way start bytes earlier (Ok s) collected sink = (way_of s ≡ way)
    × (shown : HasShown takes failures start bytes s collected sink)
    × IsPrefix earlier shown.put.pieces
StepShows takes failures way start bytes earlier (Err h) collected sink =
    Stops takes failures way start bytes earlier h collected sink

-- What a stop says of the source: it has ended, it failed in these calls, it gave no end in so many,
-- or it didn't fail.
abbrev pub StopsSource : Type 0 → ℕ → ℕ → List (List ℕ) → Stop Shown → Type 0
StopsSource ended old new pieces (stop.Answer shown.Whole) = ended × (new ≡ old)
StopsSource ended old new pieces (stop.Answer (shown.Rest size)) = ended × (new ≡ old)
StopsSource ended old new pieces stop.SourceFailed = HasRisen old new
StopsSource ended old new pieces stop.Endless = length pieces ≡ most_receives
StopsSource ended old new pieces _ = new ≡ old

-- Pieces were received until the work stopped, and this is what stands then.
pub record HasRun {S K : Type 0} (gives : S → List ℕ → S → Type 0) (source_failures : S → ℕ)
    (ended : Type 0) (takes : K → List ℕ → K → Type 0) (failures : K → ℕ) (way : Way)
    (source : S) (start : K) (s : Stop Shown) (source' : S) (collected : List ℕ)
    (sink : K) : Type 0 where
  pub pieces : List (List ℕ)
  pub received : FoldsTo gives source pieces source'
  pub earlier : List (List ℕ)
  pub shown_before : AreShownBefore way (concat pieces) (concat earlier)
  pub at_once : IsSentAtOnce (AreAllShown way) pieces earlier
  pub stops : Stops takes failures way start (concat pieces) earlier s collected sink
  pub stops_source : StopsSource ended (source_failures source) (source_failures source') pieces s

-- One call of receive gave these bytes, and the work went on with them.
abbrev pub StepsSource : {A : Type 0} → Type 0 → ℕ → ℕ → Result A (Stop Shown) → Type 0
StepsSource ended old new (Ok x) = new ≡ old
StepsSource ended old new (Err (stop.Answer shown.Whole)) = ended × (new ≡ old)
StepsSource ended old new (Err (stop.Answer (shown.Rest size))) = ended × (new ≡ old)
StepsSource ended old new (Err stop.SourceFailed) = HasRisen old new
StepsSource ended old new (Err stop.Endless) = ⊥
StepsSource ended old new (Err _) = new ≡ old

-- The source plays no part: the stop is none that it makes.
abbrev pub LeavesSource : {A : Type 0} → Result A (Stop Shown) → Type 0
LeavesSource result = StepsSource ⊥ 0 0 result
