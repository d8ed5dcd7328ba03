-- What is shown of a backend's stream, and of what a client sends.
use Rattle.std.specs.Prelude.{ℕ, ◌≡◌, ◌<◌, ◌≤◌, ◌+◌, ◌++◌, ◌⊎◌, Bool, true, false, List, [], length, Result, Ok, Err}
use Rattle.pg_wire.specs.declared.fault.WireFault.{WireFault}
use Rattle.pg_wire.specs.message.First.{First}
use Rattle.pg_wire.specs.Backend.{backend}
use Rattle.pg_wire.specs.Direction.{Direction, longest}
use Rattle.pg_wire.specs.First.{IsBeginning, IsOpenPacket, IsFaultyPacket}
use Rattle.pg_wire.specs.Frontend.{frontend}
use Rattle.pg_wire.specs.Stream.{IsStream, IsOpen, IsFaulty}
use Rattle.pgpipe_frames.specs.declared.next.NextFrame.{NextFrame}
use Rattle.pgpipe_frames.specs.declared.next.NextFrame.TheVariants as next
use Rattle.pgpipe_show.specs.declared.show.Shown.{Shown}
use Rattle.pgpipe_show.specs.declared.show.Shown.TheVariants as shown
use Rattle.pgpipe_base.specs.declared.fault.ToolFault.{ToolFault}
use Rattle.pgpipe_base.specs.declared.fault.ToolFault.TheVariants as fault
use Rattle.pgpipe_frames.specs.declared.judge.FrameJudgement.TheVariants as judge
use Rattle.pgpipe_frames.specs.Frames.{judged}
use Rattle.pgpipe_show.specs.declared.form.Form.{Form}
use Rattle.pgpipe_show.specs.declared.form.Form.TheVariants as forms
use Rattle.pgpipe_show.specs.FrameLines.{AreFramesShown}
use Rattle.pgpipe_show.specs.Messages.{lines}
use Rattle.pgpipe_show.specs.Packets.{packet_lines, next_after, have_ended}
use Rattle.pgpipe_show.specs.Way.{Way}
use Rattle.pgpipe_base.specs.Receiving.{receive_limit}
use Rattle.pgpipe_base.specs.Outbox.{most_collected}
use mathlib.Core.List.{IsPrefix}

-- the greatest length field of a message that is shown
abbrev pub length_limit : ℕ
length_limit = longest

-- ---- the messages of one direction

-- The bytes are messages of this direction and this rest, and the text is the messages' lines.
pub record AreMessages {M : Type 0} (d : Direction M) (bytes text rest : List ℕ) : Type 0 where
  pub messages : List M
  pub stream : IsStream d length_limit bytes messages rest
  pub each_line : text ≡ lines d messages

-- ---- what a client sends

-- After the first packets come these bytes: the text is the lines of their messages, and `rest`
-- what comes after these. Without a Startup all of them are rest, and the text is empty.
abbrev pub ComesAfter : NextFrame → List ℕ → List ℕ → List ℕ → Type 0
ComesAfter next.Message following text rest = AreMessages frontend following text rest
ComesAfter _ following text rest = (text ≡ []) × (rest ≡ following)

-- The bytes of a client are first packets, maybe messages, and this rest, and the text is the lines
-- of both. `n` says what may come next.
pub record IsClientSide (bytes text : List ℕ) (n : NextFrame) (rest : List ℕ) : Type 0 where
  pub packets : List First
  pub following : List ℕ
  pub later : List ℕ
  pub beginning : IsBeginning bytes packets (have_ended n) following
  pub next_is : next_after packets ≡ n
  pub follows : ComesAfter n following later rest
  pub each_line : text ≡ packet_lines packets ++ later

-- ---- either side, and either form

-- The bytes of a client (true) or a backend (false) are what this text has the lines of, and this
-- rest, where `n` may come next.
abbrev pub AreMessagesShown : Bool → List ℕ → List ℕ → NextFrame → List ℕ → Type 0
AreMessagesShown false bytes text n rest = (n ≡ next.Message) × AreMessages backend bytes text rest
AreMessagesShown true bytes text n rest = IsClientSide bytes text n rest

-- The rest is open, where n may come next. After a Cancel any rest is, as nothing more is read.
abbrev pub AreMessagesOpen : Bool → NextFrame → List ℕ → Type 0
AreMessagesOpen false n rest = IsOpen backend length_limit rest
AreMessagesOpen true next.Packet rest = IsOpenPacket rest
AreMessagesOpen true next.Message rest = IsOpen frontend length_limit rest
AreMessagesOpen true next.Nothing rest = Unit {0}

-- The rest is faulty for this reason, where n may come next. After a Cancel no rest is.
abbrev pub AreMessagesFaulty : Bool → NextFrame → List ℕ → WireFault → Type 0
AreMessagesFaulty false n rest f = IsFaulty backend length_limit rest f
AreMessagesFaulty true next.Packet rest f = IsFaultyPacket rest f
AreMessagesFaulty true next.Message rest f = IsFaulty frontend length_limit rest f
AreMessagesFaulty true next.Nothing rest f = ⊥

-- By the form: the text is the lines of messages and packets of the tables, or of frames.
abbrev pub AreShownIn : Form → Bool → List ℕ → List ℕ → NextFrame → List ℕ → Type 0
AreShownIn forms.Messages front bytes text n rest = AreMessagesShown front bytes text n rest
AreShownIn (forms.Frames form) front bytes text n rest =
    AreFramesShown form front bytes text n rest

-- The bytes of a stream that is shown this way are what this text has the lines of, and this rest,
-- where `n` may come next.
abbrev pub AreShown : Way → List ℕ → List ℕ → NextFrame → List ℕ → Type 0
AreShown way bytes text n rest = AreShownIn way.form way.front bytes text n rest

-- By the form: the rest is open.
abbrev pub IsOpenIn : Form → Bool → NextFrame → List ℕ → Type 0
IsOpenIn forms.Messages front n rest = AreMessagesOpen front n rest
IsOpenIn (forms.Frames form) front n rest = judged n rest ≡ judge.Open

-- The rest of a stream that is shown this way is open, where `n` may come next.
abbrev pub IsOpenFor : Way → NextFrame → List ℕ → Type 0
IsOpenFor way n rest = IsOpenIn way.form way.front n rest

-- By the form: the rest is faulty for this reason. Of frames only a length is.
abbrev pub IsFaultyIn : Form → Bool → NextFrame → List ℕ → WireFault → Type 0
IsFaultyIn forms.Messages front n rest f = AreMessagesFaulty front n rest f
IsFaultyIn (forms.Frames form) front n rest f = judged n rest ≡ judge.Faulty f

-- The rest of such a stream is faulty for this reason, where `n` may come next.
abbrev pub IsFaultyFor : Way → NextFrame → List ℕ → WireFault → Type 0
IsFaultyFor way n rest f = IsFaultyIn way.form way.front n rest f

-- ---- how much is shown

-- The text has a line for all that is whole in these bytes, and the rest of them is open.
pub record AreAllShown (way : Way) (bytes text : List ℕ) : Type 0 where
  pub n : NextFrame
  pub rest : List ℕ
  pub shown : AreShown way bytes text n rest
  pub is_open : IsOpenFor way n rest

-- The text has the lines for these bytes without the last piece, a piece being at most 65,536
-- bytes, and the rest before that piece is open.
pub record AreShownBefore (way : Way) (bytes text : List ℕ) : Type 0 where
  pub earlier : List ℕ
  pub last : List ℕ
  pub whole : bytes ≡ earlier ++ last
  pub a_piece : length last ≤ receive_limit
  pub shown : AreAllShown way earlier text

-- The text is whole lines for these bytes, and none of those for the bytes before the last piece is
-- missing.
pub record AreMostlyShown (way : Way) (bytes text : List ℕ) : Type 0 where
  pub before : List ℕ
  pub shown_before : AreShownBefore way bytes before
  pub begins : IsPrefix before text
  pub n : NextFrame
  pub rest : List ℕ
  pub shown : AreShown way bytes text n rest

-- The text is a prefix of the lines for these bytes, and may end within a line.
abbrev pub ArePartlyShown : Way → List ℕ → List ℕ → Type 0
ArePartlyShown way bytes text =
    (all rest : List ℕ) × (n : NextFrame) × AreShown way bytes all n rest × IsPrefix text all

-- At most 65,536 bytes of lines, for the bytes before the last piece, weren't sent: so a failed
-- sink is noticed soon.
abbrev pub IsShownAtOnce : Way → List ℕ → List ℕ → Type 0
IsShownAtOnce way bytes text = (before : List ℕ) × AreShownBefore way bytes before
    × (length before ≤ most_collected + length text)

-- ---- the answer

-- What `show` returns, by the bytes received and the text sent: Whole without a rest, Rest with its
-- size, or the rest's fault. Memory: no line is missing for what came before the last piece.
-- Device: the sink broke (a prefix was sent), or the source stopped (all was sent).
abbrev pub ShowAnswers : Type 0 → Type 0 → Way → List ℕ → List ℕ → Result Shown ToolFault → Type 0
ShowAnswers stopped broke way bytes text (Ok shown.Whole) = (n : NextFrame)
    × AreShown way bytes text n []
ShowAnswers stopped broke way bytes text (Ok (shown.Rest size)) = (n : NextFrame) × (rest : List ℕ)
    × AreShown way bytes text n rest × IsOpenFor way n rest × (size ≡ length rest) × (0 < size)
ShowAnswers stopped broke way bytes text (Ok (shown.Fault f)) = (n : NextFrame) × (rest : List ℕ)
    × AreShown way bytes text n rest × IsFaultyFor way n rest f
ShowAnswers stopped broke way bytes text (Err fault.Memory) = AreMostlyShown way bytes text
ShowAnswers stopped broke way bytes text (Err fault.Device) =
    (broke × ArePartlyShown way bytes text
    × IsShownAtOnce way bytes text) ⊎ (stopped × AreAllShown way bytes text)

-- Where the answer is Whole or Rest, the source has ended.
abbrev pub EndsStream : Type 0 → Result Shown ToolFault → Type 0
EndsStream ended (Ok shown.Whole) = ended
EndsStream ended (Ok (shown.Rest n)) = ended
EndsStream ended _ = Unit {0}
