-- How the frames' lines go on, frame by frame and piece by piece.
use Rattle.std.proofs.Common.{◌≡◌, ℕ, ◌+◌, ◌-◌, ◌<◌, ◌≤◌, Bool, true, false, cond, List, [], ◌∷◌, ◌++◌, length, take, drop, slice_index, codes, Some, None, Result, Ok, Err, refl, sym, ap, subst, ◌∙◌, append_assoc, append-nil, arith}
use Rattle.pg_wire.specs.declared.fault.WireFault.{WireFault}
use Rattle.pg_wire.specs.declared.fault.WireFault.TheVariants as wire
use Rattle.pg_wire.specs.Direction.{Direction}
use Rattle.pg_wire.specs.Message.{JudgesBody}
use Rattle.pgpipe_base.specs.declared.stop.Stop.{Stop}
use Rattle.pgpipe_base.specs.declared.stop.Stop.TheVariants as stop
use Rattle.pgpipe_base.specs.Outbox.{line_of}
use Rattle.pgpipe_base.proofs.Pieces.{prefix_of_itself, puts_none, puts_then, sends_on}
use Rattle.pgpipe_frames.specs.declared.next.NextFrame.{NextFrame}
use Rattle.pgpipe_frames.specs.declared.next.NextFrame.TheVariants as next
use Rattle.std.proofs.lemmas.List.{length-take-le, length-drop}
use Rattle.std.specs.Prelude.{OnOk, is_ok}
use Rattle.std.specs.Result.{is_err}
use Rattle.pgpipe_frames.specs.declared.judge.FrameJudgement.TheVariants as judge
use Rattle.pgpipe_frames.specs.Frames.{Frame, judged, next_after, fewest, AreFramed}
use Rattle.pgpipe_frames.specs.Reader.{FramesState, answer_of, left_by}
use Rattle.pgpipe_frames.proofs.Framing.{framed_none, framed_received, framed_then, one_frame, rest_within}
use Rattle.pgpipe_frames.proofs.Judging.{frame_sizes, was_open, was_whole, was_faulty}
use Rattle.pgpipe_show.specs.declared.decoding.Decoding.{Decoding}
use Rattle.pgpipe_show.specs.declared.decoding.Decoding.TheVariants as decoding
use Rattle.pgpipe_show.specs.declared.form.Form.TheVariants as forms
use Rattle.pgpipe_show.specs.declared.form.Line.{Line}
use Rattle.pgpipe_show.specs.declared.framing.Framing.{Framing}
use Rattle.pgpipe_show.specs.declared.show.Shown.{Shown}
use Rattle.pgpipe_show.specs.declared.show.Shown.TheVariants as shown
use Rattle.pgpipe_show.specs.FrameLines.{IsLine, IsMessageLine, other_line, AreLines, AreFramesShown, first_of}
use Rattle.pgpipe_show.specs.Private.Showing.{ArePut, AreAt, AreWords, HasPutFrames, HasShown, LeavesSource, PutsFrames, PutsLine, PutsLineOf, StepShows, Stops, fault_stop, way_of, words_of}
use Rattle.pgpipe_show.specs.Way.{Way}

-- ---- lines and frames

lines_then : (line : Line) (front : Bool) (frames more : List Frame) (text text' : List ℕ) → AreLines line front frames text → AreLines line front more text' → AreLines line front (frames ++ more) (text ++ text')
lines_then line front [] more text text' a b = subst (λ (t : List ℕ). AreLines line front more t) (sym (ap (λ (t : List ℕ). t ++ text') a)) b
lines_then line front (f ∷ frames) more text text' a b = (a.0, a.1 ++ text', a.2, lines_then line front frames more a.1 text' a.3 b, ap (λ (t : List ℕ). t ++ text') a.4 ∙ append_assoc a.0 a.1 text')

one_line : (line : Line) (front : Bool) (f : Frame) (text : List ℕ) → IsLine line front f text → AreLines line front (f ∷ []) text
one_line line front f text is = (text, [], is, refl, sym (append-nil text))

pub frames_begin : (line : Line) (front : Bool) → AreFramesShown line front [] [] (first_of front) []
frames_begin line front = record { frames = []; framed = framed_none (first_of front) []; lines = refl }

pub nothing_open : (front : Bool) → judged (first_of front) [] ≡ judge.Open
nothing_open false = refl
nothing_open true = refl

pub frames_received : (line : Line) (front : Bool) (bytes text : List ℕ) (n : NextFrame) (rest piece : List ℕ) → AreFramesShown line front bytes text n rest → AreFramesShown line front (bytes ++ piece) text n (rest ++ piece)
frames_received line front bytes text n rest piece a = record { frames = a.frames; framed = framed_received (first_of front) bytes a.frames n rest piece a.framed; lines = a.lines }

pub frames_within : (line : Line) (front : Bool) (bytes text : List ℕ) (n : NextFrame) (rest : List ℕ) → AreFramesShown line front bytes text n rest → length rest ≤ length bytes
frames_within line front bytes text n rest a = rest_within (first_of front) bytes a.frames n rest a.framed

frames_then : (line : Line) (front : Bool) (bytes text : List ℕ) (n : NextFrame) (rest : List ℕ) (more : List Frame) (text' : List ℕ) (n' : NextFrame) (rest' : List ℕ) → AreFramesShown line front bytes text n rest → AreFramed n rest more n' rest' → AreLines line front more text' → AreFramesShown line front bytes (text ++ text') n' rest'
frames_then line front bytes text n rest more text' n' rest' a b l = record {
  frames = a.frames ++ more;
  framed = framed_then (first_of front) bytes a.frames n rest more n' rest' a.framed b;
  lines = lines_then line front a.frames more text text' a.lines l;
}

-- ---- the line of a frame

-- a message of the tables
pub known_line : {M : Type 0} (D : Direction M) (frame : List ℕ) (known : Bool) → 5 ≤ length frame → known ≡ true → JudgesBody D (slice_index frame 0) (drop 5 frame) known → IsMessageLine D frame (line_of (slice_index frame 0 ∷ []) (length frame - 1) (drop 5 frame))
known_line D frame known long is j =
    let body = drop 5 frame in
    let k = subst (JudgesBody D (slice_index frame 0) body) is j in
    let size : length frame - 1 ≡ 4 + length body = omega (arith, long, length-drop 5 frame) in (
      Some k.0,
      k.1,
      ap (λ (n : ℕ). line_of (slice_index frame 0 ∷ []) n body) size ∙ ap (λ (t : ℕ). line_of (t ∷ []) (4 + length body) body) (sym k.1.tag_is) ∙ ap (λ (b : List ℕ). line_of (D.tag k.0 ∷ []) (4 + length b) b) (sym k.1.body_is),
    )

-- one that isn't
pub other_line_of : {M : Type 0} (D : Direction M) (frame : List ℕ) (known : Bool) → known ≡ false → JudgesBody D (slice_index frame 0) (drop 5 frame) known → IsMessageLine D frame (other_line frame)
other_line_of D frame known is j = (None, subst (JudgesBody D (slice_index frame 0) (drop 5 frame)) is j, refl)

-- a decoded line is a text and a newline
pub newline_put : {A E : Type 0} (IsText : List ℕ → Type 0) (r : Result A E) (old mid new : List ℕ) → old ≡ [] → (text : List ℕ) × IsText text × (mid ≡ old ++ text) → new ≡ cond (is_ok r) (mid ++ codes "\n") mid → OnOk r ((words : List ℕ) × IsText words × (new ≡ words ++ codes "\n"))
newline_put IsText (Ok x) old mid new none h e = (h.0, h.1, e ∙ ap (λ (l : List ℕ). l ++ codes "\n") (h.2 ∙ ap (λ (l : List ℕ). l ++ h.0) none))
newline_put IsText (Err x) old mid new none h e = tt

-- the words of a frame and a newline are its line
pub words_put : {A E : Type 0} (json front : Bool) (f : Frame) (r : Result A E) (text : List ℕ) → OnOk r ((words : List ℕ) × AreWords json front f words × (text ≡ words ++ codes "\n")) → OnOk r (IsLine (words_of json) front f text)
words_put false front f r text h = h
words_put true front f r text h = h

module _ {K : Type 0} (takes : K → List ℕ → K → Type 0) (failures : K → ℕ) (c : List ℕ) (s : K) (IsText : List ℕ → Type 0) where
  -- a line of this kind was put
  pub line_put : (text : List ℕ) → IsText text → (r : Result Unit (Stop Shown)) (c' : List ℕ) (s' : K) → PutsLine takes failures c s text r c' s' → PutsLineOf takes failures c s IsText r c' s'
  line_put text is (Ok x) c' s' p = (text, is, p)
  line_put text is (Err stop.Memory) c' s' p = p
  line_put text is (Err stop.SinkFailed) c' s' p = (text, is, p)
  line_put text is (Err (stop.Answer a)) c' s' p = absurd p
  line_put text is (Err stop.SourceFailed) c' s' p = absurd p
  line_put text is (Err stop.Endless) c' s' p = absurd p

  -- where none was put the source plays no part
  pub leaves : (A : Type 0) (w : Stop Shown) (c' : List ℕ) (s' : K) → PutsLineOf takes failures c s IsText (Err w) c' s' → LeavesSource {A = A} (Err w)
  leaves A stop.Memory c' s' p = refl
  leaves A stop.SinkFailed c' s' p = refl
  leaves A (stop.Answer a) c' s' p = absurd p.2
  leaves A stop.SourceFailed c' s' p = absurd p.2
  leaves A stop.Endless c' s' p = absurd p.2

-- ---- the frames that a reader keeps

-- a frame fewer is kept
pub fewer : (n : NextFrame) (rest : List ℕ) (size : ℕ) → judged n rest ≡ judge.Whole size → length (drop size rest) < length rest
fewer n rest size e =
    let s = frame_sizes n rest size e in
    let some : 0 < size = by_kind n s.0 in
    omega (arith, some, s.2, length-drop size rest)
  where
    by_kind : (k : NextFrame) → fewest k ≤ size → 0 < size
    by_kind next.Packet low = omega (arith, low)
    by_kind next.Message low = omega (arith, low)
    by_kind next.Nothing low = omega (arith, low)

module _ {K : Type 0} (takes : K → List ℕ → K → Type 0) (failures : K → ℕ) (line : Line) (front : Bool) (c0 : List ℕ) (s0 : K) (first : NextFrame) (bytes : List ℕ) where
  pub has_put_none : HasPutFrames takes failures line front c0 s0 first bytes first bytes c0 s0
  has_put_none = record { frames = []; framed = framed_none first bytes; text = []; lines = refl; put = puts_none takes failures c0 s0; within = λ w. w }

  module _ (old : FramesState) (c : List ℕ) (s : K) (h : HasPutFrames takes failures line front c0 s0 first bytes old.next old.kept c s) (new : FramesState) (left : new ≡ left_by old (judged old.next old.kept)) where
    -- no frame is whole
    pub at_open : Ok false ≡ answer_of (judged old.next old.kept) → HasPutFrames takes failures line front c0 s0 first bytes new.next new.kept c s × (judged new.next new.kept ≡ judge.Open)
    at_open e =
        let is = was_open (judged old.next old.kept) e in
        let same : new ≡ record old { held = [] } = left ∙ ap (left_by old) is in (
          subst (λ (f : FramesState). HasPutFrames takes failures line front c0 s0 first bytes f.next f.kept c s) (sym same) h,
          subst (λ (f : FramesState). judged f.next f.kept ≡ judge.Open) (sym same) is,
        )

    -- a length field can't be
    pub at_fault : (f : WireFault) → Err f ≡ answer_of (judged old.next old.kept) → PutsFrames takes failures line front c0 s0 (record { next = first; kept = bytes; held = [] }) (Err (fault_stop f)) new c s
    at_fault f e = by_fault f (was_faulty (judged old.next old.kept) f e)
      where
        by_fault : (g : WireFault) → judged old.next old.kept ≡ judge.Faulty g → PutsFrames takes failures line front c0 s0 (record { next = first; kept = bytes; held = [] }) (Err (fault_stop g)) new c s
        by_fault (wire.UnknownTag t) is = (old.next, old.kept, h, is)
        by_fault (wire.ShortLength n) is = (old.next, old.kept, h, is)
        by_fault (wire.LongLength n) is = (old.next, old.kept, h, is)
        by_fault (wire.BadFirst n) is = (old.next, old.kept, h, is)
        by_fault (wire.BadBody t) is = (old.next, old.kept, h, is)
        by_fault wire.Memory is = (old.next, old.kept, h)

    module _ (whole : Ok true ≡ answer_of (judged old.next old.kept)) (kind : NextFrame) (is_kind : kind ≡ old.next) (frame : List ℕ) (is_frame : frame ≡ new.held) where
      abbrev pub size : ℕ
      size = (was_whole (judged old.next old.kept) whole).0

      abbrev pub is_whole : judged old.next old.kept ≡ judge.Whole size
      is_whole = (was_whole (judged old.next old.kept) whole).1

      abbrev held : List ℕ
      held = take size old.kept

      abbrev taken : FramesState
      taken = record { next = next_after old.next held; kept = drop size old.kept; held = held }

      left_is : new ≡ taken
      left_is = left ∙ ap (left_by old) is_whole

      is_held : frame ≡ held
      is_held = is_frame ∙ ap (λ (f : FramesState). f.held) left_is

      -- how large the frame is
      pub sizes : (fewest kind ≤ length frame) × (length frame ≤ 1073741824)
      sizes =
          let s = frame_sizes old.next old.kept size is_whole in
          let long : length frame ≡ size = ap (λ (l : List ℕ). length l) is_held ∙ length-take-le size old.kept s.2 in (
            subst (λ (k : NextFrame). fewest k ≤ length frame) (sym is_kind) (subst (λ (n : ℕ). fewest old.next ≤ n) (sym long) s.0),
            subst (λ (n : ℕ). n ≤ 1073741824) (sym long) s.1,
          )

      -- fewer bytes are kept
      pub shorter : length new.kept < length old.kept
      shorter = subst (λ (f : FramesState). length f.kept < length old.kept) (sym left_is) (fewer old.next old.kept size is_whole)

      abbrev this : Frame
      this = record { kind = old.next; bytes = held }

      as_this : (text : List ℕ) → IsLine line front (record { kind = kind; bytes = frame }) text → IsLine line front this text
      as_this text is = subst (λ (k : NextFrame). IsLine line front (record { kind = k; bytes = held }) text) is_kind (subst (λ (b : List ℕ). IsLine line front (record { kind = kind; bytes = b }) text) is_held is)

      framed_now : AreFramed first bytes (h.frames ++ this ∷ []) (next_after old.next held) (drop size old.kept)
      framed_now = framed_then first bytes h.frames old.next old.kept (this ∷ []) (next_after old.next held) (drop size old.kept) h.framed (one_frame old.next old.kept size is_whole)

      -- its line was put
      pub at_line : (x : Unit) (c' : List ℕ) (s' : K) → PutsLineOf takes failures c s (IsLine line front (record { kind = kind; bytes = frame })) (Ok x) c' s' → HasPutFrames takes failures line front c0 s0 first bytes new.next new.kept c' s'
      at_line x c' s' p = subst (λ (f : FramesState). HasPutFrames takes failures line front c0 s0 first bytes f.next f.kept c' s') (sym left_is) (record {
        frames = h.frames ++ this ∷ [];
        framed = framed_now;
        text = h.text ++ p.0;
        lines = lines_then line front h.frames (this ∷ []) h.text p.0 h.lines (one_line line front this p.0 (as_this p.0 p.1));
        put = puts_then takes failures c0 s0 h.text c s p.0 (Ok tt) c' s' h.put p.2.0;
        within = λ w. p.2.1;
      })

      -- it couldn't be put
      pub at_stop : (w : Stop Shown) (c' : List ℕ) (s' : K) (new' : FramesState) → PutsLineOf takes failures c s (IsLine line front (record { kind = kind; bytes = frame })) (Err w) c' s' → PutsFrames takes failures line front c0 s0 (record { next = first; kept = bytes; held = [] }) (Err w) new' c' s'
      at_stop stop.Memory c' s' new' p = (old.next, old.kept, subst (λ (d : List ℕ). HasPutFrames takes failures line front c0 s0 first bytes old.next old.kept d s') (sym p.0) (subst (λ (k : K). HasPutFrames takes failures line front c0 s0 first bytes old.next old.kept c k) (sym p.1) h))
      at_stop stop.SinkFailed c' s' new' p = record {
        fault = p.2.0;
        frames = h.frames ++ this ∷ [];
        n = next_after old.next held;
        rest = drop size old.kept;
        framed = framed_now;
        text = h.text ++ p.0;
        lines = lines_then line front h.frames (this ∷ []) h.text p.0 h.lines (one_line line front this p.0 (as_this p.0 p.1));
        put = puts_then takes failures c0 s0 h.text c s p.0 (Err p.2.0) c' s' h.put p.2.1;
      }
      at_stop (stop.Answer a) c' s' new' p = absurd p.2
      at_stop stop.SourceFailed c' s' new' p = absurd p.2
      at_stop stop.Endless c' s' new' p = absurd p.2

-- ---- a piece

abbrev way : Line → Bool → Way
way line front = record { form = forms.Frames line; front = front }

module _ {K : Type 0} (takes : K → List ℕ → K → Type 0) (failures : K → ℕ) (start : K) (bytes piece c : List ℕ) (s : K) (f : Framing) (st : HasShown takes failures start bytes (decoding.Framed f) c s) where
  abbrev received : ArePut takes failures (way f.line f.front) start (bytes ++ piece) st.put.pieces f.frames.next (f.frames.kept ++ piece) c s
  received = record {
    text = st.text;
    shown = frames_received f.line f.front bytes st.text f.frames.next f.frames.kept piece st.are_at.0;
    put = st.put;
    begins = prefix_of_itself st.put.pieces;
    within = st.within;
  }

  -- memory was refused before the piece was taken
  pub refused : Stops takes failures (way f.line f.front) start (bytes ++ piece) st.put.pieces stop.Memory c s
  refused = (f.frames.next, f.frames.kept ++ piece, received)

  abbrev put_on : (n : NextFrame) (rest c' : List ℕ) (s' : K) → HasPutFrames takes failures f.line f.front c s f.frames.next (f.frames.kept ++ piece) n rest c' s' → ArePut takes failures (way f.line f.front) start (bytes ++ piece) st.put.pieces n rest c' s'
  put_on n rest c' s' h = record {
    text = st.text ++ h.text;
    shown = frames_then f.line f.front (bytes ++ piece) st.text f.frames.next (f.frames.kept ++ piece) h.frames h.text n rest received.shown h.framed h.lines;
    put = puts_then takes failures [] start st.text c s h.text (Ok tt) c' s' st.put h.put;
    begins = sends_on takes failures st.put.pieces [] start st.text c s h.text (Ok tt) c' s' st.put h.put (prefix_of_itself st.put.pieces);
    within = h.within st.within;
  }

  abbrev pushed : FramesState
  pushed = record f.frames { kept = f.frames.kept ++ piece; held = [] }

  pub stopped : (w : Stop Shown) (new : FramesState) (c' : List ℕ) (s' : K) → PutsFrames takes failures f.line f.front c s pushed (Err w) new c' s' → Stops takes failures (way f.line f.front) start (bytes ++ piece) st.put.pieces w c' s'
  stopped (stop.Answer (shown.Fault g)) new c' s' h = (h.0, h.1, put_on h.0 h.1 c' s' h.2, h.3)
  stopped stop.Memory new c' s' h = (h.0, h.1, put_on h.0 h.1 c' s' h.2)
  stopped stop.SinkFailed new c' s' h = record {
    fault = h.fault;
    text = st.text ++ h.text;
    n = h.n;
    rest = h.rest;
    shown = frames_then f.line f.front (bytes ++ piece) st.text f.frames.next (f.frames.kept ++ piece) h.frames h.text h.n h.rest received.shown h.framed h.lines;
    put = puts_then takes failures [] start st.text c s h.text (Err h.fault) c' s' st.put h.put;
    begins = sends_on takes failures st.put.pieces [] start st.text c s h.text (Err h.fault) c' s' st.put h.put (prefix_of_itself st.put.pieces);
  }
  stopped (stop.Answer shown.Whole) new c' s' h = absurd h
  stopped (stop.Answer (shown.Rest k)) new c' s' h = absurd h
  stopped stop.SourceFailed new c' s' h = absurd h
  stopped stop.Endless new c' s' h = absurd h

  pub went_on : (x : Unit) (new : FramesState) (c' : List ℕ) (s' : K) → PutsFrames takes failures f.line f.front c s pushed (Ok x) new c' s' → (f' : Framing) → f'.line ≡ f.line → f'.front ≡ f.front → f'.frames ≡ new
      → (d : Decoding) → way_of d ≡ way f'.line f'.front → ((b text : List ℕ) → AreAt b text (decoding.Framed f') → AreAt b text d) → StepShows takes failures (way f.line f.front) start (bytes ++ piece) st.put.pieces (Ok d) c' s'
  went_on x new c' s' h f' line_is front_is frames_are d side at =
      let a = put_on new.next new.kept c' s' h.0 in
      let shown' : AreFramesShown f'.line f'.front (bytes ++ piece) a.text f'.frames.next f'.frames.kept = rw (line_is, front_is, frames_are) a.shown in
      let opened : judged f'.frames.next f'.frames.kept ≡ judge.Open = rw frames_are h.1 in (
        side ∙ ap (λ (l : Line). way l f'.front) line_is ∙ ap (λ (b : Bool). way f.line b) front_is,
        record { text = a.text; are_at = at (bytes ++ piece) a.text (shown', opened); put = a.put; within = a.within },
        a.begins,
      )

-- nothing was read yet
pub begun : (f : Framing) → f.frames ≡ record { next = first_of f.front; kept = []; held = [] } → AreAt [] [] (decoding.Framed f)
begun f is = rw is (frames_begin f.line f.front, nothing_open f.front)

-- after a request to cancel
pub now_over : (f : Framing) (n : NextFrame) (count : ℕ) → n ≡ f.frames.next → n ≡ next.Nothing → count ≡ length f.frames.kept → (bytes text : List ℕ) → AreAt bytes text (decoding.Framed f) → AreAt bytes text (decoding.FramedOver f.line f.front count)
now_over f n count is nothing size bytes text a = (f.frames.kept, subst (λ (k : NextFrame). AreFramesShown f.line f.front bytes text k f.frames.kept) (sym is ∙ nothing) a.0, size)

-- what a push leaves, where it wasn't refused
pub if_pushed : {A E P : Type 0} (r : Result A E) → false ≡ is_err r → OnOk r P → P
if_pushed (Ok x) e p = p
if_pushed (Err x) e p = absurd cc
