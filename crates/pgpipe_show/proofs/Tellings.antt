-- How an entry more is put.
use Rattle.std.proofs.Common.{◌≡◌, ℕ, ◌≤◌, Bool, true, false, cond, List, [], ◌∷◌, ◌++◌, length, codes, Some, None, Result, Ok, Err, refl, sym, ap, subst, ◌∙◌, append-nil, arith}
use Rattle.std.specs.Prelude.{OnOk, is_ok}
use Rattle.std.specs.List.{concat}
use Rattle.pg_wire.specs.Link.{HasRisen}
use Rattle.pgpipe_base.specs.declared.stop.Stop.{Stop}
use Rattle.pgpipe_base.specs.declared.stop.Stop.TheVariants as stop
use Rattle.pgpipe_base.proofs.Pieces.{puts_none}
use Rattle.pgpipe_frames.specs.FrameText.{IsTextOf}
use Rattle.pgpipe_frames.specs.declared.judge.FrameJudgement.TheVariants as judge
use Rattle.pgpipe_frames.specs.declared.next.NextFrame.{NextFrame}
use Rattle.pgpipe_frames.specs.declared.next.NextFrame.TheVariants as next
use Rattle.pgpipe_frames.specs.Frames.{Frame, fewest, judged, next_after}
use Rattle.pgpipe_frames.specs.Reader.{FramesState}
use Rattle.pgpipe_frames.proofs.Judging.{frame_sizes}
use Rattle.pgpipe_show.specs.declared.both.turn.Due.{Due}
use Rattle.pgpipe_show.specs.declared.both.turn.Due.TheVariants as whose
use Rattle.pgpipe_show.specs.declared.both.turn.Encryption.{Encryption}
use Rattle.pgpipe_show.specs.declared.both.turn.Ended.{Ended}
use Rattle.pgpipe_show.specs.declared.both.turn.Ended.TheVariants as ending
use Rattle.pgpipe_show.specs.declared.both.turn.BothEnds.{BothEnds}
use Rattle.pgpipe_show.specs.declared.both.turn.Turn.{Turn}
use Rattle.pgpipe_show.specs.Entries.{Entry, Message, End, Reply, IsAt, IsDue, IsEntryLine, IsFrameLine, arrow, spelling}
use Rattle.pgpipe_show.specs.Turn.{ended_by, is_reply}
use Rattle.pgpipe_show.specs.Private.Telling.{BreaksAt, Fetches, IsTold, PutsEntry, PutsText, ReceivedByte, Tells, TellsEntry, Told, left_after}
use Rattle.pgpipe_show.proofs.Orders.{no_reply}

-- ---- lines

-- an arrow, a text and a newline
pub frame_line : {A E : Type 0} (front : Bool) (f : Frame) (r : Result A E) (old mid new : List ℕ) → old ≡ arrow front → (text : List ℕ) × IsTextOf front f.kind f.bytes text × (mid ≡ old ++ text) → new ≡ cond (is_ok r) (mid ++ codes "\n") mid → OnOk r (IsFrameLine front f new)
frame_line front f (Ok x) old mid new head h e = (h.0, h.1, e ∙ ap (λ (l : List ℕ). l ++ codes "\n") (h.2 ∙ ap (λ (l : List ℕ). l ++ h.0) head))
frame_line front f (Err x) old mid new head h e = tt

module _ {K : Type 0} (takes : K → List ℕ → K → Type 0) (failures : K → ℕ) (c : List ℕ) (s : K) where
  -- the text of an entry was put
  pub entry_put : (x : Entry) (text : List ℕ) → IsEntryLine x text → (r : Result Unit (Stop BothEnds)) (c' : List ℕ) (s' : K) → PutsText takes failures c s text r c' s' → PutsEntry takes failures c s x r c' s'
  entry_put x text is (Ok u) c' s' p = (text, is, p)
  entry_put x text is (Err stop.SinkFailed) c' s' p = (text, is, p.0, p.1)
  entry_put x text is (Err stop.Memory) c' s' p = absurd p
  entry_put x text is (Err stop.SourceFailed) c' s' p = absurd p
  entry_put x text is (Err stop.Endless) c' s' p = absurd p
  entry_put x text is (Err (stop.Answer a)) c' s' p = absurd p

-- ---- what a stream has next

-- the smallest and the greatest frame
pub frame_fits : (n : NextFrame) (held : List ℕ) → judged n held ≡ judge.Whole (length held) → (5 ≤ length held) × (fewest n ≤ length held)
frame_fits n held e = (by_next n (frame_sizes n held (length held) e).0, (frame_sizes n held (length held) e).0)
  where
    by_next : (m : NextFrame) → fewest m ≤ length held → 5 ≤ length held
    by_next next.Packet low = omega (arith, low)
    by_next next.Message low = low
    by_next next.Nothing low = low

module _ {S K : Type 0} (gives : S → List ℕ → S → Type 0) (failures : S → ℕ) (has_ended : S → Type 0) (takes : K → List ℕ → K → Type 0) (sink_failures : K → ℕ) (front : Bool) (turn : Turn) (old : FramesState) (source : S) (c : List ℕ) (s : K) (new : FramesState) (source' : S) where
  abbrev pub Tells' : Due → List ℕ → Result Turn (Stop BothEnds) → List ℕ → K → Type 0
  Tells' d kept r c' s' = Tells gives failures has_ended takes sink_failures d turn old.next kept source c s r new.next new.kept source' c' s'

  -- a frame
  pub tell_frame : Fetches gives failures has_ended old source (Ok None) new source' → (kind : NextFrame) → kind ≡ old.next → (frame : List ℕ) → frame ≡ new.held → (r : Result Turn (Stop BothEnds)) (c' : List ℕ) (s' : K)
      → TellsEntry takes sink_failures turn c s (Message front (record { kind = kind; bytes = frame })) r c' s' → Tells' (whose.Side front) old.kept r c' s'
  tell_frame f kind is_kind frame is_frame r c' s' t = (f.0, f.1, by_result r t)
    where
      at_place : IsAt old.next (Message front (record { kind = kind; bytes = frame }))
      at_place = (is_kind, subst (λ (b : List ℕ). judged old.next b ≡ judge.Whole (length b)) (sym is_frame) f.2.1)

      shape : old.kept ++ concat f.0 ≡ frame ++ new.kept
      shape = f.2.0 ∙ ap (λ (b : List ℕ). b ++ new.kept) (sym is_frame)

      by_result : (q : Result Turn (Stop BothEnds)) → TellsEntry takes sink_failures turn c s (Message front (record { kind = kind; bytes = frame })) q c' s' → Told (has_ended source') (failures source) (failures source') (length f.0) takes sink_failures (whose.Side front) turn old.next (old.kept ++ concat f.0) c s q new.next new.kept c' s'
      by_result (Ok turn') p = (
        Message front (record { kind = kind; bytes = frame }),
        record {
          is_due = refl;
          is_at = at_place;
          turn_is = p.0;
          spelled = shape;
          alone = tt;
          kind_is = f.2.2 ∙ ap (λ (b : List ℕ). next_after old.next b) (sym is_frame);
          text = p.1.0;
          line = p.1.1;
          put = p.1.2;
        },
        tt,
        f.2.3,
      )
      by_result (Err stop.Memory) p = (f.2.3, p.0, p.1)
      by_result (Err stop.SinkFailed) p = record {
        entry = Message front (record { kind = kind; bytes = frame });
        is_due = refl;
        is_at = at_place;
        begins = (new.kept, sym shape);
        text = p.0;
        line = p.1;
        fault = p.2;
        put = p.3;
      }
      by_result (Err stop.SourceFailed) p = absurd p
      by_result (Err stop.Endless) p = absurd p
      by_result (Err (stop.Answer a)) p = absurd p

  -- which is no shorter than it may be
  pub tell_fits : Fetches gives failures has_ended old source (Ok None) new source' → (kind : NextFrame) → kind ≡ old.next → (frame : List ℕ) → frame ≡ new.held → (5 ≤ length frame) × (fewest kind ≤ length frame)
  tell_fits f kind is_kind frame is_frame =
      let fits : (5 ≤ length new.held) × (fewest old.next ≤ length new.held) = frame_fits old.next new.held f.2.1 in
      let same : (5 ≤ length frame) × (fewest old.next ≤ length frame) = subst (λ (b : List ℕ). (5 ≤ length b) × (fewest old.next ≤ length b)) (sym is_frame) fits in
      subst (λ (k : NextFrame). (5 ≤ length frame) × (fewest k ≤ length frame)) (sym is_kind) same

  -- the end of the stream, for which nothing is put
  pub tell_end : (how : Ended) → Fetches gives failures has_ended old source (Ok (Some how)) new source' → (turn' : Turn) → turn' ≡ ended_by turn front how → Tells' (whose.Side front) old.kept (Ok turn') c s
  tell_end how f turn' is = (
    f.0,
    f.1,
    (
      End front how new.kept,
      record {
        is_due = refl;
        is_at = f.2.2;
        turn_is = is;
        spelled = f.2.0 ∙ sym (append-nil new.kept);
        alone = tt;
        kind_is = f.2.1;
        text = [];
        line = refl;
        put = puts_none takes sink_failures c s;
      },
      f.2.3,
      f.2.4,
    ),
  )

  -- nothing was found
  pub tell_stop : (w : Stop BothEnds) → Fetches gives failures has_ended old source (Err w) new source' → Tells' (whose.Side front) old.kept (Err w) c s
  tell_stop stop.SourceFailed f = (f.0, f.1, (f.2, refl, refl))
  tell_stop stop.Endless f = (f.0, f.1, (f.2, refl, refl))
  tell_stop stop.Memory f = (f.0, f.1, (f.2, refl, refl))
  tell_stop stop.SinkFailed f = absurd f.2
  tell_stop (stop.Answer a) f = absurd f.2

-- ---- an answer to a request for encryption

module _ {K : Type 0} (takes : K → List ℕ → K → Type 0) (sink_failures : K → ℕ) (r : Encryption) (turn : Turn) (c : List ℕ) (s : K) (byte : ℕ) where
  -- a byte that is none begins what the server sends
  due_again : (xs zs : List ℕ) (x : Entry) → is_reply r byte ≡ false → byte ∷ xs ≡ spelling x ++ zs → IsDue (whose.Side false) x → IsDue (whose.Reply r) x
  due_again xs zs (Message front f) isnt e d = (d, no_reply r byte xs f.bytes zs e isnt)
  due_again xs zs (End front how rest) isnt e d = (d, no_reply r byte xs rest zs e isnt)
  due_again xs zs (Reply b) isnt e d = absurd d

  module _ (kind : NextFrame) (xs : List ℕ) (kind' : NextFrame) (kept' c' : List ℕ) (s' : K) (isnt : is_reply r byte ≡ false) where
    told_again : (turn' : Turn) (x : Entry) → IsTold takes sink_failures (whose.Side false) turn kind (byte ∷ xs) c s turn' kind' kept' c' s' x → IsTold takes sink_failures (whose.Reply r) turn kind (byte ∷ xs) c s turn' kind' kept' c' s' x
    told_again turn' x t = record {
      is_due = due_again xs (left_after x kept') x isnt t.spelled t.is_due;
      is_at = t.is_at;
      turn_is = t.turn_is;
      spelled = t.spelled;
      alone = t.alone;
      kind_is = t.kind_is;
      text = t.text;
      line = t.line;
      put = t.put;
    }

    pub again : (at_end : Type 0) (n n' pieces : ℕ) (q : Result Turn (Stop BothEnds)) → Told at_end n n' pieces takes sink_failures (whose.Side false) turn kind (byte ∷ xs) c s q kind' kept' c' s' → Told at_end n n' pieces takes sink_failures (whose.Reply r) turn kind (byte ∷ xs) c s q kind' kept' c' s'
    again at_end n n' pieces (Ok turn') t = (t.0, told_again turn' t.0 t.1, t.2, t.3)
    again at_end n n' pieces (Err stop.Memory) t = t
    again at_end n n' pieces (Err stop.SourceFailed) t = t
    again at_end n n' pieces (Err stop.Endless) t = t
    again at_end n n' pieces (Err stop.SinkFailed) t = record {
      entry = t.entry;
      is_due = due_again xs t.begins.0 t.entry isnt (sym t.begins.1) t.is_due;
      is_at = t.is_at;
      begins = t.begins;
      text = t.text;
      line = t.line;
      fault = t.fault;
      put = t.put;
    }
    again at_end n n' pieces (Err (stop.Answer a)) t = absurd t

module _ {S K : Type 0} (gives : S → List ℕ → S → Type 0) (failures : S → ℕ) (has_ended : S → Type 0) (takes : K → List ℕ → K → Type 0) (sink_failures : K → ℕ) (r : Encryption) (turn : Turn) (kind : NextFrame) (source : S) (c : List ℕ) (s : K) where
  abbrev pub Tells_reply : List ℕ → Result Turn (Stop BothEnds) → NextFrame → List ℕ → S → List ℕ → K → Type 0
  Tells_reply kept q kind' kept' source' c' s' = Tells gives failures has_ended takes sink_failures (whose.Reply r) turn kind kept source c s q kind' kept' source' c' s'

  module _ (byte : ℕ) where
    -- it is an answer
    pub tell_reply : is_reply r byte ≡ true → (kept' : List ℕ) → kept' ≡ [] → (q : Result Turn (Stop BothEnds)) (c' : List ℕ) (s' : K) → TellsEntry takes sink_failures turn c s (Reply byte) q c' s' → Tells_reply (byte ∷ []) q kind kept' source c' s'
    tell_reply does kept' none q c' s' t = ([], refl, by_result q t)
      where
        by_result : (p : Result Turn (Stop BothEnds)) → TellsEntry takes sink_failures turn c s (Reply byte) p c' s' → Told (has_ended source) (failures source) (failures source) 0 takes sink_failures (whose.Reply r) turn kind (byte ∷ []) c s p kind kept' c' s'
        by_result (Ok turn') p = (
          Reply byte,
          record {
            is_due = does;
            is_at = tt;
            turn_is = p.0;
            spelled = ap (λ (l : List ℕ). byte ∷ l) (sym none);
            alone = none;
            kind_is = refl;
            text = p.1.0;
            line = p.1.1;
            put = p.1.2;
          },
          tt,
          refl,
        )
        by_result (Err stop.Memory) p = (refl, p.0, p.1)
        by_result (Err stop.SinkFailed) p = record {
          entry = Reply byte;
          is_due = does;
          is_at = tt;
          begins = ([], refl);
          text = p.0;
          line = p.1;
          fault = p.2;
          put = p.3;
        }
        by_result (Err stop.SourceFailed) p = absurd p
        by_result (Err stop.Endless) p = absurd p
        by_result (Err (stop.Answer a)) p = absurd p

    -- it is none, and was kept
    pub tell_again : is_reply r byte ≡ false → (q : Result Turn (Stop BothEnds)) (kind' : NextFrame) (kept' : List ℕ) (source' : S) (c' : List ℕ) (s' : K) → Tells gives failures has_ended takes sink_failures (whose.Side false) turn kind (byte ∷ []) source c s q kind' kept' source' c' s' → Tells_reply (byte ∷ []) q kind' kept' source' c' s'
    tell_again isnt q kind' kept' source' c' s' t = (t.0, t.1, again takes sink_failures r turn c s byte kind (concat t.0) kind' kept' c' s' isnt (has_ended source') (failures source) (failures source') (length t.0) q t.2)

    pub tell_pushed : is_reply r byte ≡ false → (old new : FramesState) (piece : List ℕ) → old.next ≡ kind → old.kept ≡ [] → piece ≡ byte ∷ [] → new ≡ record old { kept = old.kept ++ piece; held = [] } → (q : Result Turn (Stop BothEnds)) (kind' : NextFrame) (kept' : List ℕ) (source' : S) (c' : List ℕ) (s' : K)
        → Tells gives failures has_ended takes sink_failures (whose.Side false) turn new.next new.kept source c s q kind' kept' source' c' s' → Tells_reply (byte ∷ []) q kind' kept' source' c' s'
    tell_pushed isnt old new piece is_kind none is_piece pushed q kind' kept' source' c' s' t =
        let kept : new.kept ≡ byte ∷ [] = ap (λ (f : FramesState). f.kept) pushed ∙ ap (λ (l : List ℕ). l ++ piece) none ∙ is_piece in
        let n : new.next ≡ kind = ap (λ (f : FramesState). f.next) pushed ∙ is_kind in
        let there : Tells gives failures has_ended takes sink_failures (whose.Side false) turn kind (byte ∷ []) source c s q kind' kept' source' c' s' = subst (λ (m : NextFrame). Tells gives failures has_ended takes sink_failures (whose.Side false) turn m (byte ∷ []) source c s q kind' kept' source' c' s') n (subst (λ (l : List ℕ). Tells gives failures has_ended takes sink_failures (whose.Side false) turn new.next l source c s q kind' kept' source' c' s') kept t) in
        tell_again isnt q kind' kept' source' c' s' there

    -- memory for it was refused
    pub tell_refused : (kind' : NextFrame) (kept' : List ℕ) → Tells_reply (byte ∷ []) (Err stop.Memory) kind' kept' source c s
    tell_refused kind' kept' = ([], refl, (refl, refl, refl))

  -- the byte was received, after which more came
  module _ (kept : List ℕ) (none : kept ≡ []) (piece : List ℕ) (mid : S) (p : gives source piece mid) where
    pub told_after : (byte : ℕ) → piece ≡ byte ∷ [] → failures mid ≡ failures source → (q : Result Turn (Stop BothEnds)) (kind' : NextFrame) (kept' : List ℕ) (source' : S) (c' : List ℕ) (s' : K)
        → Tells gives failures has_ended takes sink_failures (whose.Reply r) turn kind (byte ∷ []) mid c s q kind' kept' source' c' s' → Tells_reply kept q kind' kept' source' c' s'
    told_after byte is same q kind' kept' source' c' s' t = (piece ∷ t.0, (mid, p, t.1), by_result q t.2)
      where
        bytes : kept ++ concat (piece ∷ t.0) ≡ (byte ∷ []) ++ concat t.0
        bytes = ap (λ (l : List ℕ). l ++ concat (piece ∷ t.0)) none ∙ ap (λ (l : List ℕ). l ++ concat t.0) is

        by_result : (a : Result Turn (Stop BothEnds)) → Told (has_ended source') (failures mid) (failures source') (length t.0) takes sink_failures (whose.Reply r) turn kind ((byte ∷ []) ++ concat t.0) c s a kind' kept' c' s'
            → Told (has_ended source') (failures source) (failures source') (length (piece ∷ t.0)) takes sink_failures (whose.Reply r) turn kind (kept ++ concat (piece ∷ t.0)) c s a kind' kept' c' s'
        by_result (Ok turn') u = (u.0, subst (λ (l : List ℕ). IsTold takes sink_failures (whose.Reply r) turn kind l c s turn' kind' kept' c' s' u.0) (sym bytes) u.1, u.2, u.3 ∙ same)
        by_result (Err stop.Memory) u = (u.0 ∙ same, u.1, u.2)
        by_result (Err stop.SourceFailed) u = (subst (λ (n : ℕ). HasRisen n (failures source')) same u.0, u.1, u.2)
        by_result (Err stop.Endless) u = (omega (arith, u.0), u.1, u.2)
        by_result (Err stop.SinkFailed) u = subst (λ (l : List ℕ). BreaksAt takes sink_failures (whose.Reply r) kind l c s c' s') (sym bytes) u
        by_result (Err (stop.Answer a)) u = absurd u

    -- there was none
    pub told_none : kind ≡ next.Message → piece ≡ [] → has_ended mid → failures mid ≡ failures source → (turn' : Turn) → turn' ≡ ended_by turn false ending.Whole → (kept' : List ℕ) → Tells_reply kept (Ok turn') kind kept' mid c s
    told_none is_message is at_end same turn' turn_is kept' = (
      piece ∷ [],
      (mid, p, refl),
      (
        End false ending.Whole [],
        record {
          is_due = (refl, refl);
          is_at = subst (λ (m : NextFrame). IsAt m (End false ending.Whole [])) (sym is_message) (refl, λ size whole. cc);
          turn_is = turn_is;
          spelled = ap (λ (l : List ℕ). l ++ concat (piece ∷ [])) none ∙ ap (λ (l : List ℕ). l ++ []) is;
          alone = tt;
          kind_is = refl;
          text = [];
          line = refl;
          put = puts_none takes sink_failures c s;
        },
        at_end,
        same,
      ),
    )

    pub told_failed : HasRisen (failures source) (failures mid) → (kept' : List ℕ) → Tells_reply kept (Err stop.SourceFailed) kind kept' mid c s
    told_failed risen kept' = (piece ∷ [], (mid, p, refl), (risen, refl, refl))

    pub told_by_byte : (w : Stop BothEnds) (kept' : List ℕ) → ReceivedByte (has_ended mid) (failures source) (failures mid) piece (Err w) → Tells_reply kept (Err w) kind kept' mid c s
    told_by_byte stop.SourceFailed kept' b = told_failed b kept'
    told_by_byte stop.Memory kept' b = absurd b
    told_by_byte stop.SinkFailed kept' b = absurd b
    told_by_byte stop.Endless kept' b = absurd b
    told_by_byte (stop.Answer a) kept' b = absurd b
