-- How both streams go on, entry by entry.
use Rattle.std.proofs.Common.{◌≡◌, ℕ, ◌+◌, ◌≤◌, true, false, List, [], ◌∷◌, ◌++◌, length, length-append, Option, None, Result, Ok, Err, refl, sym, ap, subst, ◌∙◌, inl, inr, append_assoc, arith}
use Rattle.std.specs.List.{FoldsTo, concat}
use Rattle.std.proofs.lemmas.List.Folds.{concat-append}
use Rattle.pg_wire.specs.Link.{HasRisen}
use Rattle.pgpipe_base.specs.declared.stop.Stop.{Stop}
use Rattle.pgpipe_base.specs.declared.stop.Stop.TheVariants as stop
use Rattle.pgpipe_base.specs.Outbox.{Puts}
use Rattle.pgpipe_base.specs.Receiving.{most_receives}
use Rattle.pgpipe_base.proofs.Pieces.{FoldsTo-append, puts_none, puts_then}
use Rattle.pgpipe_frames.specs.declared.next.NextFrame.{NextFrame}
use Rattle.pgpipe_frames.specs.declared.next.NextFrame.TheVariants as next
use Rattle.pgpipe_show.specs.declared.both.turn.Due.{Due}
use Rattle.pgpipe_show.specs.declared.both.turn.Due.TheVariants as whose
use Rattle.pgpipe_show.specs.declared.both.turn.Encryption.{Encryption}
use Rattle.pgpipe_show.specs.declared.both.turn.Ended.{Ended}
use Rattle.pgpipe_show.specs.declared.both.turn.BothEnds.{BothEnds}
use Rattle.pgpipe_show.specs.declared.both.turn.Turn.{Turn}
use Rattle.pgpipe_show.specs.Both.{most_entries}
use Rattle.pgpipe_show.specs.Entries.{Entry, AreInTurn, IsAt, IsDue, kind_at, next_for, said, side_of, spelling, turn_after}
use Rattle.pgpipe_show.specs.Turn.{due, first_turn}
use Rattle.pgpipe_show.specs.Private.Telling.{BreaksAt, Halted, HasCome, HasRead, IsEnding, IsSourceAtEnd, IsTold, Stands, StepTells, Stops, Tells, left_after, unread}
use Rattle.pgpipe_show.proofs.Orders.{in_turn_more, lines_more, said_own, front_same, back_same, side_due, reply_due, front_open, back_open, reply_open, front_left, back_left, back_stays, front_stays, front_ends, back_ends, front_keeps, front_untouched, back_untouched, front_next, back_next, message_next, front_at, back_at}
use mathlib.Core.List.{IsPrefix}

-- ---- one stream

moved : (P N : List (List ℕ)) (before kept x kept' : List ℕ) → concat P ≡ before ++ kept → kept ++ concat N ≡ x ++ kept' → concat (P ++ N) ≡ (before ++ x) ++ kept'
moved P N before kept x kept' p q =
    concat-append P N ∙ ap (λ (l : List ℕ). l ++ concat N) p ∙ append_assoc before kept (concat N) ∙ ap (λ (l : List ℕ). before ++ l) q ∙ sym (append_assoc before x kept')

module _ {S : Type 0} (gives : S → List ℕ → S → Type 0) (failures : S → ℕ) (start : S) (before : List ℕ) (how : Option Ended) (kept : List ℕ) (source : S) (h : HasRead gives failures start before how kept source) where
  -- more pieces came, and an entry of the stream was put
  read_on : (pieces : List (List ℕ)) (source' : S) (x left : List ℕ) (how' : Option Ended) (kept' after' : List ℕ) → how ≡ None → FoldsTo gives source pieces source' → failures source' ≡ failures source → kept ++ concat pieces ≡ x ++ left → unread how' kept' ≡ left → after' ≡ before ++ x
      → HasRead gives failures start after' how' kept' source'
  read_on pieces source' x left how' kept' after' free r same e u is = record {
    pieces = h.pieces ++ pieces;
    received = FoldsTo-append gives start h.pieces pieces source source' h.received r;
    sound = same ∙ h.sound;
    bytes = moved h.pieces pieces before kept x left (h.bytes ∙ ap (λ (o : Option Ended). before ++ unread o kept) free) e ∙ ap (λ (l : List ℕ). (before ++ x) ++ l) (sym u) ∙ ap (λ (l : List ℕ). l ++ unread how' kept') (sym is);
  }

  -- an entry of the other was put
  read_same : (how' : Option Ended) (after' : List ℕ) → unread how' kept ≡ unread how kept → after' ≡ before → HasRead gives failures start after' how' kept source
  read_same how' after' u is = record {
    pieces = h.pieces;
    received = h.received;
    sound = h.sound;
    bytes = h.bytes ∙ ap (λ (l : List ℕ). before ++ l) (sym u) ∙ ap (λ (l : List ℕ). l ++ unread how' kept) (sym is);
  }

  -- more pieces came, of which no entry was put
  abbrev come_on : (pieces : List (List ℕ)) (source' : S) → FoldsTo gives source pieces source' → HasCome gives start before source'
  come_on pieces source' r = record {
    pieces = h.pieces ++ pieces;
    received = FoldsTo-append gives start h.pieces pieces source source' h.received r;
    begins = (unread how kept ++ concat pieces, sym (append_assoc before (unread how kept) (concat pieces)) ∙ ap (λ (l : List ℕ). l ++ concat pieces) (sym h.bytes) ∙ sym (concat-append h.pieces pieces));
  }

  -- and one was begun
  come_within : (pieces : List (List ℕ)) (source' : S) (x after' : List ℕ) → how ≡ None → FoldsTo gives source pieces source' → IsPrefix x (kept ++ concat pieces) → after' ≡ before ++ x → HasCome gives start after' source'
  come_within pieces source' x after' free r b is = record {
    pieces = h.pieces ++ pieces;
    received = FoldsTo-append gives start h.pieces pieces source source' h.received r;
    begins = (b.0, ap (λ (l : List ℕ). l ++ b.0) is ∙ sym (moved h.pieces pieces before kept x b.0 (h.bytes ∙ ap (λ (o : Option Ended). before ++ unread o kept) free) (sym b.1)));
  }

  come_same : (after' : List ℕ) → after' ≡ before → HasCome gives start after' source
  come_same after' is = record {
    pieces = h.pieces;
    received = h.received;
    begins = (unread how kept, ap (λ (l : List ℕ). l ++ unread how kept) is ∙ sym h.bytes);
  }

many_more : {A : Type 0} (xs ys : List A) (n : ℕ) → n ≤ length ys → n ≤ length (xs ++ ys)
many_more xs ys n many = omega (arith, many, length-append xs ys)

-- ---- both streams

module _ {F B K : Type 0} (fg : F → List ℕ → F → Type 0) (ff : F → ℕ) (fe : F → Type 0) (bg : B → List ℕ → B → Type 0) (bf : B → ℕ) (be : B → Type 0) (takes : K → List ℕ → K → Type 0) (kf : K → ℕ) (f0 : F) (b0 : B) (k0 : K) where
  abbrev pub At : ℕ → Turn → NextFrame → List ℕ → F → NextFrame → List ℕ → B → List ℕ → K → Type 0
  At count turn fn fk f bn bk b c s = Stands fg ff fe bg bf be takes kf f0 b0 k0 count turn fn fk f bn bk b c s

  abbrev pub Leads : ℕ → Result Turn (Stop BothEnds) → NextFrame → List ℕ → F → NextFrame → List ℕ → B → List ℕ → K → Type 0
  Leads count r fn fk f bn bk b c s = StepTells fg ff fe bg bf be takes kf f0 b0 k0 count r fn fk f bn bk b c s

  abbrev pub Halt : Stop BothEnds → F → B → List ℕ → K → Type 0
  Halt w f b c s = Stops fg ff fe bg bf be takes kf f0 b0 k0 w f b c s

  -- nothing was put
  pub stands_first : At 0 first_turn next.Packet [] f0 next.Message [] b0 [] k0
  stands_first = record {
    entries = [];
    counted = refl;
    in_turn = (refl, refl);
    front_read = record { pieces = []; received = refl; sound = refl; bytes = refl };
    back_read = record { pieces = []; received = refl; sound = refl; bytes = refl };
    front_end = tt;
    back_end = tt;
    back_is = refl;
    untouched = refl;
    text = [];
    lines = refl;
    put = puts_none takes kf [] k0;
  }

  module _ (count : ℕ) (turn : Turn) (fn : NextFrame) (fk : List ℕ) (f : F) (bn : NextFrame) (bk : List ℕ) (b : B) (c : List ℕ) (s : K) (st : At count turn fn fk f bn bk b c s) where
    -- one entry more
    abbrev entries' : Entry → List Entry
    entries' x = st.entries ++ x ∷ []

    counted' : (x : Entry) → length (entries' x) ≡ count + 1
    counted' x = length-append st.entries (x ∷ []) ∙ ap (λ (n : ℕ). n + 1) st.counted

    in_turn' : (d : Due) (x : Entry) → due turn ≡ d → IsDue d x → IsAt (kind_at (side_of x) fn) x → AreInTurn first_turn next.Packet (entries' x) (turn_after turn x) (next_for fn x)
    in_turn' d x e is at = in_turn_more first_turn next.Packet st.entries turn fn x st.in_turn (subst (λ (z : Due). IsDue z x) (sym e) is) at

    put' : (text c' : List ℕ) (s' : K) → Puts {A = Unit {0}} takes kf c s text (Ok tt) c' s' → Puts {A = Unit {0}} takes kf [] k0 (st.text ++ text) (Ok tt) c' s'
    put' text c' s' p = puts_then takes kf [] k0 st.text c s text (Ok tt) c' s' st.put p

    -- the work stops before an entry
    abbrev halted : (f' : F) (b' : B) (fc : HasCome fg f0 (said true st.entries) f') (bc : HasCome bg b0 (said false st.entries) b') → Halted fg bg takes kf f0 b0 k0 (Ok tt) f' b' c s
    halted f' b' fc bc = record {
      entries = st.entries;
      turn = turn;
      last = fn;
      in_turn = st.in_turn;
      front_came = fc;
      back_came = bc;
      text = st.text;
      lines = st.lines;
      put = st.put;
    }

    back_still : HasCome bg b0 (said false st.entries) b
    back_still = come_same bg bf b0 (said false st.entries) turn.back bk b st.back_read (said false st.entries) refl

    front_still : HasCome fg f0 (said true st.entries) f
    front_still = come_same fg ff f0 (said true st.entries) turn.front fk f st.front_read (said true st.entries) refl

    -- both have ended
    pub stand_over : (ends : BothEnds) → due turn ≡ whose.Nobody ends → Halt (stop.Answer ends) f b c s
    stand_over ends e = (count, turn, fn, fk, bn, bk, st, e)

    -- more entries came than are put
    pub stand_endless : most_entries ≤ count → Halt stop.Endless f b c s
    stand_endless many = (halted f b front_still back_still, inr (inr (subst (λ (n : ℕ). most_entries ≤ n) (sym st.counted) many)))

    -- ---- an entry of the client

    module _ (e : due turn ≡ whose.Side true) (fn' : NextFrame) (fk' : List ℕ) (f' : F) (c' : List ℕ) (s' : K) where
      front_free : turn.front ≡ None
      front_free = front_open turn.stage turn.front turn.back e

      front_told : (pieces : List (List ℕ)) → FoldsTo fg f pieces f' → (turn' : Turn) (x : Entry) → IsTold takes kf (whose.Side true) turn fn (fk ++ concat pieces) c s turn' fn' fk' c' s' x → IsEnding (fe f') x → ff f' ≡ ff f → At (count + 1) turn' fn' fk' f' bn bk b c' s'
      front_told pieces r turn' x t ended same =
          let side : side_of x ≡ true = side_due true x t.is_due in
          let n : fn' ≡ next_for fn x = t.kind_is ∙ front_next fn x side in
          let made : At (count + 1) (turn_after turn x) (next_for fn x) fk' f' bn bk b c' s' = record {
            entries = entries' x;
            counted = counted' x;
            in_turn = in_turn' (whose.Side true) x e t.is_due (front_at fn x side t.is_at);
            front_read = read_on fg ff f0 (said true st.entries) turn.front fk f st.front_read pieces f' (spelling x) (left_after x fk') (turn_after turn x).front fk' (said true (entries' x)) front_free r same t.spelled (front_left turn x fn fk' front_free side t.is_at) (said_own true st.entries x side);
            back_read = read_same bg bf b0 (said false st.entries) turn.back bk b st.back_read (turn_after turn x).back (said false (entries' x)) (ap (λ (o : Option Ended). unread o bk) (back_stays turn x side)) (back_same st.entries x side);
            front_end = front_ends (fe f') turn x front_free side ended;
            back_end = subst (λ (o : Option Ended). IsSourceAtEnd (be b) o) (sym (back_stays turn x side)) st.back_end;
            back_is = st.back_is;
            untouched = front_untouched turn x bk side st.untouched;
            text = st.text ++ t.text;
            lines = lines_more st.entries x st.text t.text st.lines t.line;
            put = put' t.text c' s' t.put;
          } in
          subst (λ (z : Turn). At (count + 1) z fn' fk' f' bn bk b c' s') (sym t.turn_is) (subst (λ (m : NextFrame). At (count + 1) (turn_after turn x) m fk' f' bn bk b c' s') (sym n) made)

      front_breaks : (pieces : List (List ℕ)) → FoldsTo fg f pieces f' → BreaksAt takes kf (whose.Side true) fn (fk ++ concat pieces) c s c' s' → Halt stop.SinkFailed f' b c' s'
      front_breaks pieces r t =
          let x = t.entry in
          let side : side_of x ≡ true = side_due true x t.is_due in (
            t.fault,
            record {
              entries = entries' x;
              turn = turn_after turn x;
              last = next_for fn x;
              in_turn = in_turn' (whose.Side true) x e t.is_due (front_at fn x side t.is_at);
              front_came = come_within fg ff f0 (said true st.entries) turn.front fk f st.front_read pieces f' (spelling x) (said true (entries' x)) front_free r t.begins (said_own true st.entries x side);
              back_came = come_same bg bf b0 (said false st.entries) turn.back bk b st.back_read (said false (entries' x)) (back_same st.entries x side);
              text = st.text ++ t.text;
              lines = lines_more st.entries x st.text t.text st.lines t.line;
              put = puts_then takes kf [] k0 st.text c s t.text (Err t.fault) c' s' st.put t.put;
            },
          )

      front_halts : (pieces : List (List ℕ)) → FoldsTo fg f pieces f' → c' ≡ c → s' ≡ s → Halted fg bg takes kf f0 b0 k0 (Ok tt) f' b c' s'
      front_halts pieces r ce se = subst (λ (z : List ℕ). Halted fg bg takes kf f0 b0 k0 (Ok tt) f' b z s') (sym ce) (subst (λ (z : K). Halted fg bg takes kf f0 b0 k0 (Ok tt) f' b c z) (sym se) (halted f' b (come_on fg ff f0 (said true st.entries) turn.front fk f st.front_read pieces f' r) back_still))

      front_endless : (pieces : List (List ℕ)) → FoldsTo fg f pieces f' → most_receives ≤ length pieces → c' ≡ c → s' ≡ s → Halt stop.Endless f' b c' s'
      front_endless pieces r many ce se =
          let here : Halt stop.Endless f' b c s = (halted f' b (come_on fg ff f0 (said true st.entries) turn.front fk f st.front_read pieces f' r) back_still, inl (many_more st.front_read.pieces pieces most_receives many)) in
          subst (λ (z : List ℕ). Halt stop.Endless f' b z s') (sym ce) (subst (λ (z : K). Halt stop.Endless f' b c z) (sym se) here)

      pub step_front : (q : Result Turn (Stop BothEnds)) → Tells fg ff fe takes kf (whose.Side true) turn fn fk f c s q fn' fk' f' c' s' → Leads count q fn' fk' f' bn bk b c' s'
      step_front (Ok turn') t = front_told t.0 t.1 turn' t.2.0 t.2.1 t.2.2 t.2.3
      step_front (Err stop.Memory) t = (front_halts t.0 t.1 t.2.1 t.2.2, t.2.0 ∙ st.front_read.sound, st.back_read.sound)
      step_front (Err stop.SourceFailed) t = (front_halts t.0 t.1 t.2.1 t.2.2, inl (subst (λ (n : ℕ). HasRisen n (ff f')) st.front_read.sound t.2.0))
      step_front (Err stop.Endless) t = front_endless t.0 t.1 t.2.0 t.2.1 t.2.2
      step_front (Err stop.SinkFailed) t = front_breaks t.0 t.1 t.2
      step_front (Err (stop.Answer a)) t = absurd t.2

    -- ---- an entry of the server

    module _ (d : Due) (e : due turn ≡ d) (back_free : turn.back ≡ None) (servers : (x : Entry) → IsDue d x → side_of x ≡ false) (bn' : NextFrame) (bk' : List ℕ) (b' : B) (c' : List ℕ) (s' : K) where
      back_told : (pieces : List (List ℕ)) → FoldsTo bg b pieces b' → (turn' : Turn) (x : Entry) → IsTold takes kf d turn bn (bk ++ concat pieces) c s turn' bn' bk' c' s' x → IsEnding (be b') x → bf b' ≡ bf b → At (count + 1) turn' fn fk f bn' bk' b' c' s'
      back_told pieces r turn' x t ended same =
          let side : side_of x ≡ false = servers x t.is_due in
          let n : fn ≡ next_for fn x = back_next fn x side in
          let made : At (count + 1) (turn_after turn x) (next_for fn x) fk f bn' bk' b' c' s' = record {
            entries = entries' x;
            counted = counted' x;
            in_turn = in_turn' d x e t.is_due (back_at fn bn x side st.back_is t.is_at);
            front_read = read_same fg ff f0 (said true st.entries) turn.front fk f st.front_read (turn_after turn x).front (said true (entries' x)) (front_stays turn x fk side) (front_same st.entries x side);
            back_read = read_on bg bf b0 (said false st.entries) turn.back bk b st.back_read pieces b' (spelling x) (left_after x bk') (turn_after turn x).back bk' (said false (entries' x)) back_free r same t.spelled (back_left turn x bn bk' back_free side t.is_at) (said_own false st.entries x side);
            front_end = front_keeps (fe f) turn x side st.front_end;
            back_end = back_ends (be b') turn x back_free side ended;
            back_is = t.kind_is ∙ message_next bn x st.back_is;
            untouched = back_untouched turn x bk' side t.alone;
            text = st.text ++ t.text;
            lines = lines_more st.entries x st.text t.text st.lines t.line;
            put = put' t.text c' s' t.put;
          } in
          subst (λ (z : Turn). At (count + 1) z fn fk f bn' bk' b' c' s') (sym t.turn_is) (subst (λ (m : NextFrame). At (count + 1) (turn_after turn x) m fk f bn' bk' b' c' s') (sym n) made)

      back_breaks : (pieces : List (List ℕ)) → FoldsTo bg b pieces b' → BreaksAt takes kf d bn (bk ++ concat pieces) c s c' s' → Halt stop.SinkFailed f b' c' s'
      back_breaks pieces r t =
          let x = t.entry in
          let side : side_of x ≡ false = servers x t.is_due in (
            t.fault,
            record {
              entries = entries' x;
              turn = turn_after turn x;
              last = next_for fn x;
              in_turn = in_turn' d x e t.is_due (back_at fn bn x side st.back_is t.is_at);
              front_came = come_same fg ff f0 (said true st.entries) turn.front fk f st.front_read (said true (entries' x)) (front_same st.entries x side);
              back_came = come_within bg bf b0 (said false st.entries) turn.back bk b st.back_read pieces b' (spelling x) (said false (entries' x)) back_free r t.begins (said_own false st.entries x side);
              text = st.text ++ t.text;
              lines = lines_more st.entries x st.text t.text st.lines t.line;
              put = puts_then takes kf [] k0 st.text c s t.text (Err t.fault) c' s' st.put t.put;
            },
          )

      back_halts : (pieces : List (List ℕ)) → FoldsTo bg b pieces b' → c' ≡ c → s' ≡ s → Halted fg bg takes kf f0 b0 k0 (Ok tt) f b' c' s'
      back_halts pieces r ce se = subst (λ (z : List ℕ). Halted fg bg takes kf f0 b0 k0 (Ok tt) f b' z s') (sym ce) (subst (λ (z : K). Halted fg bg takes kf f0 b0 k0 (Ok tt) f b' c z) (sym se) (halted f b' front_still (come_on bg bf b0 (said false st.entries) turn.back bk b st.back_read pieces b' r)))

      back_endless : (pieces : List (List ℕ)) → FoldsTo bg b pieces b' → most_receives ≤ length pieces → c' ≡ c → s' ≡ s → Halt stop.Endless f b' c' s'
      back_endless pieces r many ce se =
          let here : Halt stop.Endless f b' c s = (halted f b' front_still (come_on bg bf b0 (said false st.entries) turn.back bk b st.back_read pieces b' r), inr (inl (many_more st.back_read.pieces pieces most_receives many))) in
          subst (λ (z : List ℕ). Halt stop.Endless f b' z s') (sym ce) (subst (λ (z : K). Halt stop.Endless f b' c z) (sym se) here)

      step_server : (q : Result Turn (Stop BothEnds)) → Tells bg bf be takes kf d turn bn bk b c s q bn' bk' b' c' s' → Leads count q fn fk f bn' bk' b' c' s'
      step_server (Ok turn') t = back_told t.0 t.1 turn' t.2.0 t.2.1 t.2.2 t.2.3
      step_server (Err stop.Memory) t = (back_halts t.0 t.1 t.2.1 t.2.2, st.front_read.sound, t.2.0 ∙ st.back_read.sound)
      step_server (Err stop.SourceFailed) t = (back_halts t.0 t.1 t.2.1 t.2.2, inr (subst (λ (n : ℕ). HasRisen n (bf b')) st.back_read.sound t.2.0))
      step_server (Err stop.Endless) t = back_endless t.0 t.1 t.2.0 t.2.1 t.2.2
      step_server (Err stop.SinkFailed) t = back_breaks t.0 t.1 t.2
      step_server (Err (stop.Answer a)) t = absurd t.2

    pub step_back : due turn ≡ whose.Side false → (q : Result Turn (Stop BothEnds)) (bn' : NextFrame) (bk' : List ℕ) (b' : B) (c' : List ℕ) (s' : K) → Tells bg bf be takes kf (whose.Side false) turn bn bk b c s q bn' bk' b' c' s' → Leads count q fn fk f bn' bk' b' c' s'
    step_back e q bn' bk' b' c' s' t = step_server (whose.Side false) e (back_open turn.stage turn.front turn.back e) (λ x is. side_due false x is) bn' bk' b' c' s' q t

    pub step_reply : (r : Encryption) → due turn ≡ whose.Reply r → (q : Result Turn (Stop BothEnds)) (bn' : NextFrame) (bk' : List ℕ) (b' : B) (c' : List ℕ) (s' : K) → Tells bg bf be takes kf (whose.Reply r) turn bn bk b c s q bn' bk' b' c' s' → Leads count q fn fk f bn' bk' b' c' s'
    step_reply r e q bn' bk' b' c' s' t = step_server (whose.Reply r) e (reply_open turn.stage turn.front turn.back r e) (λ x is. reply_due r x is) bn' bk' b' c' s' q t
