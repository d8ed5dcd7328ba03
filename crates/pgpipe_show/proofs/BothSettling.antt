-- What stands once all is sent.
use Rattle.std.proofs.Common.{◌≡◌, ℕ, ◌≤◌, true, false, List, [], ◌++◌, length, Option, Some, Result, Ok, Err, refl, sym, ap, subst, ◌∙◌, ◌⊎◌, inl, inr, append-nil}
use Rattle.std.specs.List.{FoldsTo, concat}
use Rattle.pg_wire.specs.declared.link.LinkFault.{LinkFault}
use Rattle.pg_wire.specs.Link.{HasRisen}
use Rattle.pgpipe_base.specs.declared.fault.ToolFault.{ToolFault}
use Rattle.pgpipe_base.specs.declared.fault.ToolFault.TheVariants as fault
use Rattle.pgpipe_base.specs.declared.stop.Stop.{Stop}
use Rattle.pgpipe_base.specs.declared.stop.Stop.TheVariants as stop
use Rattle.pgpipe_base.specs.Outbox.{Puts}
use Rattle.pgpipe_base.specs.Receiving.{most_receives}
use Rattle.pgpipe_base.specs.Stop.{Settles, answer_of}
use Rattle.pgpipe_base.proofs.Pieces.{puts_then}
use Rattle.pgpipe_frames.specs.declared.next.NextFrame.TheVariants as next
use Rattle.pgpipe_show.specs.declared.both.turn.Ended.{Ended}
use Rattle.pgpipe_show.specs.declared.both.turn.Ended.TheVariants as ending
use Rattle.pgpipe_show.specs.declared.both.turn.BothEnds.{BothEnds}
use Rattle.pgpipe_show.specs.Both.{AreAll, AreAllShown, AreShown, HasStopped, ShowsBoth, most_entries}
use Rattle.pgpipe_show.specs.Entries.{AreEntryLines, said}
use Rattle.pgpipe_show.specs.Turn.{first_turn}
use Rattle.pgpipe_show.specs.Private.Telling.{Halted, IsSourceAtEnd, Stops, unread}
use Rattle.pgpipe_show.proofs.Orders.{both_ended}
use mathlib.Core.List.{IsPrefix}

-- a stream whose end is known has no bytes but those of its entries, unless it goes on encrypted
all_read : (how : Ended) (entry_bytes kept bytes : List ℕ) → bytes ≡ entry_bytes ++ unread (Some how) kept → AreAll how entry_bytes bytes
all_read ending.Whole entry_bytes kept bytes e = e ∙ append-nil entry_bytes
all_read (ending.Rest n) entry_bytes kept bytes e = e ∙ append-nil entry_bytes
all_read (ending.Fault f) entry_bytes kept bytes e = e ∙ append-nil entry_bytes
all_read ending.Canceled entry_bytes kept bytes e = e ∙ append-nil entry_bytes
all_read ending.Encrypted entry_bytes kept bytes e = (kept, sym e)

-- what was put was sent
sent_all : {K : Type 0} (takes : K → List ℕ → K → Type 0) (kf : K → ℕ) (k0 : K) (text c : List ℕ) (s s' : K) (p : Puts {A = Unit {0}} takes kf [] k0 text (Ok tt) c s) → Puts {A = Unit {0}} takes kf c s [] (Ok tt) [] s' → (pieces : List (List ℕ)) × FoldsTo takes k0 pieces s' × (text ≡ concat pieces) × (kf s' ≡ kf k0)
sent_all takes kf k0 text c s s' p q =
    let all = puts_then takes kf [] k0 text c s [] (Ok tt) [] s' p q in
    (all.pieces, all.calls, sym (append-nil text) ∙ all.sent ∙ append-nil (concat all.pieces), all.counted)

module _ {F B K : Type 0} (fg : F → List ℕ → F → Type 0) (ff : F → ℕ) (fe : F → Type 0) (bg : B → List ℕ → B → Type 0) (bf : B → ℕ) (be : B → Type 0) (takes : K → List ℕ → K → Type 0) (kf : K → ℕ) (f0 : F) (b0 : B) (k0 : K) where
  abbrev pub Shows : Result BothEnds ToolFault → F → B → K → Type 0
  Shows r f b s = ShowsBoth fg ff fe bg bf be takes kf f0 b0 k0 r f b s

  none_shown : AreShown [] [] []
  none_shown = record { entries = []; turn = first_turn; last = next.Packet; in_turn = (refl, refl); front_begins = ([], refl); back_begins = ([], refl); lines = refl }

  -- no memory for a beginning
  pub nothing_shown : Shows (Err fault.Memory) f0 b0 k0
  nothing_shown = record {
    came = [];
    answered = [];
    sent = [];
    front_received = refl;
    back_received = refl;
    was_sent = refl;
    answers = none_shown;
    ended = tt;
    front_counts = refl;
    back_counts = refl;
    sink_counts = refl;
  }

  -- the lines that were put
  shown_of : (result : Result Unit LinkFault) (f : F) (b : B) (c : List ℕ) (s : K) (h : Halted fg bg takes kf f0 b0 k0 result f b c s) → AreShown (concat h.front_came.pieces) (concat h.back_came.pieces) h.text
  shown_of result f b c s h = record {
    entries = h.entries;
    turn = h.turn;
    last = h.last;
    in_turn = h.in_turn;
    front_begins = h.front_came.begins;
    back_begins = h.back_came.begins;
    lines = h.lines;
  }

  module _ (f : F) (b : B) (c : List ℕ) (s s' : K) where
    -- ---- all was sent

    answered : (ends : BothEnds) → Stops fg ff fe bg bf be takes kf f0 b0 k0 (stop.Answer ends) f b c s → Puts {A = Unit {0}} takes kf c s [] (Ok tt) [] s' → Shows (Ok ends) f b s'
    answered ends h p =
        let st = h.6 in
        let turn = h.1 in
        let over = both_ended turn.stage turn.front turn.back ends h.7 in
        let w = sent_all takes kf k0 st.text c s s' st.put p in
        let all : AreAllShown (concat st.front_read.pieces) (concat st.back_read.pieces) (concat w.0) ends = record {
          entries = st.entries;
          turn = turn;
          last = h.2;
          in_turn = st.in_turn;
          over = h.7;
          front_is = all_read ends.front (said true st.entries) h.3 (concat st.front_read.pieces) (st.front_read.bytes ∙ ap (λ (o : Option Ended). said true st.entries ++ unread o h.3) over.0);
          back_is = all_read ends.back (said false st.entries) h.5 (concat st.back_read.pieces) (st.back_read.bytes ∙ ap (λ (o : Option Ended). said false st.entries ++ unread o h.5) over.1);
          lines = subst (λ (t : List ℕ). AreEntryLines st.entries t) w.2 st.lines;
        } in
        record {
          came = st.front_read.pieces;
          answered = st.back_read.pieces;
          sent = w.0;
          front_received = st.front_read.received;
          back_received = st.back_read.received;
          was_sent = w.1;
          answers = all;
          ended = (subst (λ (o : Option Ended). IsSourceAtEnd (fe f) o) over.0 st.front_end, subst (λ (o : Option Ended). IsSourceAtEnd (be b) o) over.1 st.back_end);
          front_counts = st.front_read.sound;
          back_counts = st.back_read.sound;
          sink_counts = w.3;
        }

    -- what was put before the work stopped
    module _ (h : Halted fg bg takes kf f0 b0 k0 (Ok tt) f b c s) (p : Puts {A = Unit {0}} takes kf c s [] (Ok tt) [] s') where
      abbrev went : (pieces : List (List ℕ)) × FoldsTo takes k0 pieces s' × (h.text ≡ concat pieces) × (kf s' ≡ kf k0)
      went = sent_all takes kf k0 h.text c s s' h.put p

      abbrev shown : AreShown (concat h.front_came.pieces) (concat h.back_came.pieces) (concat went.0)
      shown = record {
        entries = h.entries;
        turn = h.turn;
        last = h.last;
        in_turn = h.in_turn;
        front_begins = h.front_came.begins;
        back_begins = h.back_came.begins;
        lines = subst (λ (t : List ℕ). AreEntryLines h.entries t) went.2 h.lines;
      }

      memory : ff f ≡ ff f0 → bf b ≡ bf b0 → Shows (Err fault.Memory) f b s'
      memory front back = record {
        came = h.front_came.pieces;
        answered = h.back_came.pieces;
        sent = went.0;
        front_received = h.front_came.received;
        back_received = h.back_came.received;
        was_sent = went.1;
        answers = shown;
        ended = tt;
        front_counts = front;
        back_counts = back;
        sink_counts = went.3;
      }

      stopped : (HasStopped (ff f0) (ff f) h.front_came.pieces ⊎ HasStopped (bf b0) (bf b) h.back_came.pieces) ⊎ (most_entries ≤ length h.entries) → Shows (Err fault.Device) f b s'
      stopped why = record {
        came = h.front_came.pieces;
        answered = h.back_came.pieces;
        sent = went.0;
        front_received = h.front_came.received;
        back_received = h.back_came.received;
        was_sent = went.1;
        answers = inr (shown, why);
        ended = tt;
        front_counts = tt;
        back_counts = tt;
        sink_counts = tt;
      }

    failed : HasRisen (ff f0) (ff f) ⊎ HasRisen (bf b0) (bf b) → (h : Halted fg bg takes kf f0 b0 k0 (Ok tt) f b c s) → (HasStopped (ff f0) (ff f) h.front_came.pieces ⊎ HasStopped (bf b0) (bf b) h.back_came.pieces) ⊎ (most_entries ≤ length h.entries)
    failed (inl front) h = inl (inl (inl front))
    failed (inr back) h = inl (inr (inl back))

    endless : (h : Halted fg bg takes kf f0 b0 k0 (Ok tt) f b c s) → (most_receives ≤ length h.front_came.pieces) ⊎ ((most_receives ≤ length h.back_came.pieces) ⊎ (most_entries ≤ length h.entries))
        → (HasStopped (ff f0) (ff f) h.front_came.pieces ⊎ HasStopped (bf b0) (bf b) h.back_came.pieces) ⊎ (most_entries ≤ length h.entries)
    endless h (inl front) = inl (inl (inr front))
    endless h (inr (inl back)) = inl (inr (inr back))
    endless h (inr (inr many)) = inr many

    pub settled : (w : Stop BothEnds) → Stops fg ff fe bg bf be takes kf f0 b0 k0 w f b c s → Settles takes kf w c s (Ok tt) s' → Shows (answer_of w) f b s'
    settled (stop.Answer ends) h p = answered ends h p
    settled stop.Memory h p = memory h.0 p h.1 h.2
    settled stop.SourceFailed h p = stopped h.0 p (failed h.1 h.0)
    settled stop.Endless h p = stopped h.0 p (endless h.0 h.1)
    settled stop.SinkFailed h p = absurd cc

    -- ---- the sink failed

    partly : (result : Result Unit LinkFault) (h : Halted fg bg takes kf f0 b0 k0 result f b c s) (pieces : List (List ℕ)) → FoldsTo takes k0 pieces s' → IsPrefix (concat pieces) h.text → HasRisen (kf k0) (kf s') → Shows (Err fault.Device) f b s'
    partly result h pieces r begins risen = record {
      came = h.front_came.pieces;
      answered = h.back_came.pieces;
      sent = pieces;
      front_received = h.front_came.received;
      back_received = h.back_came.received;
      was_sent = r;
      answers = inl (risen, (h.text, shown_of result f b c s h, begins));
      ended = tt;
      front_counts = tt;
      back_counts = tt;
      sink_counts = tt;
    }

    -- as what was left was sent
    late : (h : Halted fg bg takes kf f0 b0 k0 (Ok tt) f b c s) (x : LinkFault) → Puts {A = Unit {0}} takes kf c s [] (Err x) [] s' → Shows (Err fault.Device) f b s'
    late h x p =
        let all = puts_then takes kf [] k0 h.text c s [] (Err x) [] s' h.put p in
        partly (Ok tt) h all.pieces all.calls (all.sent.0, all.sent.1 ∙ append-nil h.text) all.counted

    standing : (ends : BothEnds) → Stops fg ff fe bg bf be takes kf f0 b0 k0 (stop.Answer ends) f b c s → Halted fg bg takes kf f0 b0 k0 (Ok tt) f b c s
    standing ends h =
        let st = h.6 in
        record {
          entries = st.entries;
          turn = h.1;
          last = h.2;
          in_turn = st.in_turn;
          front_came = record { pieces = st.front_read.pieces; received = st.front_read.received; begins = (unread h.1.front h.3, sym st.front_read.bytes) };
          back_came = record { pieces = st.back_read.pieces; received = st.back_read.received; begins = (unread h.1.back h.5, sym st.back_read.bytes) };
          text = st.text;
          lines = st.lines;
          put = st.put;
        }

    pub unsettled : (w : Stop BothEnds) → Stops fg ff fe bg bf be takes kf f0 b0 k0 w f b c s → (x : LinkFault) → Settles takes kf w c s (Err x) s' → Shows (Err fault.Device) f b s'
    unsettled (stop.Answer ends) h x p = late (standing ends h) x p
    unsettled stop.Memory h x p = late h.0 x p
    unsettled stop.SourceFailed h x p = late h.0 x p
    unsettled stop.Endless h x p = late h.0 x p
    unsettled stop.SinkFailed h x p = subst (λ (k : K). Shows (Err fault.Device) f b k) (sym p.1) (broken h.0 h.1)
      where
        broken : (y : LinkFault) → Halted fg bg takes kf f0 b0 k0 (Err y) f b c s → Shows (Err fault.Device) f b s
        broken y g = record {
          came = g.front_came.pieces;
          answered = g.back_came.pieces;
          sent = g.put.pieces;
          front_received = g.front_came.received;
          back_received = g.back_came.received;
          was_sent = g.put.calls;
          answers = inl (g.put.counted, (g.text, shown_of (Err y) f b c s g, g.put.sent));
          ended = tt;
          front_counts = tt;
          back_counts = tt;
          sink_counts = tt;
        }
