-- What stands once all is sent.
use Rattle.std.proofs.Common.{◌≡◌, ℕ, ◌+◌, ◌≤◌, Bool, true, false, List, [], ◌∷◌, ◌++◌, Result, Ok, Err, refl, sym, ap, subst, ◌∙◌, inl, inr, append-nil, length, arith}
use Rattle.std.specs.List.{FoldsTo, concat}
use Rattle.pg_wire.specs.declared.link.LinkFault.{LinkFault}
use Rattle.pg_wire.specs.Link.{HasRisen}
use Rattle.pgpipe_base.specs.declared.stop.Stop.{Stop}
use Rattle.pgpipe_base.specs.declared.stop.Stop.TheVariants as stop
use Rattle.pgpipe_frames.specs.declared.next.NextFrame.{NextFrame}
use Rattle.pgpipe_frames.specs.declared.next.NextFrame.TheVariants as next
use Rattle.pgpipe_show.specs.declared.show.Shown.{Shown}
use Rattle.pgpipe_show.specs.declared.show.Shown.TheVariants as shown
use Rattle.pgpipe_base.specs.declared.fault.ToolFault.{ToolFault}
use Rattle.pgpipe_base.specs.declared.fault.ToolFault.TheVariants as fault
use Rattle.pgpipe_base.specs.Outbox.{Puts, most_collected}
use Rattle.pgpipe_base.specs.Stop.{Settles, answer_of}
use mathlib.Core.List.{IsPrefix}
use Rattle.pgpipe_show.specs.Show.{length_limit, AreShown, AreAllShown, AreShownBefore, AreMostlyShown, ArePartlyShown, IsShownAtOnce, ShowAnswers}
use Rattle.pgpipe_base.specs.Receiving.{HasStopped, CountsNoFailure}
use Rattle.pgpipe_show.specs.Private.Showing.{ArePut, HasSinkFailed, Stops, StopsSource}
use Rattle.pg_wire.specs.Backend.{backend}
use Rattle.pg_wire.proofs.Rests.{short_open}
use Rattle.pg_wire.proofs.Packets.{short_open as short_packet_open}
use Rattle.pgpipe_base.proofs.Pieces.{puts_then, sends_on, concat_prefix, first_within}
use Rattle.pgpipe_show.specs.declared.form.Form.{Form}
use Rattle.pgpipe_show.specs.declared.form.Form.TheVariants as forms
use Rattle.pgpipe_show.specs.FrameLines.{first_of}
use Rattle.pgpipe_show.specs.Way.{Way, messages_of}
use Rattle.pgpipe_show.proofs.Decodings.{client_begins}
use Rattle.pgpipe_show.proofs.Framings.{frames_begin, nothing_open}

nothing : (xs : List ℕ) → 0 ≡ length xs → xs ≡ []
nothing [] e = refl
nothing (x ∷ xs) e = absurd (omega (arith, e))

module _ {K : Type 0} (takes : K → List ℕ → K → Type 0) (failures : K → ℕ) (way : Way) where
  -- this holds of the text that was sent, and these sends were the first
  abbrev pub Sends : K → List (List ℕ) → (List ℕ → Type 0) → K → Type 0
  Sends start earlier P s = (pieces : List (List ℕ)) × FoldsTo takes start pieces s × P (concat pieces) × IsPrefix earlier pieces

  -- what was put was sent, and the sink didn't fail
  whole : (start : K) (bytes : List ℕ) (earlier : List (List ℕ)) (n : NextFrame) (rest c : List ℕ) (s : K) (c' : List ℕ) (s' : K) (put : ArePut takes failures way start bytes earlier n rest c s) → Puts {A = Unit {0}} takes failures c s [] (Ok tt) c' s' → c' ≡ []
      → Sends start earlier (λ text. (put.text ≡ text) × AreShown way bytes text n rest) s' × (failures s' ≡ failures start)
  whole start bytes earlier n rest c s c' s' put p none =
      let all = puts_then takes failures [] start put.text c s [] (Ok tt) c' s' put.put p in
      let sent : put.text ≡ concat all.pieces = sym (append-nil put.text) ∙ all.sent ∙ ap (λ (t : List ℕ). concat all.pieces ++ t) none ∙ append-nil (concat all.pieces) in
      ((all.pieces, all.calls, (sent, subst (λ (t : List ℕ). AreShown way bytes t n rest) sent put.shown), sends_on takes failures earlier [] start put.text c s [] (Ok tt) c' s' put.put p put.begins), all.counted)

  -- the sink failed: a prefix was sent, little more was received, and the failure was counted
  abbrev pub Fails : K → List ℕ → List (List ℕ) → K → Type 0
  Fails start bytes earlier s = Sends start earlier (λ text. ArePartlyShown way bytes text × IsShownAtOnce way bytes text) s × HasRisen (failures start) (failures s)

  -- what was sent before is a part of what was sent
  enough : (earlier pieces : List (List ℕ)) → IsPrefix earlier pieces → length (concat earlier) ≤ most_collected + length (concat pieces)
  enough earlier pieces b = omega (arith, first_within earlier pieces b)

  partly : (start : K) (bytes : List ℕ) (earlier : List (List ℕ)) (n : NextFrame) (rest c : List ℕ) (s : K) (f : LinkFault) (c' : List ℕ) (s' : K) → AreShownBefore way bytes (concat earlier) → ArePut takes failures way start bytes earlier n rest c s → Puts {A = Unit {0}} takes failures c s [] (Err f) c' s' → Fails start bytes earlier s'
  partly start bytes earlier n rest c s f c' s' b h p =
      let all = puts_then takes failures [] start h.text c s [] (Err f) c' s' h.put p in
      let first = sends_on takes failures earlier [] start h.text c s [] (Err f) c' s' h.put p h.begins in
      ((all.pieces, all.calls, ((h.text, rest, n, h.shown, (all.sent.0, all.sent.1 ∙ append-nil h.text)), (concat earlier, b, enough earlier all.pieces first)), first), all.counted)

  broken : (start : K) (bytes : List ℕ) (earlier : List (List ℕ)) (c : List ℕ) (s : K) → AreShownBefore way bytes (concat earlier) → HasSinkFailed takes failures way start bytes earlier c s → Fails start bytes earlier s
  broken start bytes earlier c s b h = ((h.put.pieces, h.put.calls, ((h.text, h.rest, h.n, h.shown, (h.put.sent.0, h.put.sent.1)), (concat earlier, b, enough earlier h.put.pieces h.begins)), h.begins), h.put.counted)

  -- where all was sent, the answer speaks of the source alone
  module _ (received : List (List ℕ)) (old new : ℕ) (broke : Type 0) (start : K) (bytes : List ℕ) (earlier : List (List ℕ)) where
    abbrev pub Answered : List ℕ → Stop Shown → Type 0
    Answered text h = ShowAnswers (HasStopped old new received) broke way bytes text (answer_of h)

    pub settled : (ends : Type 0) (h : Stop Shown) (c : List ℕ) (s s' : K) → AreShownBefore way bytes (concat earlier) → Stops takes failures way start bytes earlier h c s → StopsSource ends old new received h → Settles takes failures h c s (Ok tt) s'
        → Sends start earlier (λ text. Answered text h) s' × (failures s' ≡ failures start)
    settled _ (stop.Answer shown.Whole) c s s' b hs why st =
        let w = whole start bytes earlier hs.0 hs.1 c s [] s' hs.2 st refl in
        ((w.0.0, w.0.1, (hs.0, subst (λ (r : List ℕ). AreShown way bytes (concat w.0.0) hs.0 r) (nothing hs.1 hs.4) w.0.2.1), w.0.3), w.1)
    settled _ (stop.Answer (shown.Rest size)) c s s' b hs why st = let w = whole start bytes earlier hs.0 hs.1 c s [] s' hs.2 st refl in ((w.0.0, w.0.1, (hs.0, hs.1, w.0.2.1, hs.3, hs.4, hs.5), w.0.3), w.1)
    settled _ (stop.Answer (shown.Fault f)) c s s' b hs why st = let w = whole start bytes earlier hs.0 hs.1 c s [] s' hs.2 st refl in ((w.0.0, w.0.1, (hs.0, hs.1, w.0.2.1, hs.3), w.0.3), w.1)
    settled _ stop.Memory c s s' b hs why st =
        let w = whole start bytes earlier hs.0 hs.1 c s [] s' hs.2 st refl in
        ((w.0.0, w.0.1, record { before = concat earlier; shown_before = b; begins = concat_prefix earlier w.0.0 w.0.3; n = hs.0; rest = hs.1; shown = w.0.2.1 }, w.0.3), w.1)
    settled _ stop.SourceFailed c s s' b hs why st = let w = whole start bytes earlier hs.0 hs.1 c s [] s' hs.2 st refl in ((w.0.0, w.0.1, inr (inl why, record { n = hs.0; rest = hs.1; shown = w.0.2.1; is_open = hs.3 }), w.0.3), w.1)
    settled _ stop.SinkFailed c s s' b hs why st = absurd cc
    settled _ stop.Endless c s s' b hs why st = let w = whole start bytes earlier hs.0 hs.1 c s [] s' hs.2 st refl in ((w.0.0, w.0.1, inr (inr why, record { n = hs.0; rest = hs.1; shown = w.0.2.1; is_open = hs.3 }), w.0.3), w.1)

  -- the sink failed
  pub unsettled : (start : K) (bytes : List ℕ) (earlier : List (List ℕ)) (h : Stop Shown) (c : List ℕ) (s : K) (f : LinkFault) (s' : K) → AreShownBefore way bytes (concat earlier) → Stops takes failures way start bytes earlier h c s → Settles takes failures h c s (Err f) s' → Fails start bytes earlier s'
  unsettled start bytes earlier (stop.Answer shown.Whole) c s f s' b hs st = partly start bytes earlier hs.0 hs.1 c s f [] s' b hs.2 st
  unsettled start bytes earlier (stop.Answer (shown.Rest size)) c s f s' b hs st = partly start bytes earlier hs.0 hs.1 c s f [] s' b hs.2 st
  unsettled start bytes earlier (stop.Answer (shown.Fault g)) c s f s' b hs st = partly start bytes earlier hs.0 hs.1 c s f [] s' b hs.2 st
  unsettled start bytes earlier stop.Memory c s f s' b hs st = partly start bytes earlier hs.0 hs.1 c s f [] s' b hs.2 st
  unsettled start bytes earlier stop.SourceFailed c s f s' b hs st = partly start bytes earlier hs.0 hs.1 c s f [] s' b hs.2 st
  unsettled start bytes earlier stop.SinkFailed c s f s' b hs st = subst (λ (k : K). Fails start bytes earlier k) (sym st.1) (broken start bytes earlier c s b hs)
  unsettled start bytes earlier stop.Endless c s f s' b hs st = partly start bytes earlier hs.0 hs.1 c s f [] s' b hs.2 st

-- a count that stayed
pub counts_none : (old : ℕ) (r : Result Shown ToolFault) (new : ℕ) → new ≡ old → CountsNoFailure old r new
counts_none old (Ok x) new e = e
counts_none old (Err fault.Memory) new e = e
counts_none old (Err fault.Device) new e = tt

pub source_counts : (ended : Type 0) (old new : ℕ) (pieces : List (List ℕ)) (h : Stop Shown) → StopsSource ended old new pieces h → CountsNoFailure old (answer_of h) new
source_counts ended old new pieces (stop.Answer shown.Whole) s = s.1
source_counts ended old new pieces (stop.Answer (shown.Rest size)) s = s.1
source_counts ended old new pieces (stop.Answer (shown.Fault f)) s = s
source_counts ended old new pieces stop.Memory s = s
source_counts ended old new pieces stop.SourceFailed s = tt
source_counts ended old new pieces stop.SinkFailed s = tt
source_counts ended old new pieces stop.Endless s = tt

-- of no bytes no line is shown
messages_of_nothing : (front : Bool) → AreAllShown (messages_of front) [] []
messages_of_nothing false = record { n = next.Message; rest = []; shown = (refl, record { messages = []; stream = record { whole = refl; each = tt }; each_line = refl }); is_open = short_open backend length_limit [] (omega arith) }
messages_of_nothing true = record { n = next.Packet; rest = []; shown = client_begins; is_open = short_packet_open [] (omega arith) }

all_of_nothing : (form : Form) (front : Bool) → AreAllShown (record { form = form; front = front }) [] []
all_of_nothing forms.Messages front = messages_of_nothing front
all_of_nothing (forms.Frames line) front = record { n = first_of front; rest = []; shown = frames_begin line front; is_open = nothing_open front }

pub nothing_shown : (way : Way) → AreMostlyShown way [] []
nothing_shown way =
    let all : AreAllShown way [] [] = all_of_nothing way.form way.front in
    record {
      before = [];
      shown_before = record { earlier = []; last = []; whole = refl; a_piece = omega arith; shown = all };
      begins = ([], refl);
      n = all.n;
      rest = all.rest;
      shown = all.shown;
    }
