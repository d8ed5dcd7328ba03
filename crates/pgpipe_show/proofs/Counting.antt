-- How the counting goes on, frame by frame and piece by piece.
use Rattle.std.proofs.Common.{◌≡◌, ℕ, zero, suc, ◌+◌, ◌-◌, ◌^◌, ◌<◌, ◌≤◌, ◌⊎◌, inl, inr, min, Bool, true, false, List, [], ◌∷◌, ◌++◌, length, take, drop, Result, Ok, Err, refl, sym, ap, subst, ◌∙◌, append-nil, append_assoc, length-append, arith}
use Rattle.std.specs.List.{FoldsTo, concat}
use Rattle.std.proofs.lemmas.List.{length-take-le}
use Rattle.pg_wire.specs.declared.fault.WireFault.{WireFault}
use Rattle.pg_wire.specs.declared.fault.WireFault.TheVariants as wire
use Rattle.pgpipe_base.specs.declared.stop.Stop.{Stop}
use Rattle.pgpipe_base.specs.declared.stop.Stop.TheVariants as stop
use Rattle.pgpipe_base.specs.Outbox.{Puts}
use Rattle.pgpipe_base.specs.Stop.{answer_of as answer_of_stop}
use Rattle.pgpipe_base.proofs.Pieces.{joined, one_more}
use Rattle.pgpipe_frames.specs.declared.next.NextFrame.{NextFrame}
use Rattle.pgpipe_frames.specs.declared.next.NextFrame.TheVariants as next
use Rattle.pgpipe_frames.specs.declared.judge.FrameJudgement.TheVariants as judge
use Rattle.pgpipe_frames.specs.Frames.{Frame, fewest, judged, next_after}
use Rattle.pgpipe_frames.specs.Reader.{FramesState, answer_of, left_by}
use Rattle.pgpipe_frames.proofs.Framing.{framed_none, framed_received, framed_then, one_frame}
use Rattle.pgpipe_frames.proofs.Judging.{frame_sizes, was_open, was_whole, was_faulty}
use Rattle.pgpipe_show.specs.declared.show.Shown.{Shown}
use Rattle.pgpipe_show.specs.declared.show.Shown.TheVariants as shown
use Rattle.pgpipe_show.specs.FrameLines.{first_of}
use Rattle.pgpipe_show.proofs.Framings.{fewer, nothing_open}
use Rattle.pgpipe_show.specs.Counts.{AreCounted, SummaryState, counted}
use Rattle.pgpipe_show.specs.Labels.{IsLabelOf}
use Rattle.pgpipe_show.specs.Private.Counting.{AreAt, ArePassedOver, Counts, GoesOn, IsOpenAt, Stops, end_stop, fault_stop}
use Rattle.pgpipe_show.specs.Summary.{IsSummedUp, SummaryAnswers, empty}
use Rattle.pgpipe_show.specs.Table.{table}

-- ---- frames after frames

counted_then : (front : Bool) (frames more : List Frame) (a b c : SummaryState) → AreCounted front frames a b → AreCounted front more b c → AreCounted front (frames ++ more) a c
counted_then front [] more a b c p q = subst (λ (s : SummaryState). AreCounted front more s c) p q
counted_then front (f ∷ frames) more a b c p q = (p.0, p.1, counted_then front frames more (counted p.0 (length f.bytes) a) b c p.2 q)

-- nothing was received
pub begun : (front : Bool) → AreAt front [] empty (record { next = first_of front; kept = []; held = [] }) 0
begun front = record {
  later = [];
  summed = record { frames = []; framed = framed_none (first_of front) []; each = refl };
  is_open = nothing_open front;
  size = omega arith;
  passed = none_passed front;
}
  where
    none_passed : (side : Bool) → ArePassedOver (first_of side) []
    none_passed true = refl
    none_passed false = refl

-- more bytes come
pub bytes_received : (front : Bool) (bytes : List ℕ) (s : SummaryState) (n : NextFrame) (rest piece : List ℕ) → IsSummedUp front bytes s n rest → IsSummedUp front (bytes ++ piece) s n (rest ++ piece)
bytes_received front bytes s n rest piece a = record { frames = a.frames; framed = framed_received (first_of front) bytes a.frames n rest piece a.framed; each = a.each }

-- a piece was pushed
pub pushed : (front : Bool) (bytes piece : List ℕ) (s : SummaryState) (old new : FramesState) → new ≡ record old { kept = old.kept ++ piece; held = [] } → IsSummedUp front bytes s old.next old.kept → IsSummedUp front (bytes ++ piece) s new.next new.kept
pushed front bytes piece s old new is h = subst (λ (f : FramesState). IsSummedUp front (bytes ++ piece) s f.next f.kept) (sym is) (bytes_received front bytes s old.next old.kept piece h)

-- where a packet or a message is next, something is read
pub something_next : (n : NextFrame) → (n ≡ next.Packet) ⊎ (n ≡ next.Message) → n ≡ next.Nothing → ⊥
something_next n (inl packet) e = cc
something_next n (inr message) e = cc

-- where something is read, all that is left is kept
pub all_kept : (front : Bool) (bytes : List ℕ) (s : SummaryState) (f : FramesState) (over : ℕ) → (f.next ≡ next.Nothing → ⊥) → AreAt front bytes s f over → IsSummedUp front bytes s f.next f.kept × (over ≡ 0)
all_kept front bytes s f over some a =
    let none : a.later ≡ [] = by_next f.next refl a.passed in (
      subst (λ (r : List ℕ). IsSummedUp front bytes s f.next r) (ap (λ (l : List ℕ). f.kept ++ l) none ∙ append-nil f.kept) a.summed,
      omega (arith, a.size, ap (λ (l : List ℕ). length l) none),
    )
  where
    by_next : (n : NextFrame) → f.next ≡ n → ArePassedOver n a.later → a.later ≡ []
    by_next next.Nothing e p = absurd (some e)
    by_next next.Packet e p = p
    by_next next.Message e p = p

-- the frames of a piece were counted
pub went_on : (front : Bool) (bytes : List ℕ) (s : SummaryState) (f : FramesState) (over : ℕ) → over ≡ 0 → (r : Result Unit (Stop Shown)) → Counts front bytes r s f → GoesOn front bytes r s f over
went_on front bytes s f over none (Ok x) h = record {
  later = [];
  summed = subst (λ (r : List ℕ). IsSummedUp front bytes s f.next r) (sym (append-nil f.kept)) h.0;
  is_open = ap (judged f.next) (append-nil f.kept) ∙ h.1;
  size = none ∙ omega arith;
  passed = nothing_passed f.next;
}
  where
    nothing_passed : (n : NextFrame) → ArePassedOver n []
    nothing_passed next.Nothing = tt
    nothing_passed next.Packet = refl
    nothing_passed next.Message = refl
went_on front bytes s f over none (Err w) h = h

-- a piece was passed over
pub passed_on : (front : Bool) (bytes : List ℕ) (s : SummaryState) (f : FramesState) (over over' : ℕ) (piece : List ℕ) → f.next ≡ next.Nothing → over' ≡ min (over + length piece) (2 ^ 64 - 1) → AreAt front bytes s f over → AreAt front (bytes ++ piece) s f over'
passed_on front bytes s f over over' piece nothing more a = record {
  later = a.later ++ piece;
  summed = subst (λ (r : List ℕ). IsSummedUp front (bytes ++ piece) s f.next r) (append_assoc f.kept a.later piece) (bytes_received front bytes s f.next (f.kept ++ a.later) piece a.summed);
  is_open = ap (λ (n : NextFrame). judged n (f.kept ++ (a.later ++ piece))) nothing;
  size = omega (arith, more, a.size, length-append a.later piece);
  passed = subst (λ (n : NextFrame). ArePassedOver n (a.later ++ piece)) (sym nothing) tt;
}

-- the source has ended, or has failed: nothing came
pub ended : (front : Bool) (bytes : List ℕ) (s : SummaryState) (f : FramesState) (over size : ℕ) → size ≡ min (length f.kept + over) (2 ^ 64 - 1) → AreAt front bytes s f over → Stops front bytes (end_stop size) s
ended front bytes s f over zero e a = (f.next, subst (λ (r : List ℕ). IsSummedUp front bytes s f.next r) (none (f.kept ++ a.later) (omega (arith, e, a.size, length-append f.kept a.later))) a.summed)
  where
    none : (xs : List ℕ) → length xs ≡ 0 → xs ≡ []
    none [] h = refl
    none (x ∷ xs) h = absurd (omega (arith, h))
ended front bytes s f over (suc n) e a = (f.next, f.kept ++ a.later, a.summed, a.is_open, omega (arith, e, a.size, length-append f.kept a.later), omega arith)

pub came_none : (front : Bool) (bytes : List ℕ) (w : Stop Shown) (s : SummaryState) (piece : List ℕ) → piece ≡ [] → Stops front bytes w s → Stops front (bytes ++ piece) w s
came_none front bytes w s piece none h = subst (λ (b : List ℕ). Stops front b w s) (sym (append-nil bytes) ∙ ap (λ (p : List ℕ). bytes ++ p) (sym none)) h

-- ---- the frames that a reader keeps

module _ (old new : FramesState) (left : new ≡ left_by old (judged old.next old.kept)) where
  -- no frame is whole
  pub at_open : (front : Bool) (bytes : List ℕ) (s : SummaryState) → IsSummedUp front bytes s old.next old.kept → Ok false ≡ answer_of (judged old.next old.kept) → IsOpenAt front bytes s new
  at_open front bytes s h e =
      let is = was_open (judged old.next old.kept) e in
      let same : new ≡ record old { held = [] } = left ∙ ap (left_by old) is in (
        subst (λ (f : FramesState). IsSummedUp front bytes s f.next f.kept) (sym same) h,
        subst (λ (f : FramesState). judged f.next f.kept ≡ judge.Open) (sym same) is,
      )

  -- a length field can't be
  pub at_fault : (front : Bool) (bytes : List ℕ) (s : SummaryState) → IsSummedUp front bytes s old.next old.kept → (f : WireFault) → Err f ≡ answer_of (judged old.next old.kept) → Stops front bytes (fault_stop f) s
  at_fault front bytes s h f e = by_fault f (was_faulty (judged old.next old.kept) f e)
    where
      by_fault : (g : WireFault) → judged old.next old.kept ≡ judge.Faulty g → Stops front bytes (fault_stop g) s
      by_fault (wire.UnknownTag t) is = (old.next, old.kept, h, is)
      by_fault (wire.ShortLength n) is = (old.next, old.kept, h, is)
      by_fault (wire.LongLength n) is = (old.next, old.kept, h, is)
      by_fault (wire.BadFirst n) is = (old.next, old.kept, h, is)
      by_fault (wire.BadBody t) is = (old.next, old.kept, h, is)
      by_fault wire.Memory is = tt

  module _ (whole : Ok true ≡ answer_of (judged old.next old.kept)) (kind : NextFrame) (is_kind : kind ≡ old.next) (frame : List ℕ) (is_frame : frame ≡ new.held) where
    abbrev size : ℕ
    size = (was_whole (judged old.next old.kept) whole).0

    abbrev is_whole : judged old.next old.kept ≡ judge.Whole size
    is_whole = (was_whole (judged old.next old.kept) whole).1

    abbrev held : List ℕ
    held = take size old.kept

    abbrev taken : FramesState
    taken = record { next = next_after old.next held; kept = drop size old.kept; held = held }

    left_is : new ≡ taken
    left_is = left ∙ ap (left_by old) is_whole

    is_held : frame ≡ held
    is_held = is_frame ∙ ap (λ (f : FramesState). f.held) left_is

    -- how large the frame is
    pub large : fewest kind ≤ length frame
    large =
        let sizes = frame_sizes old.next old.kept size is_whole in
        let long : length frame ≡ size = ap (λ (l : List ℕ). length l) is_held ∙ length-take-le size old.kept sizes.2 in
        subst (λ (k : NextFrame). fewest k ≤ length frame) (sym is_kind) (subst (λ (n : ℕ). fewest old.next ≤ n) (sym long) sizes.0)

    -- fewer bytes are kept
    pub shorter : length new.kept < length old.kept
    shorter = subst (λ (f : FramesState). length f.kept < length old.kept) (sym left_is) (fewer old.next old.kept size is_whole)

    abbrev this : Frame
    this = record { kind = old.next; bytes = held }

    -- it was counted
    pub at_frame : (front : Bool) (bytes : List ℕ) (s : SummaryState) → IsSummedUp front bytes s old.next old.kept → (s' : SummaryState) (label : List ℕ) → IsLabelOf front kind frame label → s' ≡ counted label (length frame) s → IsSummedUp front bytes s' new.next new.kept
    at_frame front bytes s h s' label is e =
        let of_this : IsLabelOf front old.next held label = subst (λ (k : NextFrame). IsLabelOf front k held label) is_kind (subst (λ (b : List ℕ). IsLabelOf front kind b label) is_held is) in
        let now : s' ≡ counted label (length held) s = e ∙ ap (λ (b : List ℕ). counted label (length b) s) is_held in
        subst (λ (f : FramesState). IsSummedUp front bytes s' f.next f.kept) (sym left_is) (record {
          frames = h.frames ++ this ∷ [];
          framed = framed_then (first_of front) bytes h.frames old.next old.kept (this ∷ []) (next_after old.next held) (drop size old.kept) h.framed (one_frame old.next old.kept size is_whole);
          each = counted_then front h.frames (this ∷ []) empty s s' h.each (label, of_this, now);
        })

-- ---- pieces

-- So many pieces were received, and the work stands where it can go on.
pub record Runs {S : Type 0} (gives : S → List ℕ → S → Type 0) (front : Bool) (source source' : S) (side : Bool) (s : SummaryState) (f : FramesState) (over : ℕ) : Type 0 where
  pub pieces : List (List ℕ)
  pub received : FoldsTo gives source pieces source'
  pub same : side ≡ front
  pub stands : AreAt front (concat pieces) s f over

pub runs_none : {S : Type 0} (gives : S → List ℕ → S → Type 0) (front : Bool) (source : S) (s : SummaryState) (f : FramesState) (over : ℕ) → AreAt front [] s f over → Runs gives front source source front s f over
runs_none gives front source s f over a = record { pieces = []; received = refl; same = refl; stands = a }

module _ {S : Type 0} (gives : S → List ℕ → S → Type 0) (front : Bool) (source source' : S) (side : Bool) (s : SummaryState) (f : FramesState) (over : ℕ) (r : Runs gives front source source' side s f over) (piece : List ℕ) (source'' : S) (gave : gives source' piece source'') where
  -- it stood so before the piece
  stood : AreAt side (concat r.pieces) s f over
  stood = subst (λ (k : Bool). AreAt k (concat r.pieces) s f over) (sym r.same) r.stands

  -- a piece more
  pub runs_more : (side' : Bool) (s' : SummaryState) (f' : FramesState) (over' : ℕ) → side' ≡ side → ((bytes : List ℕ) → AreAt side bytes s f over → AreAt side (bytes ++ piece) s' f' over') → Runs gives front source source'' side' s' f' over'
  runs_more side' s' f' over' is next = record {
    pieces = r.pieces ++ piece ∷ [];
    received = one_more gives source r.pieces source' piece source'' r.received gave;
    same = is ∙ r.same;
    stands = subst (λ (b : List ℕ). AreAt front b s' f' over') (joined r.pieces piece) (subst (λ (k : Bool). AreAt k (concat r.pieces ++ piece) s' f' over') r.same (next (concat r.pieces) stood));
  }

  -- the work stopped
  pub run_stops : (w : Stop Shown) (s' : SummaryState) → ((bytes : List ℕ) → AreAt side bytes s f over → Stops side (bytes ++ piece) w s') → (pieces : List (List ℕ)) × FoldsTo gives source pieces source'' × Stops front (concat pieces) w s'
  run_stops w s' next = (
    r.pieces ++ piece ∷ [],
    one_more gives source r.pieces source' piece source'' r.received gave,
    subst (λ (b : List ℕ). Stops front b w s') (joined r.pieces piece) (subst (λ (k : Bool). Stops k (concat r.pieces ++ piece) w s') r.same (next (concat r.pieces) stood)),
  )

-- ---- the answer

-- what was sent is the text
pub all_sent : {K : Type 0} (takes : K → List ℕ → K → Type 0) (failures : K → ℕ) (text : List ℕ) (sink sink' : K) (p : Puts {A = Unit {0}} takes failures text sink [] (Ok tt) [] sink') → concat p.pieces ≡ text
all_sent takes failures text sink sink' p = sym (append-nil (concat p.pieces)) ∙ sym p.sent ∙ append-nil text

pub answered : (front : Bool) (bytes text : List ℕ) (w : Stop Shown) (s : SummaryState) → Stops front bytes w s → text ≡ table s → SummaryAnswers front bytes text (answer_of_stop w)
answered front bytes text (stop.Answer shown.Whole) s h e = (h.0, (s, h.1, e))
answered front bytes text (stop.Answer (shown.Rest n)) s h e = (h.0, h.1, (s, h.2, e), h.3, h.4, h.5)
answered front bytes text (stop.Answer (shown.Fault f)) s h e = (h.0, h.1, (s, h.2, e), h.3)
answered front bytes text stop.Memory s h e = tt
answered front bytes text stop.SourceFailed s h e = tt
answered front bytes text stop.SinkFailed s h e = tt
answered front bytes text stop.Endless s h e = tt
