-- How a stream is read, piece by piece and frame by frame.
use Rattle.std.proofs.Common.{◌≡◌, ℕ, zero, suc, ◌+◌, ◌<◌, ◌≤◌, true, false, List, [], ◌∷◌, ◌++◌, length, length-append, get_or, take, drop, Some, None, Ok, Err, refl, sym, ap, subst, ◌∙◌, append_assoc, append-nil, arith}
use Rattle.std.specs.List.{FoldsTo, concat}
use Rattle.std.proofs.lemmas.List.{take-append-drop}
use Rattle.pg_wire.specs.declared.fault.WireFault.{WireFault}
use Rattle.pg_wire.specs.Link.{HasRisen}
use Rattle.pgpipe_base.specs.declared.stop.Stop.{Stop}
use Rattle.pgpipe_base.specs.declared.stop.Stop.TheVariants as stop
use Rattle.pgpipe_base.specs.Receiving.{most_receives}
use Rattle.pgpipe_base.proofs.Pieces.{joined, one_more}
use Rattle.pgpipe_frames.specs.declared.judge.FrameJudgement.{FrameJudgement}
use Rattle.pgpipe_frames.specs.declared.judge.FrameJudgement.TheVariants as judge
use Rattle.pgpipe_frames.specs.declared.next.NextFrame.{NextFrame}
use Rattle.pgpipe_frames.specs.declared.next.NextFrame.TheVariants as next
use Rattle.pgpipe_frames.specs.Frames.{judged, next_after}
use Rattle.pgpipe_frames.specs.Reader.{FramesState, answer_of, left_by}
use Rattle.pgpipe_frames.proofs.Judging.{frame_alone, was_open, was_whole, was_faulty}
use Rattle.pgpipe_show.specs.declared.both.reader.Look.{Look}
use Rattle.pgpipe_show.specs.declared.both.reader.Look.TheVariants as look
use Rattle.pgpipe_show.specs.declared.both.turn.Ended.{Ended}
use Rattle.pgpipe_show.specs.declared.both.turn.Ended.TheVariants as ending
use Rattle.pgpipe_show.specs.declared.both.turn.BothEnds.{BothEnds}
use Rattle.pgpipe_show.specs.Both.{EndsSource}
use Rattle.pgpipe_show.specs.Entries.{end_by, end_at, HasEnded}
use Rattle.pgpipe_show.specs.Private.Telling.{Fetches, Looks, Received, look_on}

-- ---- how a stream ends

fault_end : (n : NextFrame) (rest : List ℕ) (f : WireFault) → judged n rest ≡ judge.Faulty f → ending.Fault f ≡ end_at n rest
fault_end next.Packet rest f e = ap (λ (j : FrameJudgement). end_by j (length rest)) (sym e)
fault_end next.Message rest f e = ap (λ (j : FrameJudgement). end_by j (length rest)) (sym e)
fault_end next.Nothing rest f e = absurd cc

open_end : (n : NextFrame) (rest : List ℕ) → judged n rest ≡ judge.Open → (n ≡ next.Nothing → ⊥) → end_by judge.Open (length rest) ≡ end_at n rest
open_end next.Packet rest e some = ap (λ (j : FrameJudgement). end_by j (length rest)) (sym e)
open_end next.Message rest e some = ap (λ (j : FrameJudgement). end_by j (length rest)) (sym e)
open_end next.Nothing rest e some = absurd (some refl)

pub rest_ended : (n : NextFrame) (rest : List ℕ) → judged n rest ≡ judge.Open → (n ≡ next.Nothing → ⊥) → HasEnded n rest (end_by judge.Open (length rest))
rest_ended n rest e some = (open_end n rest e some, λ size whole. cc)

pub nothing_ended : (n : NextFrame) → n ≡ next.Message → HasEnded n [] ending.Whole
nothing_ended n e = subst (λ (m : NextFrame). HasEnded m [] ending.Whole) (sym e) (refl, λ size whole. cc)

fault_ended : (n : NextFrame) (rest : List ℕ) (f : WireFault) → judged n rest ≡ judge.Faulty f → HasEnded n rest (ending.Fault f)
fault_ended n rest f e = (fault_end n rest f e, λ size whole. cc)

canceled : (n : NextFrame) (rest : List ℕ) → n ≡ next.Nothing → judged n rest ≡ judge.Open → HasEnded n rest ending.Canceled
canceled n rest e opened = (subst (λ (m : NextFrame). ending.Canceled ≡ end_at m rest) (sym e) refl, λ size whole. cc)

-- the source has ended
source_ended : (at_end : Type 0) (size : ℕ) → at_end → EndsSource at_end (end_by judge.Open size)
source_ended at_end zero is = is
source_ended at_end (suc size) is = is

-- an end that the bytes alone make
own_end : (at_end : Type 0) (how : Ended) → EndsSource ⊥ how → EndsSource at_end how
own_end at_end ending.Whole h = absurd h
own_end at_end (ending.Rest size) h = absurd h
own_end at_end (ending.Fault f) h = tt
own_end at_end ending.Canceled h = tt
own_end at_end ending.Encrypted h = tt

-- ---- what stands at the beginning of the bytes that are kept

module _ (old new : FramesState) (left : new ≡ left_by old (judged old.next old.kept)) where
  pub look_frame : Ok true ≡ answer_of (judged old.next old.kept) → Looks old look.Frame new
  look_frame e =
      let whole = was_whole (judged old.next old.kept) e in
      let taken : FramesState = record { next = next_after old.next (take whole.0 old.kept); kept = drop whole.0 old.kept; held = take whole.0 old.kept } in
      let is : new ≡ taken = left ∙ ap (left_by old) whole.1 in
      subst (λ (f : FramesState). Looks old look.Frame f) (sym is) (sym (take-append-drop whole.0 old.kept), frame_alone old.next old.kept whole.0 whole.1, refl)

  abbrev lent_none : FramesState
  lent_none = record old { held = [] }

  look_next : judged old.next old.kept ≡ judge.Open → (n : NextFrame) → old.next ≡ n → Looks old (look_on n) lent_none
  look_next opened next.Packet e = (opened, λ z. cc, refl, refl)
  look_next opened next.Message e = (opened, λ z. cc, refl, refl)
  look_next opened next.Nothing e = (canceled old.next old.kept e opened, tt, refl, refl)

  pub look_more : Ok false ≡ answer_of (judged old.next old.kept) → (n : NextFrame) → n ≡ new.next → (l : Look) → l ≡ look_on n → Looks old l new
  look_more e n is_next l is =
      let opened = was_open (judged old.next old.kept) e in
      let same : new ≡ lent_none = left ∙ ap (left_by old) opened in
      let here : old.next ≡ n = sym (ap (λ (f : FramesState). f.next) same) ∙ sym is_next in
      subst (λ (f : FramesState). Looks old l f) (sym same) (subst (λ (k : Look). Looks old k lent_none) (sym is) (look_next opened n here))

  pub look_fault : (f : WireFault) → Err f ≡ answer_of (judged old.next old.kept) → Looks old (look.Over (ending.Fault f)) new
  look_fault f e =
      let faulty = was_faulty (judged old.next old.kept) f e in
      let same : new ≡ lent_none = left ∙ ap (left_by old) faulty in
      subst (λ (g : FramesState). Looks old (look.Over (ending.Fault f)) g) (sym same) (fault_ended old.next old.kept f faulty, tt, refl, refl)

-- ---- piece by piece

-- So many pieces came, and no frame is whole.
pub record Fetching {S : Type 0} (gives : S → List ℕ → S → Type 0) (failures : S → ℕ) (old : FramesState) (source : S) (count : ℕ) (now : FramesState) (source' : S) : Type 0 where
  pub pieces : List (List ℕ)
  pub received : FoldsTo gives source pieces source'
  pub counted : length pieces ≡ count
  pub next_is : now.next ≡ old.next
  pub kept_is : now.kept ≡ old.kept ++ concat pieces
  pub sound : failures source' ≡ failures source

module _ {S : Type 0} (gives : S → List ℕ → S → Type 0) (failures : S → ℕ) (has_ended : S → Type 0) (old : FramesState) (source : S) where
  pub fetching_none : Fetching gives failures old source 0 old source
  fetching_none = record { pieces = []; received = refl; counted = refl; next_is = refl; kept_is = sym (append-nil old.kept); sound = refl }

  module _ (count : ℕ) (now : FramesState) (source' : S) (f : Fetching gives failures old source count now source') where
    pub fetch_frame : (new : FramesState) → Looks now look.Frame new → Fetches gives failures has_ended old source (Ok None) new source'
    fetch_frame new l = (
      f.pieces,
      f.received,
      (
        sym f.kept_is ∙ l.0,
        subst (λ (n : NextFrame). judged n new.held ≡ judge.Whole (length new.held)) f.next_is l.1,
        l.2 ∙ ap (λ (n : NextFrame). next_after n new.held) f.next_is,
        f.sound,
      ),
    )

    pub fetch_over : (how : Ended) (new : FramesState) → Looks now (look.Over how) new → Fetches gives failures has_ended old source (Ok (Some how)) new source'
    fetch_over how new l =
        let kept : old.kept ++ concat f.pieces ≡ new.kept = sym f.kept_is ∙ sym l.3 in
        let here : HasEnded old.next new.kept how = subst (λ (n : NextFrame). HasEnded n new.kept how) f.next_is (subst (λ (b : List ℕ). HasEnded now.next b how) (sym l.3) l.0) in
        (f.pieces, f.received, (kept, l.2 ∙ f.next_is, here, own_end (has_ended source') how l.1, f.sound))

    module _ (mid : FramesState) (l : Looks now look.Open mid) (piece : List ℕ) (new : FramesState) (source'' : S) (p : gives source' piece source'') where
      abbrev pieces' : List (List ℕ)
      pieces' = f.pieces ++ piece ∷ []

      received' : FoldsTo gives source pieces' source''
      received' = one_more gives source f.pieces source' piece source'' f.received p

      counted' : length pieces' ≡ count + 1
      counted' = length-append f.pieces (piece ∷ []) ∙ ap (λ (k : ℕ). k + 1) f.counted

      next' : mid.next ≡ old.next
      next' = l.2 ∙ f.next_is

      kept' : (kept : List ℕ) → kept ≡ mid.kept ++ piece → kept ≡ old.kept ++ concat pieces'
      kept' kept e = e ∙ ap (λ (b : List ℕ). b ++ piece) (l.3 ∙ f.kept_is) ∙ append_assoc old.kept (concat f.pieces) piece ∙ ap (λ (b : List ℕ). old.kept ++ b) (joined f.pieces piece)

      pub fetching_more : Received (has_ended source'') (failures source') (failures source'') mid piece (Ok true) new → Fetching gives failures old source (count + 1) new source''
      fetching_more r = record {
        pieces = pieces';
        received = received';
        counted = counted';
        next_is = r.0 ∙ next';
        kept_is = kept' new.kept r.1;
        sound = r.2 ∙ f.sound;
      }

      pub fetch_end : (how : Ended) → how ≡ end_by judge.Open (length new.kept) → Received (has_ended source'') (failures source') (failures source'') mid piece (Ok false) new → Fetches gives failures has_ended old source (Ok (Some how)) new source''
      fetch_end how is r =
          let same : new.kept ≡ mid.kept = r.3 in
          let whole : new.kept ≡ mid.kept ++ piece = same ∙ sym (append-nil mid.kept) ∙ ap (λ (b : List ℕ). mid.kept ++ b) (sym r.1) in
          let opened : judged old.next new.kept ≡ judge.Open = subst (λ (n : NextFrame). judged n new.kept ≡ judge.Open) f.next_is (subst (λ (b : List ℕ). judged now.next b ≡ judge.Open) (sym (same ∙ l.3)) l.0) in
          let some : old.next ≡ next.Nothing → ⊥ = λ z. l.1 (f.next_is ∙ z) in
          let ended : HasEnded old.next new.kept how = subst (λ (h : Ended). HasEnded old.next new.kept h) (sym is) (rest_ended old.next new.kept opened some) in
          let at_end : EndsSource (has_ended source'') how = subst (λ (h : Ended). EndsSource (has_ended source'') h) (sym is) (source_ended (has_ended source'') (length new.kept) r.0) in
          (pieces', received', (sym (kept' new.kept whole), r.2 ∙ next', ended, at_end, r.4 ∙ f.sound))

      pub fetch_stop : (w : Stop BothEnds) → Received (has_ended source'') (failures source') (failures source'') mid piece (Err w) new → Fetches gives failures has_ended old source (Err w) new source''
      fetch_stop stop.SourceFailed r = (pieces', received', subst (λ (k : ℕ). HasRisen k (failures source'')) f.sound r)
      fetch_stop stop.Memory r = (pieces', received', r ∙ f.sound)
      fetch_stop stop.SinkFailed r = absurd r
      fetch_stop stop.Endless r = absurd r
      fetch_stop (stop.Answer ends) r = absurd r

    pub fetch_endless : most_receives ≤ count → (new : FramesState) → Fetches gives failures has_ended old source (Err stop.Endless) new source'
    fetch_endless many new = (f.pieces, f.received, subst (λ (k : ℕ). most_receives ≤ k) (sym f.counted) many)

-- ---- one byte

first_alone : (l : List ℕ) → length l ≡ 1 → take 1 l ≡ get_or l 0 0 ∷ []
first_alone [] e = absurd (omega (arith, e))
first_alone (b ∷ []) e = refl
first_alone (b ∷ c ∷ l) e = absurd (omega (arith, e))

pub one_byte : (n : ℕ) (into : List ℕ) (byte : ℕ) → length into ≡ 1 → 0 < n → n ≤ 1 → byte ≡ get_or into 0 0 → take n into ≡ byte ∷ []
one_byte n into byte long some few is =
    let one : n ≡ 1 = omega (arith, some, few) in
    ap (λ (m : ℕ). take m into) one ∙ first_alone into long ∙ ap (λ (c : ℕ). c ∷ []) (sym is)
