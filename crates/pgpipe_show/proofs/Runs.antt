-- How the work goes on from piece to piece.
use Rattle.std.proofs.Common.{◌≡◌, ℕ, ◌+◌, ◌*◌, ◌<◌, ◌≤◌, ◌^◌, List, [], ◌∷◌, ◌++◌, Ok, Err, refl, sym, ap, subst, ◌∙◌, append-nil, length, length-append, arith}
use Rattle.std.specs.List.{FoldsTo, concat}
use Rattle.pg_wire.specs.Link.{HasRisen}
use Rattle.pgpipe_base.specs.declared.stop.Stop.{Stop}
use Rattle.pgpipe_base.specs.declared.stop.Stop.TheVariants as stop
use Rattle.pgpipe_show.specs.declared.show.Shown.{Shown}
use Rattle.pgpipe_show.specs.declared.show.Shown.TheVariants as shown
use Rattle.pgpipe_show.specs.declared.decoding.Decoding.{Decoding}
use Rattle.pgpipe_base.specs.Receiving.{most_receives, receive_limit, IsSentAtOnce}
use Rattle.pgpipe_show.specs.Show.{AreAllShown, AreShownBefore}
use Rattle.pgpipe_show.specs.Way.{Way}
use Rattle.pgpipe_show.specs.Private.Showing.{way_of, unshown, AreAt, HasShown, StepShows, Stops, StopsSource, HasRun, StepsSource}
use Rattle.pgpipe_base.proofs.Pieces.{joined, one_more, sent_at_first, sent_on, received_on, sent_all}
use Rattle.pgpipe_show.proofs.Decodings.{all_shown, at_any_time, kept_within}

-- So many pieces were received, and the work stands where it can go on.
pub record Runs {S K : Type 0} (gives : S → List ℕ → S → Type 0) (source_failures : S → ℕ) (takes : K → List ℕ → K → Type 0) (failures : K → ℕ) (way : Way) (source : S) (sink : K) (count : ℕ) (source' : S) (at : Decoding) (collected : List ℕ) (sink' : K) : Type 0 where
  pub pieces : List (List ℕ)
  pub received : FoldsTo gives source pieces source'
  pub counted : length pieces ≡ count
  pub within : length (concat pieces) ≤ receive_limit * count
  pub sound : source_failures source' ≡ source_failures source
  pub side : way_of at ≡ way
  pub stands : HasShown takes failures sink (concat pieces) at collected sink'
  pub nothing_left : collected ≡ []
  pub at_once : IsSentAtOnce (AreAllShown way) pieces stands.put.pieces

-- a piece more is within a piece's bound more
within_more : (pieces : List (List ℕ)) (piece : List ℕ) (n : ℕ) → length (concat pieces) ≤ receive_limit * n → length piece ≤ receive_limit → length (concat (pieces ++ piece ∷ [])) ≤ receive_limit * (n + 1)
within_more pieces piece n all one = omega (arith, ap (λ (l : List ℕ). length l) (joined pieces piece), length-append (concat pieces) piece)

module _ {S K : Type 0} (gives : S → List ℕ → S → Type 0) (source_failures : S → ℕ) (takes : K → List ℕ → K → Type 0) (failures : K → ℕ) (way : Way) where
  pub runs_none : (source : S) (sink : K) (at : Decoding) (c : List ℕ) → way_of at ≡ way → HasShown takes failures sink [] at c sink → c ≡ [] → Runs gives source_failures takes failures way source sink 0 source at c sink
  runs_none source sink at c side st none = record { pieces = []; received = refl; counted = refl; within = omega arith; sound = refl; side = side; stands = st; nothing_left = none; at_once = sent_at_first (AreAllShown way) st.put.pieces }

  -- all lines for these bytes were sent
  lines_sent : (sink : K) (bytes : List ℕ) (at : Decoding) (c : List ℕ) (sink' : K) (st : HasShown takes failures sink bytes at c sink') → way_of at ≡ way → c ≡ [] → AreAllShown way bytes (concat st.put.pieces)
  lines_sent sink bytes at c sink' st side none = subst (λ (text : List ℕ). AreAllShown way bytes text) (sent_all takes failures sink st.text c sink' st.put none) (subst (λ (f : Way). AreAllShown f bytes st.text) side (all_shown takes failures sink bytes c sink' at st))

  -- and so before one more piece
  sent_before : (source : S) (sink : K) (n : ℕ) (source' : S) (at : Decoding) (c : List ℕ) (sink' : K) (piece : List ℕ) (r : Runs gives source_failures takes failures way source sink n source' at c sink') → IsSentAtOnce (AreAllShown way) (r.pieces ++ piece ∷ []) r.stands.put.pieces
  sent_before source sink n source' at c sink' piece r = received_on (AreAllShown way) r.pieces r.stands.put.pieces piece (λ some. lines_sent sink (concat r.pieces) at c sink' r.stands r.side r.nothing_left) r.at_once

  pub runs_more : (source : S) (sink : K) (n : ℕ) (source' : S) (at : Decoding) (c : List ℕ) (sink' : K) (piece : List ℕ) (source'' : S) (at' : Decoding) (c' : List ℕ) (sink'' : K) (r : Runs gives source_failures takes failures way source sink n source' at c sink')
      → length piece ≤ receive_limit → gives source' piece source'' → source_failures source'' ≡ source_failures source' → StepShows takes failures (way_of at) sink (concat r.pieces ++ piece) r.stands.put.pieces (Ok at') c' sink'' → c' ≡ []
      → Runs gives source_failures takes failures way source sink (n + 1) source'' at' c' sink''
  runs_more source sink n source' at c sink' piece source'' at' c' sink'' r fits p same next none = record {
    pieces = r.pieces ++ piece ∷ [];
    received = one_more gives source r.pieces source' piece source'' r.received p;
    counted = length-append r.pieces (piece ∷ []) ∙ ap (λ (k : ℕ). k + 1) r.counted;
    within = within_more r.pieces piece n r.within fits;
    sound = same ∙ r.sound;
    side = next.0 ∙ r.side;
    stands = record { text = next.1.text; are_at = subst (λ (bytes : List ℕ). AreAt bytes next.1.text at') (joined r.pieces piece) next.1.are_at; put = next.1.put; within = next.1.within };
    nothing_left = none;
    at_once = sent_on (AreAllShown way) (r.pieces ++ piece ∷ []) r.stands.put.pieces next.1.put.pieces next.2 (sent_before source sink n source' at c sink' piece r);
  }

  -- there is room for one more piece
  pub has_room : (source : S) (sink : K) (n : ℕ) (source' : S) (at : Decoding) (c : List ℕ) (sink' : K) → n < most_receives → Runs gives source_failures takes failures way source sink n source' at c sink' → unshown at + receive_limit < 2 ^ 64
  has_room source sink n source' at c sink' few r = omega (arith, r.within, kept_within takes failures sink (concat r.pieces) c sink' at r.stands)

  -- what stood before the last piece
  stood_before : (sink : K) (earlier last bytes : List ℕ) (at : Decoding) (c : List ℕ) (sink' : K) (st : HasShown takes failures sink earlier at c sink') → way_of at ≡ way → c ≡ [] → bytes ≡ earlier ++ last → length last ≤ receive_limit → AreShownBefore way bytes (concat st.put.pieces)
  stood_before sink earlier last bytes at c sink' st side none whole fits = record {
    earlier = earlier;
    last = last;
    whole = whole;
    a_piece = fits;
    shown = lines_sent sink earlier at c sink' st side none;
  }

  source_of : (ended : Type 0) (old mid new : ℕ) (pieces : List (List ℕ)) (h : Stop Shown) → mid ≡ old → StepsSource {A = Decoding} ended mid new (Err h) → StopsSource ended old new pieces h
  source_of ended old mid new pieces (stop.Answer shown.Whole) e s = (s.0, s.1 ∙ e)
  source_of ended old mid new pieces (stop.Answer (shown.Rest n)) e s = (s.0, s.1 ∙ e)
  source_of ended old mid new pieces (stop.Answer (shown.Fault f)) e s = s ∙ e
  source_of ended old mid new pieces stop.Memory e s = s ∙ e
  source_of ended old mid new pieces stop.SourceFailed e s = subst (λ (n : ℕ). HasRisen n new) e s
  source_of ended old mid new pieces stop.SinkFailed e s = s ∙ e
  source_of ended old mid new pieces stop.Endless e s = absurd s

  pub run_stops : (ended : Type 0) (source : S) (sink : K) (n : ℕ) (source' : S) (at : Decoding) (c : List ℕ) (sink' : K) (piece : List ℕ) (source'' : S) (h : Stop Shown) (c' : List ℕ) (sink'' : K) (r : Runs gives source_failures takes failures way source sink n source' at c sink')
      → length piece ≤ receive_limit → gives source' piece source'' → StepsSource {A = Decoding} ended (source_failures source') (source_failures source'') (Err h) → Stops takes failures (way_of at) sink (concat r.pieces ++ piece) r.stands.put.pieces h c' sink''
      → HasRun gives source_failures ended takes failures way source sink h source'' c' sink''
  run_stops ended source sink n source' at c sink' piece source'' h c' sink'' r fits p s stops = record {
    pieces = r.pieces ++ piece ∷ [];
    received = one_more gives source r.pieces source' piece source'' r.received p;
    earlier = r.stands.put.pieces;
    at_once = sent_before source sink n source' at c sink' piece r;
    shown_before = stood_before sink (concat r.pieces) piece (concat (r.pieces ++ piece ∷ [])) at c sink' r.stands r.side r.nothing_left (sym (joined r.pieces piece)) fits;
    stops = subst (λ (f : Way). Stops takes failures f sink (concat (r.pieces ++ piece ∷ [])) r.stands.put.pieces h c' sink'') r.side (subst (λ (bytes : List ℕ). Stops takes failures (way_of at) sink bytes r.stands.put.pieces h c' sink'') (joined r.pieces piece) stops);
    stops_source = source_of ended _ _ _ _ h r.sound s;
  }

  pub run_endless : (ended : Type 0) (source : S) (sink : K) (n : ℕ) (source' : S) (at : Decoding) (c : List ℕ) (sink' : K) → n ≡ most_receives → Runs gives source_failures takes failures way source sink n source' at c sink' → HasRun gives source_failures ended takes failures way source sink stop.Endless source' c sink'
  run_endless ended source sink n source' at c sink' e r = record {
    pieces = r.pieces;
    received = r.received;
    earlier = r.stands.put.pieces;
    at_once = r.at_once;
    shown_before = stood_before sink (concat r.pieces) [] (concat r.pieces) at c sink' r.stands r.side r.nothing_left (sym (append-nil (concat r.pieces))) (omega arith);
    stops = subst (λ (f : Way). Stops takes failures f sink (concat r.pieces) r.stands.put.pieces stop.Endless c sink') r.side (at_any_time takes failures sink (concat r.pieces) c sink' at r.stands);
    stops_source = r.counted ∙ e;
  }
