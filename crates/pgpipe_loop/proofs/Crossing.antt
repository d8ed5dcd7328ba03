-- Bytes that are received piece by piece.
use Rattle.std.proofs.Common.{◌≡◌, ℕ, ◌+◌, ◌≤◌, ◌<◌, ◌⊎◌, List, [], ◌∷◌, ◌++◌, take, Result, Ok, Err, IsErr, refl, sym, ap, subst, ◌∙◌, length, append-nil, take-add, arith}
use Rattle.std.proofs.lemmas.List.{length-take-le, take-take, take_at, drop_at}
use Rattle.std.proofs.lemmas.Slice.{take-put_mid}
use borrow.Rule.Slice.PartMut.{put_mid}
use Rattle.std.specs.List.{FoldsTo, concat}
use Rattle.pg_wire.specs.Link.{HasRisen}
use Rattle.pg_pair.specs.declared.carry.CarryFault.{CarryFault}
use Rattle.pg_wire.specs.declared.link.LinkFault.{LinkFault}
use Rattle.pgpipe_base.specs.Outbox.{IsSentBut, Puts}
use Rattle.pgpipe_loop.specs.Across.{Crosses, Receives}
use Rattle.pgpipe_base.proofs.Pieces.{joined, one_more}

-- of a part that was written the first n bytes count, too
pub filled_more : (into : List ℕ) (a k : ℕ) (part : List ℕ) (n : ℕ) → a ≤ length into → n ≤ length part → take a into ++ take n part ≡ take (a + n) (put_mid a k into part)
filled_more into a k part n within few =
    let front : length (take a into) ≡ a = length-take-le a into within in
    sym (sym (take-take (a + n) (a + length part) (put_mid a k into part) (omega (arith, few)))
    ∙ ap (take (a + n)) (take-put_mid a k into part (a + length part) refl within)
    ∙ take-add a n (take a into ++ part)
    ∙ (λ i. take_at (take a into) part a front i ++ take n (drop_at (take a into) part a front i)))

-- a count that has risen since an equal one
risen_since : (first old new : ℕ) (Ended : Type 0) → old ≡ first → HasRisen old new ⊎ Ended → HasRisen first new ⊎ Ended
risen_since first old new Ended e why = subst (λ (n : ℕ). HasRisen n new ⊎ Ended) e why

module _ {S : Type 0} (gives : S → List ℕ → S → Type 0) (failures : S → ℕ) (has_ended : S → Type 0) where
  -- so far these bytes were received, and no call failed
  pub record ReceivesSome (source : S) (bytes : List ℕ) (source' : S) : Type 0 where
    pub pieces : List (List ℕ)
    pub calls : FoldsTo gives source pieces source'
    pub bytes_are : concat pieces ≡ bytes
    pub none_failed : failures source' ≡ failures source

  -- nothing yet
  pub receives_none : (source : S) → ReceivesSome source [] source
  receives_none source = record { pieces = []; calls = refl; bytes_are = refl; none_failed = refl }

  -- one piece more
  pub receives_more : (source : S) (bytes : List ℕ) (source' : S) (piece all : List ℕ) (source'' : S)
      → ReceivesSome source bytes source' → gives source' piece source'' → failures source'' ≡ failures source' → bytes ++ piece ≡ all
      → ReceivesSome source all source''
  receives_more source bytes source' piece all source'' so_far call same e = record {
    pieces = so_far.pieces ++ piece ∷ [];
    calls = one_more gives source so_far.pieces source' piece source'' so_far.calls call;
    bytes_are = sym (joined so_far.pieces piece) ∙ ap (λ (l : List ℕ). l ++ piece) so_far.bytes_are ∙ e;
    none_failed = same ∙ so_far.none_failed;
  }

  -- all that was wanted
  pub receives_all : (source : S) (bytes : List ℕ) (source' : S) (wanted : ℕ)
      → ReceivesSome source bytes source' → length bytes ≡ wanted → Receives gives failures has_ended wanted source (Ok bytes) source'
  receives_all source bytes source' wanted so_far e = record { pieces = so_far.pieces; calls = so_far.calls; received = (so_far.bytes_are, e, so_far.none_failed) }

  -- the source failed, or found the end
  pub receives_fewer : (source : S) (bytes : List ℕ) (source' : S) (piece : List ℕ) (source'' : S) (wanted : ℕ) (fault : CarryFault)
      → ReceivesSome source bytes source' → gives source' piece source'' → piece ≡ [] → length bytes < wanted
      → HasRisen (failures source') (failures source'') ⊎ has_ended source''
      → Receives gives failures has_ended wanted source (Err fault) source''
  receives_fewer source bytes source' piece source'' wanted fault so_far call none few why = record {
    pieces = so_far.pieces ++ piece ∷ [];
    calls = one_more gives source so_far.pieces source' piece source'' so_far.calls call;
    received =
        let e : concat (so_far.pieces ++ piece ∷ []) ≡ bytes = sym (joined so_far.pieces piece) ∙ ap (λ (l : List ℕ). l ++ piece) so_far.bytes_are ∙ ap (λ (l : List ℕ). bytes ++ l) none ∙ append-nil bytes in
        (subst (λ (l : List ℕ). length l < wanted) (sym e) few, risen_since (failures source) (failures source') (failures source'') (has_ended source'') so_far.none_failed why);
  }

module _ {K S : Type 0} (takes : K → List ℕ → K → Type 0) (sink_failures : K → ℕ) (gives : S → List ℕ → S → Type 0) (source_failures : S → ℕ) (has_ended : S → Type 0) where
  -- all text is sent, in other words
  sends_all : (piece : List ℕ) (sink : K) (sending : Result Unit LinkFault) (sink' : K)
      → Puts {A = Unit {0}} takes sink_failures piece sink [] sending [] sink' → Puts {A = Unit {0}} takes sink_failures [] sink piece sending [] sink'
  sends_all piece sink sending sink' p = record { pieces = p.pieces; calls = p.calls; sent = subst (λ (l : List ℕ). IsSentBut sending l (concat p.pieces) []) (append-nil piece) p.sent; counted = p.counted }

  -- sending failed
  pub crosses_unsent : (piece : List ℕ) (sink : K) (source : S) (sending : Result Unit LinkFault) (f : LinkFault) (result : Result (List ℕ) CarryFault) (sink' : K)
      → Puts {A = Unit {0}} takes sink_failures piece sink [] sending [] sink' → sending ≡ Err f → IsErr result
      → Crosses takes sink_failures gives source_failures has_ended piece sink source result sink' source
  crosses_unsent piece sink source sending f result sink' p e failed = record {
    sending = Err f;
    sent = sends_all piece sink (Err f) sink' (subst (λ (r : Result Unit LinkFault). Puts {A = Unit {0}} takes sink_failures piece sink [] r [] sink') e p);
    received = (failed, refl);
  }

  -- all was sent, and so much was received
  pub crosses_sent : (piece : List ℕ) (sink : K) (source : S) (sending : Result Unit LinkFault) (result : Result (List ℕ) CarryFault) (sink' : K) (source' : S)
      → Puts {A = Unit {0}} takes sink_failures piece sink [] sending [] sink' → sending ≡ Ok tt → Receives gives source_failures has_ended (length piece) source result source'
      → Crosses takes sink_failures gives source_failures has_ended piece sink source result sink' source'
  crosses_sent piece sink source sending result sink' source' p e received = record {
    sending = Ok tt;
    sent = sends_all piece sink (Ok tt) sink' (subst (λ (r : Result Unit LinkFault). Puts {A = Unit {0}} takes sink_failures piece sink [] r [] sink') e p);
    received = received;
  }
