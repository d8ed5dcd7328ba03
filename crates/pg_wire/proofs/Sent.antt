-- Bytes that are sent from their front, step after step.
use Rattle.std.proofs.Common.{◌≡◌, ℕ, ◌+◌, ◌-◌, ◌<◌, ◌≤◌, List, [], ◌∷◌, ◌++◌, take, drop, length, Result, Ok, Err, refl, sym, ap, subst, ◌∙◌, append-nil, take-append-drop, length-drop, arith}
use Rattle.std.specs.List.{concat}
use Rattle.std.proofs.Math.Seq.{take-add}
use Rattle.std.proofs.lemmas.Fn.{FoldsTo-push}
use Rattle.std.proofs.lemmas.List.{take_all, drop_all}
use Rattle.std.proofs.lemmas.List.Folds.{concat-append}
use Rattle.pg_wire.specs.declared.link.LinkFault.{LinkFault}
use Rattle.pg_wire.specs.Link.{Counts, HasRisen}
use Rattle.pg_wire.specs.Sending.{FailsToSend, Sends, SendsOut}

-- the bytes from a place on, as a slice
pub from_place : (k : ℕ) (bytes : List ℕ) → take (length bytes - k) (drop k bytes) ≡ drop k bytes
from_place k bytes = take_all (length bytes - k) (drop k bytes) (omega (arith, length-drop k bytes))

module _ {L : Type 0} (takes : L → List ℕ → L → Type 0) (failures : L → ℕ) where
  -- nothing was sent yet
  pub sends_none : (link : L) (bytes : List ℕ) → Sends takes failures link (take 0 bytes) link
  sends_none link bytes = record { pieces = []; calls = refl; whole = refl; none_failed = refl }

  -- one more call took some
  pub sends_more : (link : L) (bytes : List ℕ) (k n : ℕ) (mid now : L) → Sends takes failures link (take k bytes) mid → takes mid (take n (take (length bytes - k) (drop k bytes))) now → failures now ≡ failures mid → Sends takes failures link (take (k + n) bytes) now
  sends_more link bytes k n mid now s took counted =
      let piece : List ℕ = take n (drop k bytes) in
      let t : takes mid piece now = subst (λ (l : List ℕ). takes mid (take n l) now) (from_place k bytes) took in
      record {
        pieces = s.pieces ++ piece ∷ [];
        calls = FoldsTo-push takes link s.pieces mid piece now s.calls t;
        whole = concat-append s.pieces (piece ∷ []) ∙ ap (λ (l : List ℕ). concat s.pieces ++ l) (append-nil piece) ∙ ap (λ (l : List ℕ). l ++ piece) s.whole ∙ sym (take-add k n bytes);
        none_failed = counted ∙ s.none_failed;
      }

  -- a call failed, and took none
  pub fails_to_send : (link : L) (bytes : List ℕ) (k : ℕ) (mid now : L) → k < length bytes → Sends takes failures link (take k bytes) mid → takes mid [] now → HasRisen (failures mid) (failures now) → FailsToSend takes failures link bytes (drop k bytes) now
  fails_to_send link bytes k mid now some s t risen = record {
    sent = take k bytes;
    split = sym (take-append-drop k bytes);
    some_left = λ e. omega (arith, length-drop k bytes, ap (λ (l : List ℕ). length l) e, some);
    before = mid;
    was_sent = s;
    took_none = t;
    counted = risen;
  }

  -- all were sent
  pub sends_all : (link : L) (bytes : List ℕ) (k : ℕ) (now : L) → length bytes ≤ k → Sends takes failures link (take k bytes) now → SendsOut takes failures link bytes (Ok tt) now (drop k bytes)
  sends_all link bytes k now all s = (subst (λ (l : List ℕ). Sends takes failures link l now) (take_all k bytes all) s, drop_all k bytes all)

  -- a fault is counted, and nothing else is
  pub counts_sent : (link : L) (bytes : List ℕ) (result : Result Unit LinkFault) (now : L) (left : List ℕ) → SendsOut takes failures link bytes result now left → Counts (failures link) result (failures now)
  counts_sent link bytes (Ok x) now left s = s.0.none_failed
  counts_sent link bytes (Err f) now left s = subst (λ (n : ℕ). HasRisen n (failures now)) s.was_sent.none_failed s.counted
