-- A text that came in calls.
use Rattle.std.proofs.Common.{◌≡◌, ◌<◌, ◌≤◌, ℕ, Bool, true, false, ◌⊎◌, inl, inr, List, [], ◌∷◌, ◌++◌, refl, ap, sym, subst, ◌∙◌, arith, append_assoc}
use Rattle.std.specs.List.{FoldsTo, concat}
use Rattle.std.proofs.lemmas.List.Folds.{concat-append}
use Rattle.pg_wire.specs.Link.{HasRisen, last_count}
use Rattle.pg_wire.specs.Sending.{Sends}
use Rattle.pgpipe_show.specs.declared.color.part.LinePart.{LinePart}
use Rattle.pgpipe_show.specs.Colored.{Coloring, FailsToPaint, Paints, Takes, TakesAs}
use Rattle.pgpipe_show.specs.ColoredPart.{colored, escape, next, part_after}

colored-append : (part : LinePart) (front text : List ℕ) → colored part (front ++ text) ≡ colored part front ++ colored (part_after part front) text
unfolding colored part_after
colored-append part [] text = refl
colored-append part (b ∷ front) text =
    ap (λ (l : List ℕ). escape part b ++ b ∷ l) (colored-append (next part b) front text)
    ∙ sym (append_assoc (escape part b) (b ∷ colored (next part b) front) (colored (part_after (next part b) front) text))

folds-append : {P A : Type 0} (R : P → A → P → Type 0) (xs ys : List A) (p q r : P) → FoldsTo R p xs q → FoldsTo R q ys r → FoldsTo R p (xs ++ ys) r
folds-append R [] ys p q r first more = subst (λ s. FoldsTo R s ys r) (sym first) more
folds-append R (x ∷ xs) ys p q r first more = (first.0, first.1, folds-append R xs ys first.0 q r first.2 more)

rises_above : (first old new : ℕ) → first < last_count → first ≤ old → HasRisen old new → first < new
rises_above first old new below least (inl more) = omega arith
rises_above first old new below least (inr last) = rw last below

module _ {K : Type 0} (takes : K → List ℕ → K → Type 0) (failures : K → ℕ) where
  sends_nothing : (link new : K) → link ≡ new → Sends takes failures link [] new
  sends_nothing link new same = record { pieces = []; calls = same; whole = refl; none_failed = ap failures (sym same) }

  sends_both : (link mid new : K) (bytes more : List ℕ) → Sends takes failures link bytes mid → Sends takes failures mid more new → Sends takes failures link (bytes ++ more) new
  sends_both link mid new bytes more s t = record {
    pieces = s.pieces ++ t.pieces;
    calls = folds-append takes s.pieces t.pieces link mid new s.calls t.calls;
    whole = concat-append s.pieces t.pieces ∙ ap (λ (l : List ℕ). l ++ concat t.pieces) s.whole ∙ ap (λ (l : List ℕ). bytes ++ l) t.whole;
    none_failed = t.none_failed ∙ s.none_failed;
  }

  as_on : (on : Bool) (old new : Coloring K) (bytes : List ℕ) → on ≡ true → TakesAs takes failures on old bytes new → Paints takes failures old bytes new ⊎ FailsToPaint takes failures old bytes new
  as_on true old new bytes is call = call
  as_on false old new bytes is call = absurd (cc)

  -- a call that failed stands in the count
  fails_above : (first : ℕ) (old new : Coloring K) (bytes : List ℕ) → first < last_count → first ≤ failures old.inner → FailsToPaint takes failures old bytes new → first < failures new.inner
  fails_above first old new bytes below least f =
      rises_above first _ _ below (omega (arith, f.sent.was_sent.none_failed)) f.sent.counted

  stays_above : (pieces : List (List ℕ)) (first : ℕ) (old new : Coloring K) → old.on ≡ true → first < last_count → first < failures old.inner → FoldsTo (Takes takes failures) old pieces new → first < failures new.inner
  stays_above [] first old new on below more same = subst (λ c. first < failures c.inner) same more
  stays_above (piece ∷ pieces) first old new on below more calls =
      let above : first < failures calls.0.inner =
      elim (as_on old.on old calls.0 piece on calls.1.0) [
        | inl p ↦ omega (arith, p.sent.none_failed)
        | inr f ↦ fails_above first old calls.0 piece below (omega arith) f
      ] in
      stays_above pieces first calls.0 new (calls.1.1 ∙ on) below above calls.2

  paints_calls : (pieces : List (List ℕ)) (old new : Coloring K) → old.on ≡ true → failures old.inner < last_count → failures new.inner ≡ failures old.inner → FoldsTo (Takes takes failures) old pieces new → Sends takes failures old.inner (colored old.part (concat pieces)) new.inner
  unfolding colored
  paints_calls [] old new on below none same = sends_nothing old.inner new.inner (ap (λ c. c.inner) same)
  paints_calls (piece ∷ pieces) old new on below none calls =
      let mid : Coloring K = calls.0 in
      let on_mid : mid.on ≡ true = calls.1.1 ∙ on in
      elim (as_on old.on old mid piece on calls.1.0) [
        | inl p ↦
            let rest = paints_calls pieces mid new on_mid (omega (arith, p.sent.none_failed)) (none ∙ sym p.sent.none_failed) calls.2 in
            let both = sends_both old.inner mid.inner new.inner (colored old.part piece) _ p.sent rest in
            rw (colored-append, ← p.part) both
        | inr f ↦
            let above = fails_above (failures old.inner) old mid piece below (omega arith) f in
            let more = stays_above pieces (failures old.inner) mid new on_mid below above calls.2 in
            absurd (omega (arith, more))
      ]

  pub whole_text : (old new : Coloring K) (text : List ℕ) → old.on ≡ true → failures old.inner < last_count → Sends (Takes takes failures) (λ c. failures c.inner) old text new → Sends takes failures old.inner (colored old.part text) new.inner
  whole_text old new text on below s =
      subst (λ (l : List ℕ). Sends takes failures old.inner (colored old.part l) new.inner) s.whole (paints_calls s.pieces old new on below s.none_failed s.calls)
