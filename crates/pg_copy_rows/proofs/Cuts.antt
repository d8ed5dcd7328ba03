-- Values that stand in bytes, each ended by a cut.
use Rattle.std.proofs.Common.{◌≡◌, ℕ, zero, suc, ◌+◌, ◌-◌, ◌<◌, ◌≤◌, cond, eqb, List, [], ◌∷◌, ◌++◌, length, take, drop, get_or, Option, Some, None, sym, ap, ◌∙◌, refl, arith}
use Rattle.std.specs.List.{slice_get}
use Rattle.std.proofs.lemmas.List.{take_more, take_at, take-take, take-append-le, length-append, length-drop}
use Rattle.std.proofs.lemmas.Bool.{eq-eqb, ne_eqb, cond-true, cond-false}
use Rattle.std.proofs.lemmas.Option.{slice_get_past}
use Rattle.std.proofs.lemmas.Slice.{between_is}
use Rattle.pg_copy_rows.specs.Row.{Row}
use Rattle.pg_copy_rows.specs.Private.Cuts.{value_by, values_by, last_cut, AreCuts, AreTexts}

pub last-more : (start : ℕ) (cuts : List ℕ) (cut : ℕ) → last_cut start (cuts ++ cut ∷ []) ≡ cut
last-more start [] cut = refl
last-more start (c ∷ cuts) cut = last-more c cuts cut

pub values-more : (start : ℕ) (cuts : List ℕ) (cut : ℕ) (bytes : List ℕ) → values_by start (cuts ++ cut ∷ []) bytes ≡ values_by start cuts bytes ++ value_by (last_cut start cuts) cut bytes ∷ []
values-more start [] cut bytes = refl
values-more start (c ∷ cuts) cut bytes = ap (λ (row : Row). value_by start c bytes ∷ row) (values-more c cuts cut bytes)

pub cuts-wider : (start : ℕ) (cuts : List ℕ) (n m : ℕ) → n ≤ m → AreCuts start cuts n → AreCuts start cuts m
cuts-wider start [] n m le h = tt
cuts-wider start (cut ∷ cuts) n m le h = (h.0, omega (arith, le, h.1), cuts-wider cut cuts n m le h.2)

pub cuts-more : (start : ℕ) (cuts : List ℕ) (cut len : ℕ) → last_cut start cuts ≤ cut → cut ≤ len + 1 → AreCuts start cuts len → AreCuts start (cuts ++ cut ∷ []) len
cuts-more start [] cut len le within h = (le, within, tt)
cuts-more start (c ∷ cuts) cut len le within h = (h.0, h.1, cuts-more c cuts cut len le within h.2)

pub last-behind : (start : ℕ) (cuts : List ℕ) (len : ℕ) → AreCuts start cuts len → start ≤ last_cut start cuts
last-behind start [] len h = omega arith
last-behind start (cut ∷ cuts) len h = omega (arith, h.0, last-behind cut cuts len h.2)

pub last-within : (start : ℕ) (cuts : List ℕ) (len : ℕ) → start ≤ len + 1 → AreCuts start cuts len → last_cut start cuts ≤ len + 1
last-within start [] len le h = le
last-within start (cut ∷ cuts) len le h = last-within cut cuts len h.1 h.2

-- they are the same in other bytes that begin so
value-same : (start cut n : ℕ) (xs ys : List ℕ) → cut ≤ n + 1 → take n xs ≡ take n ys → value_by start cut xs ≡ value_by start cut ys
value-same start cut n xs ys le e =
    let within : cut - 1 ≤ n = omega (arith, le) in
    let front : take (cut - 1) xs ≡ take (cut - 1) ys = sym (take-take (cut - 1) n xs within) ∙ ap (take (cut - 1)) e ∙ take-take (cut - 1) n ys within in
    ap (λ (x : List ℕ). cond (eqb cut start) None (Some x)) (between_is xs start (cut - 1) ∙ ap (drop start) front ∙ sym (between_is ys start (cut - 1)))

pub values-same : (start : ℕ) (cuts : List ℕ) (len n : ℕ) (xs ys : List ℕ) → AreCuts start cuts len → last_cut start cuts ≤ n + 1 → take n xs ≡ take n ys → values_by start cuts xs ≡ values_by start cuts ys
values-same start [] len n xs ys h le e = refl
values-same start (cut ∷ cuts) len n xs ys h le e =
    let within : cut ≤ n + 1 = omega (arith, le, last-behind cut cuts len h.2) in
    ap (λ (v : Option (List ℕ)). v ∷ values_by cut cuts xs) (value-same start cut n xs ys within e) ∙ ap (λ (row : Row). value_by start cut ys ∷ row) (values-same cut cuts len n xs ys h.2 le e)

-- a row that stands in bytes stands in what begins with them too
pub texts-front : (row : Row) (cuts line more : List ℕ) → AreTexts row cuts line → AreTexts row cuts (line ++ more)
texts-front row cuts line more h =
    let n = length line in
    let front : take n (line ++ more) ≡ take n line = take-append-le n line more (omega arith) in
    record {
      cut = cuts-wider 0 cuts n (length (line ++ more)) (omega (arith, length-append line more)) h.cut;
      values = values-same 0 cuts n n (line ++ more) line h.cut (last-within 0 cuts n (omega arith) h.cut) front ∙ h.values;
    }

-- ---- the values one by one

pub values-count : (start : ℕ) (cuts bytes : List ℕ) → length (values_by start cuts bytes) ≡ length cuts
values-count start [] bytes = refl
values-count start (cut ∷ cuts) bytes = ap suc (values-count cut cuts bytes)

pub values-past : (start : ℕ) (cuts bytes : List ℕ) (i : ℕ) → length cuts ≤ i → slice_get (values_by start cuts bytes) i ≡ None
values-past start cuts bytes i le = slice_get_past (values_by start cuts bytes) i (omega (arith, le, values-count start cuts bytes))

-- where a value begins and ends
pub record IsValueAt (start : ℕ) (cuts bytes : List ℕ) (i : ℕ) : Type 0 where
  pub order : last_cut start (take i cuts) ≤ get_or cuts i 0
  pub within : get_or cuts i 0 ≤ length bytes + 1
  pub is : slice_get (values_by start cuts bytes) i ≡ Some (value_by (last_cut start (take i cuts)) (get_or cuts i 0) bytes)

pub value-at : (start : ℕ) (cuts bytes : List ℕ) (i : ℕ) → AreCuts start cuts (length bytes) → i < length cuts → IsValueAt start cuts bytes i
value-at start [] bytes i h lt = absurd (omega (arith, lt))
value-at start (cut ∷ cuts) bytes zero h lt = record { order = h.0; within = h.1; is = refl }
value-at start (cut ∷ cuts) bytes (suc i) h lt =
    let rest = value-at cut cuts bytes i h.2 (omega (arith, lt)) in
    record { order = rest.order; within = rest.within; is = rest.is }

pub start-more : (start : ℕ) (cuts : List ℕ) (i : ℕ) → 0 < i → i ≤ length cuts → last_cut start (take i cuts) ≡ get_or cuts (i - 1) 0
start-more start cuts i some le =
    let place : i - 1 + 1 ≡ i = omega (arith, some) in
    ap (λ (n : ℕ). last_cut start (take n cuts)) (sym place) ∙ ap (last_cut start) (take_more cuts (i - 1) 0 (omega (arith, some, le))) ∙ last-more start (take (i - 1) cuts) (get_or cuts (i - 1) 0)

-- ---- a value more

-- cuts of other bytes, where the last is one of them
cuts-fit : (start : ℕ) (cuts : List ℕ) (n m : ℕ) → last_cut start cuts ≤ m + 1 → AreCuts start cuts n → AreCuts start cuts m
cuts-fit start [] n m le h = tt
cuts-fit start (cut ∷ cuts) n m le h = (h.0, omega (arith, le, last-behind cut cuts n h.2), cuts-fit cut cuts n m le h.2)

-- the values stand there still, where the bytes up to the last cut do
pub record StandStill (cuts old new : List ℕ) : Type 0 where
  pub cut : AreCuts 0 cuts (length new)
  pub values : values_by 0 cuts new ≡ values_by 0 cuts old

pub stand-still : (cuts old new : List ℕ) → AreCuts 0 cuts (length old) → take (last_cut 0 cuts - 1) new ≡ take (last_cut 0 cuts - 1) old → last_cut 0 cuts ≤ length new + 1 → StandStill cuts old new
stand-still cuts old new h front le = record {
  cut = cuts-fit 0 cuts (length old) (length new) le h;
  values = values-same 0 cuts (length old) (last_cut 0 cuts - 1) new old h (omega arith) front;
}

-- a row with a value more
pub record IsPushed (cuts old new : List ℕ) (end : ℕ) (value : Option (List ℕ)) : Type 0 where
  pub cut : AreCuts 0 (cuts ++ end ∷ []) (length new)
  pub values : values_by 0 (cuts ++ end ∷ []) new ≡ values_by 0 cuts old ++ value ∷ []

pub push-null : (cuts bytes : List ℕ) → AreCuts 0 cuts (length bytes) → IsPushed cuts bytes bytes (last_cut 0 cuts) None
push-null cuts bytes h =
    let n = last_cut 0 cuts in
    record {
      cut = cuts-more 0 cuts n (length bytes) (omega arith) (last-within 0 cuts (length bytes) (omega arith) h) h;
      values = values-more 0 cuts n bytes ∙ ap (λ (v : Option (List ℕ)). values_by 0 cuts bytes ++ v ∷ []) (cond-true _ _ _ (eq-eqb n n refl));
    }

pub push-text : (cuts old new text : List ℕ) → AreCuts 0 cuts (length old) → take (last_cut 0 cuts - 1) new ≡ take (last_cut 0 cuts - 1) old → drop (last_cut 0 cuts) new ≡ text ++ 0 ∷ [] → IsPushed cuts old new (length new) (Some text)
push-text cuts old new text h front behind =
    let n = last_cut 0 cuts in
    let len : length new - n ≡ length text + 1 = sym (length-drop n new) ∙ ap length behind ∙ length-append text (0 ∷ []) in
    let still = stand-still cuts old new h front (omega (arith, len)) in
    let size : length new - 1 - n ≡ length text = omega (arith, len) in
    let value : value_by n (length new) new ≡ Some text =
    cond-false _ _ _ (ne_eqb (length new) n (λ e. absurd (omega (arith, e, len)))) ∙ ap (λ (x : List ℕ). Some (take (length new - 1 - n) x)) behind ∙ ap (λ (k : ℕ). Some (take k (text ++ 0 ∷ []))) size ∙ ap (λ (x : List ℕ). Some x) (take_at text (0 ∷ []) (length text) refl) in
    record {
      cut = cuts-more 0 cuts (length new) (length new) (omega (arith, len)) (omega arith) still.cut;
      values = values-more 0 cuts (length new) new ∙ ap (λ (v : Option (List ℕ)). values_by 0 cuts new ++ v ∷ []) value ∙ ap (λ (row : Row). row ++ Some text ∷ []) still.values;
    }
