-- Texts and rows that are written piece by piece.
use Rattle.std.proofs.Common.{◌≡◌, ℕ, ◌+◌, ◌-◌, ◌<◌, ◌≤◌, List, [], ◌∷◌, ◌++◌, length, take, drop, map, get_or, Bool, true, false, eqb, Option, Some, None, zero, suc, refl, sym, ap, subst, ◌∙◌, append_assoc, arith}
use Rattle.std.specs.List.{flat_map, join_with_byte}
use Rattle.std.proofs.lemmas.List.{take_more, drop-append-le, drop_all, take_all, length-take, length-take-le, append-nil, flat_map_more, map_push, length-map, length-append, drop-take}
use Rattle.std.specs.Str.{bytes_eq}
use Rattle.std.specs.Cmp.Lexicographic.{unequal}
use Rattle.pg_copy_rows.specs.Row.{Row}
use Rattle.pg_copy_rows.proofs.Writing.{GoesOn, GoesOn-append}
use Rattle.pg_copy_text.specs.Private.Units.{IsPlain}
use Rattle.pg_copy_text.specs.Text.{Options, letter_for, with_letter, written_byte, written_field, written_fields}

-- the text is written up to i, but for a run from start on that is copied as it is
pub record IsRunning (delimiter : ℕ) (old text : List ℕ) (start i : ℕ) (new : List ℕ) : Type 0 where
  pub in_range : start ≤ i
  pub written : new ++ drop start (take i text) ≡ old ++ flat_map (written_byte delimiter) (take i text)
  pub goes_on : GoesOn old new

pub run_is : (text : List ℕ) (start i : ℕ) → start ≤ i → take (i - start) (drop start text) ≡ drop start (take i text)
run_is text start i le =
    let e : start + (i - start) ≡ i = omega arith in
    sym (drop-take start (i - start) text) ∙ ap (λ (n : ℕ). drop start (take n text)) e

pub IsRunning-none : (delimiter : ℕ) (old text : List ℕ) → IsRunning delimiter old text 0 0 old
IsRunning-none delimiter old text = record { in_range = omega arith; written = refl; goes_on = take_all (length old) old (omega arith) }

-- one more byte of the text
flat_map_at : (delimiter : ℕ) (text : List ℕ) (i b : ℕ) → i < length text → get_or text i 0 ≡ b → flat_map (written_byte delimiter) (take (i + 1) text) ≡ flat_map (written_byte delimiter) (take i text) ++ written_byte delimiter b
flat_map_at delimiter text i b lt is =
    rw (take_more text i 0 lt, is) (sym (flat_map_more (written_byte delimiter) [] (take i text) b))

pub IsRunning-plain : (delimiter : ℕ) (old text : List ℕ) (start i : ℕ) (new : List ℕ) (b : ℕ) → i < length text → get_or text i 0 ≡ b → letter_for delimiter b ≡ None → IsRunning delimiter old text start i new → IsRunning delimiter old text start (i + 1) new
IsRunning-plain delimiter old text start i new b lt is plain h =
    let within : start ≤ length (take i text) = rw (length-take-le i text (omega arith)) h.in_range in
    let run : drop start (take (i + 1) text) ≡ drop start (take i text) ++ b ∷ [] = rw (take_more text i 0 lt, is) (drop-append-le start (take i text) (b ∷ []) within) in
    let same : written_byte delimiter b ≡ b ∷ [] = ap (λ (o : Option ℕ). with_letter o b) plain in
    let all : flat_map (written_byte delimiter) (take (i + 1) text) ≡ flat_map (written_byte delimiter) (take i text) ++ b ∷ [] = flat_map_at delimiter text i b lt is ∙ ap (λ (x : List ℕ). flat_map (written_byte delimiter) (take i text) ++ x) same in
    record {
      in_range = omega (arith, h.in_range);
      written = rw (run, all) (sym (append_assoc new (drop start (take i text)) (b ∷ [])) ∙ ap (λ (x : List ℕ). x ++ b ∷ []) h.written ∙ append_assoc old (flat_map (written_byte delimiter) (take i text)) (b ∷ []));
      goes_on = h.goes_on;
    }

-- plain bytes more
pub IsRunning-run : (delimiter : ℕ) (old text : List ℕ) (start at n : ℕ) (new : List ℕ) → at + n ≤ length text → ((i : ℕ) → at ≤ i → i < at + n → IsPlain delimiter (get_or text i 0)) → IsRunning delimiter old text start at new → IsRunning delimiter old text start (at + n) new
IsRunning-run delimiter old text start at zero new le plain h = let same : at ≡ at + 0 = omega arith in subst (λ (i : ℕ). IsRunning delimiter old text start i new) same h
IsRunning-run delimiter old text start at (suc n) new le plain h =
    let same : at + n + 1 ≡ at + suc n = omega arith in
    subst (λ (i : ℕ). IsRunning delimiter old text start i new) same (IsRunning-plain delimiter old text start (at + n) new _ (omega arith) refl (plain (at + n) (omega arith) (omega arith)).no_letter (IsRunning-run delimiter old text start at n new (omega arith) (λ i a b. plain i a (omega (arith, b))) h))

pub IsRunning-letter : (delimiter : ℕ) (old text : List ℕ) (start i : ℕ) (new : List ℕ) (b letter : ℕ) → i < length text → get_or text i 0 ≡ b → letter_for delimiter b ≡ Some letter → IsRunning delimiter old text start i new
    → IsRunning delimiter old text (i + 1) (i + 1) ((new ++ take (i - start) (drop start text)) ++ 92 ∷ letter ∷ [])
IsRunning-letter delimiter old text start i new b letter lt is found h =
    let none : drop (i + 1) (take (i + 1) text) ≡ [] = drop_all (i + 1) (take (i + 1) text) (omega (arith, length-take (i + 1) text)) in
    let same : written_byte delimiter b ≡ 92 ∷ letter ∷ [] = ap (λ (o : Option ℕ). with_letter o b) found in
    let all : flat_map (written_byte delimiter) (take (i + 1) text) ≡ flat_map (written_byte delimiter) (take i text) ++ 92 ∷ letter ∷ [] = flat_map_at delimiter text i b lt is ∙ ap (λ (x : List ℕ). flat_map (written_byte delimiter) (take i text) ++ x) same in
    let run : new ++ take (i - start) (drop start text) ≡ old ++ flat_map (written_byte delimiter) (take i text) = rw (run_is text start i h.in_range) h.written in
    record {
      in_range = omega arith;
      written = rw (none, all, run) (append-nil ((old ++ flat_map (written_byte delimiter) (take i text)) ++ 92 ∷ letter ∷ []) ∙ append_assoc old (flat_map (written_byte delimiter) (take i text)) (92 ∷ letter ∷ []));
      goes_on = GoesOn-append old (new ++ take (i - start) (drop start text)) (92 ∷ letter ∷ []) (GoesOn-append old new (take (i - start) (drop start text)) h.goes_on);
    }

-- some fields of a row are written
pub record IsBegun (o : Options) (old : List ℕ) (fields : List (Option (List ℕ))) (new : List ℕ) : Type 0 where
  pub written : new ≡ old ++ written_fields o fields
  pub goes_on : GoesOn old new

join_more : (pieces : List (List ℕ)) (piece : List ℕ) (c : ℕ) → 0 < length pieces → join_with_byte c (pieces ++ piece ∷ []) ≡ join_with_byte c pieces ++ (c ∷ piece)
join_more [] piece c lt = absurd (omega arith)
join_more (p ∷ []) piece c lt = refl
join_more (p ∷ q ∷ ps) piece c lt = ap (λ (x : List ℕ). p ++ (c ∷ x)) (join_more (q ∷ ps) piece c (omega arith)) ∙ sym (append_assoc p (c ∷ join_with_byte c (q ∷ ps)) (c ∷ piece))

pub IsBegun-first : (o : Options) (old : List ℕ) (fields : List (Option (List ℕ))) (new : List ℕ) (field : Option (List ℕ)) → fields ≡ [] → IsBegun o old fields new
    → IsBegun o old (fields ++ field ∷ []) (new ++ written_field o field)
IsBegun-first o old fields new field none h =
    let e : written_fields o (fields ++ field ∷ []) ≡ written_field o field = rw none refl in
    let before : new ≡ old = h.written ∙ rw none (append-nil old) in
    record { written = rw (e, before) refl; goes_on = GoesOn-append old new (written_field o field) h.goes_on }

pub IsBegun-more : (o : Options) (old : List ℕ) (fields : List (Option (List ℕ))) (new : List ℕ) (field : Option (List ℕ)) → 0 < length fields → IsBegun o old fields new
    → IsBegun o old (fields ++ field ∷ []) ((new ++ o.delimiter ∷ []) ++ written_field o field)
IsBegun-more o old fields new field lt h =
    let some : 0 < length (map (written_field o) fields) = omega (arith, length-map fields (written_field o)) in
    let e : written_fields o (fields ++ field ∷ []) ≡ written_fields o fields ++ (o.delimiter ∷ written_field o field) = ap (join_with_byte o.delimiter) (map_push (written_field o) fields field) ∙ join_more (map (written_field o) fields) (written_field o field) o.delimiter some in
    record {
      written = rw (e, h.written) (simp append_assoc);
      goes_on = GoesOn-append old (new ++ o.delimiter ∷ []) (written_field o field) (GoesOn-append old new (o.delimiter ∷ []) h.goes_on);
    }

-- The first values of a row are written, and these are left; `first` says that none is.
pub record WritesRow (o : Options) (old : List ℕ) (row : Row) (rest : Row) (first : Bool) (new : List ℕ) : Type 0 where
  pub done : Row
  pub all : done ++ rest ≡ row
  pub begun : IsBegun o old done new
  pub none : first ≡ true → done ≡ []
  pub some : first ≡ false → 0 < length done

pub row-begins : (o : Options) (old : List ℕ) (row : Row) → WritesRow o old row row true old
row-begins o old row = record {
  done = [];
  all = refl;
  begun = record { written = sym (append-nil old); goes_on = take_all (length old) old (omega arith) };
  none = λ e. refl;
  some = λ e. absurd (clash e);
}
  where
    clash : true ≡ false → ⊥
    clash e = cc

-- one value more
row-more : (o : Options) (old : List ℕ) (row rest : Row) (field : Option (List ℕ)) (first : Bool) (new new' : List ℕ) → (h : WritesRow o old row (field ∷ rest) first new) → IsBegun o old (h.done ++ field ∷ []) new' → WritesRow o old row rest false new'
row-more o old row rest field first new new' h begun = record {
  done = h.done ++ field ∷ [];
  all = append_assoc h.done (field ∷ []) rest ∙ h.all;
  begun = begun;
  none = λ e. absurd (clash e);
  some = λ e. omega (arith, length-append h.done (field ∷ []));
}
  where
    clash : false ≡ true → ⊥
    clash e = cc

pub row-first : (o : Options) (old : List ℕ) (row left rest : Row) (field : Option (List ℕ)) (new : List ℕ) → left ≡ field ∷ rest → WritesRow o old row left true new → WritesRow o old row rest false (new ++ written_field o field)
row-first o old row left rest field new e h =
    let k = rw e at h in
    row-more o old row rest field true new (new ++ written_field o field) k (IsBegun-first o old k.done new field (k.none refl) k.begun)

pub row-next : (o : Options) (old : List ℕ) (row left rest : Row) (field : Option (List ℕ)) (new : List ℕ) → left ≡ field ∷ rest → WritesRow o old row left false new → WritesRow o old row rest false ((new ++ o.delimiter ∷ []) ++ written_field o field)
row-next o old row left rest field new e h =
    let k = rw e at h in
    row-more o old row rest field false new ((new ++ o.delimiter ∷ []) ++ written_field o field) k (IsBegun-more o old k.done new field (k.some refl) k.begun)

pub row-ends : (o : Options) (old : List ℕ) (row left : Row) (first : Bool) (new : List ℕ) → left ≡ [] → WritesRow o old row left first new → IsBegun o old row new
row-ends o old row left first new e h =
    let all : h.done ≡ row = sym (append-nil h.done) ∙ ap (λ (rest : Row). h.done ++ rest) (sym e) ∙ h.all in
    subst (λ (r : Row). IsBegun o old r new) all h.begun

-- ---- no text is written with fewer bytes than it has

letter_first : (l : Option ℕ) (b : ℕ) → 1 ≤ length (with_letter l b)
letter_first None b = omega arith
letter_first (Some letter) b = omega arith

written_longer : (delimiter : ℕ) (text : List ℕ) → length text ≤ length (flat_map (written_byte delimiter) text)
written_longer delimiter [] = omega arith
written_longer delimiter (b ∷ text) =
    let first = letter_first (letter_for delimiter b) b in
    let rest = written_longer delimiter text in
    omega (arith, first, rest, length-append (written_byte delimiter b) (flat_map (written_byte delimiter) text))

pub longer-unlike : (delimiter : ℕ) (text mark : List ℕ) → length mark < length text → bytes_eq (flat_map (written_byte delimiter) text) mark ≡ false
longer-unlike delimiter text mark longer = unequal eqb (flat_map (written_byte delimiter) text) mark (λ e. omega (arith, e, longer, written_longer delimiter text))
