-- Parts between units, and walks over units.
use Rattle.std.proofs.Common.{◌≡◌, ℕ, zero, suc, ◌+◌, ◌<◌, ◌≤◌, Bool, true, false, cond, eqb, ltb, List, [], ◌∷◌, ◌++◌, length, take, drop, get_or, refl, sym, ap, ◌∙◌, append_assoc, arith, inl, inr}
use Rattle.std.specs.Prelude.{◌||◌}
use Rattle.std.specs.List.{onto_first}
use Rattle.std.proofs.lemmas.List.{append-nil, take_more, drop_more, take-append-drop, length-take-le}
use Rattle.std.proofs.lemmas.Bool.{cases_eq, eq-eqb, ne_eqb, lt-ltb}
use Rattle.pg_copy_text.specs.declared.scan.Scan.{Scan}
use Rattle.pg_copy_text.specs.Text.{newline, carriage_return, backslash, parts_from, parts, has_unit, ends_escaped}
use Rattle.pg_copy_text.specs.Private.Units.{units_from, units, IsPlain, after, IsCounted, IsUnitAt}

-- no unit of the bytes is the mark alone, where the first byte is escaped or not
abbrev pub IsUncut : Bool → ℕ → List ℕ → Type 0
IsUncut escaped mark [] = Unit {0}
IsUncut true mark (b ∷ bs) = IsUncut false mark bs
IsUncut false mark (b ∷ bs) = (eqb b mark ≡ false) × IsUncut (eqb b 92) mark bs

-- these bytes before the first part
abbrev pub before_first_part : List ℕ → List (List ℕ) → List (List ℕ)
before_first_part xs [] = xs ∷ []
before_first_part xs (p ∷ ps) = (xs ++ p) ∷ ps

onto-before : (b : ℕ) (xs : List ℕ) (ps : List (List ℕ)) → onto_first b (before_first_part xs ps) ≡ before_first_part (b ∷ xs) ps
onto-before b xs [] = refl
onto-before b xs (p ∷ ps) = refl

pub ends_escaped-append : (e : Bool) (a b : List ℕ) → ends_escaped e (a ++ b) ≡ ends_escaped (ends_escaped e a) b
ends_escaped-append e [] b = refl
ends_escaped-append true (x ∷ a) b = ends_escaped-append false a b
ends_escaped-append false (x ∷ a) b = ends_escaped-append (eqb x 92) a b

pub IsUncut-append : (e : Bool) (mark : ℕ) (a b : List ℕ) → IsUncut e mark a → IsUncut (ends_escaped e a) mark b → IsUncut e mark (a ++ b)
IsUncut-append e mark [] b h k = k
IsUncut-append true mark (x ∷ a) b h k = IsUncut-append false mark a b h k
IsUncut-append false mark (x ∷ a) b h k = (h.0, IsUncut-append (eqb x 92) mark a b h.1 k)

onto_first-same : (x : ℕ) (ps : List (List ℕ)) → onto_first x ps ≡ before_first_part [] (onto_first x ps)
onto_first-same x [] = refl
onto_first-same x (p ∷ ps) = refl

cond-same : (t : Bool) (ps qs : List (List ℕ)) → ps ≡ before_first_part [] ps → qs ≡ before_first_part [] qs → cond t ps qs ≡ before_first_part [] (cond t ps qs)
cond-same true ps qs h k = h
cond-same false ps qs h k = k

pub parts_from-same : (e : Bool) (mark : ℕ) (b : List ℕ) → parts_from e mark b ≡ before_first_part [] (parts_from e mark b)
parts_from-same e mark [] = refl
parts_from-same true mark (x ∷ b) = onto_first-same x (parts_from false mark b)
parts_from-same false mark (x ∷ b) = cond-same (eqb x mark) ([] ∷ parts_from false mark b) (onto_first x (parts_from (eqb x 92) mark b)) refl (onto_first-same x (parts_from (eqb x 92) mark b))

-- bytes with no mark come before the first part of what follows them
pub parts_from-uncut : (e : Bool) (mark : ℕ) (a b : List ℕ) → IsUncut e mark a → parts_from e mark (a ++ b) ≡ before_first_part a (parts_from (ends_escaped e a) mark b)
parts_from-uncut e mark [] b h = parts_from-same e mark b
parts_from-uncut true mark (x ∷ a) b h = ap (onto_first x) (parts_from-uncut false mark a b h) ∙ onto-before x a (parts_from (ends_escaped false a) mark b)
parts_from-uncut false mark (x ∷ a) b h = rw h.0 (ap (onto_first x) (parts_from-uncut (eqb x 92) mark a b h.1) ∙ onto-before x a (parts_from (ends_escaped (eqb x 92) a) mark b))

-- the parts of bytes with no mark are the bytes alone
pub parts-uncut : (mark : ℕ) (a : List ℕ) → IsUncut false mark a → parts mark a ≡ a ∷ []
parts-uncut mark a h = ap (parts_from false mark) (sym (append-nil a)) ∙ parts_from-uncut false mark a [] h ∙ ap (λ (x : List ℕ). x ∷ []) (append-nil a)

-- a part with the mark after it is the first part
pub parts-cut : (mark : ℕ) (a b : List ℕ) → IsUncut false mark a → ends_escaped false a ≡ false → parts mark (a ++ mark ∷ b) ≡ a ∷ parts mark b
parts-cut mark a b h closed =
    let e : parts_from (ends_escaped false a) mark (mark ∷ b) ≡ [] ∷ parts mark b = rw (closed, eq-eqb mark mark refl) refl in
    parts_from-uncut false mark a (mark ∷ b) h ∙ ap (before_first_part a) e ∙ ap (λ (x : List ℕ). x ∷ parts mark b) (append-nil a)

-- ---- how many units are the mark

pub units-append : (e : Bool) (mark : ℕ) (a b : List ℕ) → units_from e mark (a ++ b) ≡ units_from e mark a + units_from (ends_escaped e a) mark b
units-append e mark [] b = omega arith
units-append true mark (x ∷ a) b = units-append false mark a b
units-append false mark (x ∷ a) b = omega (arith, units-append (eqb x 92) mark a b)

no_sum : (m n : ℕ) → m + n ≡ 0 → (m ≡ 0) × (n ≡ 0)
no_sum m n h = (omega arith, omega arith)

no_one : (t : Bool) → ◌≡◌ {A = ℕ} (cond t 1 0) 0 → t ≡ false
no_one true h = absurd (omega arith)
no_one false h = refl

pub uncut-units : (e : Bool) (mark : ℕ) (a : List ℕ) → units_from e mark a ≡ 0 → IsUncut e mark a
uncut-units e mark [] h = tt
uncut-units true mark (x ∷ a) h = uncut-units false mark a h
uncut-units false mark (x ∷ a) h =
    let p = no_sum (cond (eqb x mark) 1 0) (units_from (eqb x 92) mark a) h in
    (no_one (eqb x mark) p.0, uncut-units (eqb x 92) mark a p.1)

length-onto : (b : ℕ) (ps : List (List ℕ)) → 0 < length ps → length (onto_first b ps) ≡ length ps
length-onto b [] lt = absurd (omega arith)
length-onto b (p ∷ ps) lt = refl

-- there is one part more than there are marks
pub parts-length : (e : Bool) (mark : ℕ) (bytes : List ℕ) → (mark ≡ 92 → ⊥) → length (parts_from e mark bytes) ≡ units_from e mark bytes + 1
parts-length e mark [] ne = refl
parts-length true mark (b ∷ bs) ne =
    let h = parts-length false mark bs ne in
    length-onto b (parts_from false mark bs) (omega arith) ∙ h
parts-length false mark (b ∷ bs) ne = elim (cases_eq b mark) [
  | inl e ↦
      let no_backslash : eqb b 92 ≡ false = ne_eqb b 92 (λ f. ne (sym e ∙ f)) in
      rw (eq-eqb b mark e, no_backslash) (omega (arith, parts-length false mark bs ne))
  | inr other ↦
      let h = parts-length (eqb b 92) mark bs ne in
      rw (ne_eqb b mark other) (length-onto b (parts_from (eqb b 92) mark bs) (omega arith) ∙ h ∙ omega arith)
]

pub parts-some : (e : Bool) (mark : ℕ) (bytes : List ℕ) → (mark ≡ 92 → ⊥) → 0 < length (parts_from e mark bytes)
parts-some e mark bytes ne = omega (arith, parts-length e mark bytes ne)

few : (t : Bool) (m n : ℕ) → m ≤ n → cond t 1 0 + m ≤ suc n
few true m n h = omega arith
few false m n h = omega arith

pub units-few : (e : Bool) (mark : ℕ) (bytes : List ℕ) → units_from e mark bytes ≤ length bytes
units-few e mark [] = omega arith
units-few true mark (b ∷ bs) = omega (arith, units-few false mark bs)
units-few false mark (b ∷ bs) = few (eqb b mark) (units_from (eqb b 92) mark bs) (length bs) (units-few (eqb b 92) mark bs)

-- ---- a walk

pub counted-few : (delimiter : ℕ) (bytes : List ℕ) (s : Scan) → IsCounted delimiter bytes s → s.delimiters ≤ s.at
counted-few delimiter bytes s h = omega (arith, units-few false delimiter (take s.at bytes), length-take-le s.at bytes h.in_range, h.delimiters)

-- one byte more
counted-more : (delimiter : ℕ) (bytes : List ℕ) (s t : Scan) (i b : ℕ) → i < length bytes → get_or bytes i 0 ≡ b → IsCounted delimiter bytes (record s { at = i })
    → ends_escaped s.escaped (b ∷ []) ≡ t.escaped → s.delimiters + units_from s.escaped delimiter (b ∷ []) ≡ t.delimiters
    → ((n : ℕ) → ltb 0 n ≡ s.returned → ltb 0 (n + units_from s.escaped carriage_return (b ∷ [])) ≡ t.returned) → ((n : ℕ) → ltb 0 n ≡ s.newlined → ltb 0 (n + units_from s.escaped newline (b ∷ [])) ≡ t.newlined) → IsCounted delimiter bytes (record t { at = i + 1 })
counted-more delimiter bytes s t i b lt is h escaped delimiters returned newlined =
    let more : take (i + 1) bytes ≡ take i bytes ++ b ∷ [] = take_more bytes i 0 lt ∙ ap (λ (x : ℕ). take i bytes ++ x ∷ []) is in
    let units_more : (mark : ℕ) → units mark (take (i + 1) bytes) ≡ units mark (take i bytes) + units_from s.escaped mark (b ∷ []) =
    λ mark. ap (units mark) more ∙ units-append false mark (take i bytes) (b ∷ []) ∙ ap (λ (e : Bool). units mark (take i bytes) + units_from e mark (b ∷ [])) h.escaped in
    record {
      in_range = omega arith;
      escaped = ap (ends_escaped false) more ∙ ends_escaped-append false (take i bytes) (b ∷ []) ∙ ap (λ (e : Bool). ends_escaped e (b ∷ [])) h.escaped ∙ escaped;
      delimiters = units_more delimiter ∙ ap (λ (n : ℕ). n + units_from s.escaped delimiter (b ∷ [])) h.delimiters ∙ delimiters;
      returned = ap (ltb 0) (units_more carriage_return) ∙ returned (units carriage_return (take i bytes)) h.returned;
      newlined = ap (ltb 0) (units_more newline) ∙ newlined (units newline (take i bytes)) h.newlined;
    }

same_after : (n : ℕ) (t : Bool) → ltb 0 n ≡ t → ltb 0 (n + 0) ≡ t
same_after n t h = let e : n + 0 ≡ n = omega arith in ap (ltb 0) e ∙ h

noted : (n : ℕ) (r t : Bool) → ltb 0 n ≡ r → ltb 0 (n + (cond t 1 0 + 0)) ≡ (r || t)
noted n true true h = lt-ltb 0 (n + 1) (omega arith)
noted n false true h = lt-ltb 0 (n + 1) (omega arith)
noted n true false h = same_after n true h
noted n false false h = same_after n false h

-- one plain byte more
pub counted-plain : (delimiter : ℕ) (bytes : List ℕ) (s : Scan) (i : ℕ) → i < length bytes → IsPlain delimiter (get_or bytes i 0) → s.escaped ≡ false → IsCounted delimiter bytes (record s { at = i }) → IsCounted delimiter bytes (record s { at = i + 1 })
counted-plain delimiter bytes s i lt p e h =
    counted-more delimiter bytes s s i _ lt refl h (rw (e, p.no_backslash) refl) (rw (e, p.no_delimiter) (omega arith)) (λ n k. rw (e, p.no_return) (same_after n s.returned k)) (λ n k. rw (e, p.no_newline) (same_after n s.newlined k))

-- one byte more
pub counted-after : (delimiter : ℕ) (bytes : List ℕ) (s : Scan) (b : ℕ) → s.at < length bytes → get_or bytes s.at 0 ≡ b → IsCounted delimiter bytes s → IsCounted delimiter bytes (after delimiter s b)
counted-after delimiter bytes s b lt is h = go s.escaped refl
  where
    go : (t : Bool) → s.escaped ≡ t → IsCounted delimiter bytes (cond t (record { at = s.at + 1; escaped = false; delimiters = s.delimiters; returned = s.returned; newlined = s.newlined }) (record { at = s.at + 1; escaped = eqb b backslash; delimiters = s.delimiters + cond (eqb b delimiter) 1 0; returned = s.returned || eqb b carriage_return; newlined = s.newlined || eqb b newline }))
    go true e = counted-more delimiter bytes s (record { at = s.at; escaped = false; delimiters = s.delimiters; returned = s.returned; newlined = s.newlined }) s.at b lt is h (rw e refl) (rw e (omega arith)) (λ n k. rw e (same_after n s.returned k)) (λ n k. rw e (same_after n s.newlined k))
    go false e = counted-more delimiter bytes s (record { at = s.at; escaped = eqb b backslash; delimiters = s.delimiters + cond (eqb b delimiter) 1 0; returned = s.returned || eqb b carriage_return; newlined = s.newlined || eqb b newline }) s.at b lt is h (rw e refl) (rw e (omega arith)) (λ n k. rw e (noted n s.returned (eqb b carriage_return) k)) (λ n k. rw e (noted n s.newlined (eqb b newline) k))

-- ---- the first part

pub parts-at : (mark : ℕ) (bytes more : List ℕ) (n : ℕ) → IsUnitAt mark bytes n → parts mark (bytes ++ more) ≡ take n bytes ∷ parts mark (drop (n + 1) bytes ++ more)
parts-at mark bytes more n h =
    let cut : drop n bytes ≡ mark ∷ drop (n + 1) bytes = rw (drop_more bytes n 0 h.in_range) (ap (λ (x : ℕ). x ∷ drop (n + 1) bytes) h.is) in
    let whole : bytes ++ more ≡ take n bytes ++ mark ∷ (drop (n + 1) bytes ++ more) = ap (λ (x : List ℕ). x ++ more) (sym (take-append-drop n bytes)) ∙ append_assoc (take n bytes) (drop n bytes) more ∙ ap (λ (x : List ℕ). take n bytes ++ (x ++ more)) cut in
    ap (parts mark) whole ∙ parts-cut mark (take n bytes) (drop (n + 1) bytes ++ more) (uncut-units false mark (take n bytes) h.none) h.closed

pub parts-first : (mark : ℕ) (bytes : List ℕ) (n : ℕ) → IsUnitAt mark bytes n → parts mark bytes ≡ take n bytes ∷ parts mark (drop (n + 1) bytes)
parts-first mark bytes n h =
    ap (parts mark) (sym (append-nil bytes)) ∙ parts-at mark bytes [] n h ∙ ap (λ (x : List ℕ). take n bytes ∷ parts mark x) (append-nil (drop (n + 1) bytes))

-- no mark, so one part
pub parts-none : (mark : ℕ) (bytes : List ℕ) → units mark bytes ≡ 0 → parts mark bytes ≡ bytes ∷ []
parts-none mark bytes h = parts-uncut mark bytes (uncut-units false mark bytes h)

one_more : (n : ℕ) (t : Bool) → ltb 0 n ≡ t → ltb 1 (n + 1) ≡ t
one_more zero t h = h
one_more (suc n) t h = lt-ltb 1 (suc n + 1) (omega arith) ∙ sym (lt-ltb 0 (suc n) (omega arith)) ∙ h

pub has_unit-is : (mark : ℕ) (bytes : List ℕ) (t : Bool) → (mark ≡ 92 → ⊥) → ltb 0 (units mark bytes) ≡ t → has_unit mark bytes ≡ t
has_unit-is mark bytes t ne h = ap (ltb 1) (parts-length false mark bytes ne) ∙ one_more (units mark bytes) t h

pub has_unit-none : (mark : ℕ) (bytes : List ℕ) → parts mark bytes ≡ bytes ∷ [] → has_unit mark bytes ≡ false
has_unit-none mark bytes h = rw h refl
