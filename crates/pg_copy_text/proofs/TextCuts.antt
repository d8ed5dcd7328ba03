-- Where the fields of a line end.
use Rattle.std.proofs.Common.{◌≡◌, ◌≢◌, ℕ, suc, ◌+◌, ◌-◌, ◌<◌, ◌≤◌, Bool, true, false, cond, eqb, List, [], ◌∷◌, ◌++◌, length, take, drop, map, get_or, Option, refl, sym, ap, subst, ◌∙◌, append_assoc, arith, inl, inr}
use Rattle.std.specs.List.{between, onto_first}
use Rattle.std.proofs.lemmas.Bool.{cases_eq, cases_lt, eq-eqb, ne_eqb}
use Rattle.std.proofs.lemmas.List.{append-nil, take_at, take_all, take-take, take-append-le, drop_more, drop-drop, take-append-drop, length-take-le, length-append, length-drop}
use Rattle.std.proofs.lemmas.List.Edits.{between_more, between_none}
use Rattle.pg_copy_rows.specs.Row.{Row}
use Rattle.pg_copy_text.specs.declared.scan.Scan.{Scan}
use Rattle.pg_copy_text.specs.Text.{parts_from, parts, ends_escaped}
use Rattle.pg_copy_text.specs.Private.Units.{units_from, units, IsCounted, IsUnitAt}
use Rattle.pg_copy_text.specs.Private.Cuts.{cuts_from, cuts_of, line_cuts, AreNoted, NotesCut}
use Rattle.pg_copy_text.proofs.TextParts.{before_first_part, parts_from-same}

-- ---- the cuts of bytes

pub cuts-append : (n : ℕ) (e : Bool) (mark : ℕ) (a b : List ℕ) → cuts_from n e mark (a ++ b) ≡ cuts_from n e mark a ++ cuts_from (n + length a) (ends_escaped e a) mark b
cuts-append n e mark [] b = let same : n ≡ n + 0 = omega arith in ap (λ (m : ℕ). cuts_from m e mark b) same
cuts-append n true mark (x ∷ a) b =
    let same : suc n + length a ≡ n + suc (length a) = omega arith in
    cuts-append (suc n) false mark a b ∙ ap (λ (m : ℕ). cuts_from (suc n) false mark a ++ cuts_from m (ends_escaped false a) mark b) same
cuts-append n false mark (x ∷ a) b =
    let same : suc n + length a ≡ n + suc (length a) = omega arith in
    let first : List ℕ = cond (eqb x mark) (suc n ∷ []) [] in
    let rest = cuts-append (suc n) (eqb x 92) mark a b ∙ ap (λ (m : ℕ). cuts_from (suc n) (eqb x 92) mark a ++ cuts_from m (ends_escaped (eqb x 92) a) mark b) same in
    ap (λ (xs : List ℕ). first ++ xs) rest ∙ sym (append_assoc first (cuts_from (suc n) (eqb x 92) mark a) (cuts_from (n + suc (length a)) (ends_escaped (eqb x 92) a) mark b))

-- there are as many as marks
pub cuts-length : (n : ℕ) (e : Bool) (mark : ℕ) (bytes : List ℕ) → length (cuts_from n e mark bytes) ≡ units_from e mark bytes
cuts-length n e mark [] = refl
cuts-length n true mark (b ∷ bs) = cuts-length (suc n) false mark bs
cuts-length n false mark (b ∷ bs) = go (eqb b mark) (cuts_from (suc n) (eqb b 92) mark bs) (cuts-length (suc n) (eqb b 92) mark bs)
  where
    go : (t : Bool) (rest : List ℕ) → length rest ≡ units_from (eqb b 92) mark bs → length (cond t (suc n ∷ []) [] ++ rest) ≡ cond t 1 0 + units_from (eqb b 92) mark bs
    go true rest h = omega (arith, h)
    go false rest h = omega (arith, h)

pub cuts-none : (n : ℕ) (e : Bool) (mark : ℕ) (bytes : List ℕ) → units_from e mark bytes ≡ 0 → cuts_from n e mark bytes ≡ []
cuts-none n e mark bytes h = empty (cuts_from n e mark bytes) (cuts-length n e mark bytes ∙ h)
  where
    empty : (xs : List ℕ) → length xs ≡ 0 → xs ≡ []
    empty [] h = refl
    empty (x ∷ xs) h = absurd (omega (arith, h))

-- ---- cuts that are noted

pub noted-none : (delimiter : ℕ) (bytes : List ℕ) → AreNoted delimiter bytes []
noted-none delimiter bytes = (cuts_of delimiter bytes, refl)

pub noted-all : (delimiter : ℕ) (bytes noted : List ℕ) → noted ≡ cuts_of delimiter bytes → AreNoted delimiter bytes noted
noted-all delimiter bytes noted e = ([], sym e ∙ sym (append-nil noted))

-- more bytes come
pub noted-more : (delimiter : ℕ) (bytes piece noted : List ℕ) → AreNoted delimiter bytes noted → AreNoted delimiter (bytes ++ piece) noted
noted-more delimiter bytes piece noted h =
    let after = cuts_from (0 + length bytes) (ends_escaped false bytes) delimiter piece in
    (h.0 ++ after, cuts-append 0 false delimiter bytes piece ∙ ap (λ (xs : List ℕ). xs ++ after) h.1 ∙ append_assoc noted h.0 after)

-- two beginnings of one list that are as long
same-front : (a b c d : List ℕ) → length a ≡ length b → a ++ c ≡ b ++ d → a ≡ b
same-front a b c d len e = sym (take_at a c (length a) refl) ∙ ap (take (length a)) e ∙ take_at b d (length a) (sym len)

-- of the cuts of bytes that begin with a line those of the line
pub noted-front : (delimiter : ℕ) (line more noted : List ℕ) (n : ℕ) → units delimiter line ≡ n → AreNoted delimiter (line ++ more) noted → AreNoted delimiter line (take n noted)
noted-front delimiter line more noted n count h =
    let all = cuts_of delimiter line in
    let after = cuts_from (0 + length line) (ends_escaped false line) delimiter more in
    let front : take n (noted ++ h.0) ≡ all = ap (take n) (sym h.1 ∙ cuts-append 0 false delimiter line more) ∙ take_at all after n (cuts-length 0 false delimiter line ∙ count) in
    elim (cases_lt (length noted) n) [
      | inl lt ↦
          let k = length noted in
          let first : take k all ≡ noted = ap (take k) (sym front) ∙ take-take k n (noted ++ h.0) (omega (arith, lt)) ∙ take_at noted h.0 k refl in
          (drop k all, sym (take-append-drop k all) ∙ ap (λ (xs : List ℕ). xs ++ drop k all) (first ∙ sym (take_all n noted (omega (arith, lt)))))
      | inr le ↦ ([], sym front ∙ take-append-le n noted h.0 le ∙ sym (append-nil (take n noted)))
    ]

-- where they are as many as the delimiters, none is missing
pub noted-whole : (delimiter : ℕ) (line noted : List ℕ) → AreNoted delimiter line noted → units delimiter line ≤ length noted → noted ≡ cuts_of delimiter line
noted-whole delimiter line noted h le =
    let all = cuts_of delimiter line in
    same-front noted all h.0 [] (omega (arith, le, cuts-length 0 false delimiter line, ap length h.1, length-append noted h.0)) (sym h.1 ∙ sym (append-nil all))

-- the walk comes to a delimiter
noted-next : (delimiter : ℕ) (bytes noted : List ℕ) (s : Scan) → s.at < length bytes → get_or bytes s.at 0 ≡ delimiter → s.escaped ≡ false → IsCounted delimiter bytes s → length noted ≡ s.delimiters → AreNoted delimiter bytes noted → AreNoted delimiter bytes (noted ++ (s.at + 1) ∷ [])
noted-next delimiter bytes noted s lt is unescaped c len h =
    let front = take s.at bytes in
    let rest = drop (s.at + 1) bytes in
    let at : length front ≡ s.at = length-take-le s.at bytes (omega (arith, lt)) in
    let cut : bytes ≡ front ++ delimiter ∷ rest = sym (take-append-drop s.at bytes) ∙ ap (λ (x : List ℕ). front ++ x) (drop_more bytes s.at 0 lt ∙ ap (λ (x : ℕ). x ∷ rest) is) in
    let before = cuts_of delimiter front in
    let after = cuts_from (suc (0 + length front)) (eqb delimiter 92) delimiter rest in
    let place : suc (0 + length front) ≡ s.at + 1 = omega (arith, at) in
    let here : cuts_from (0 + length front) (ends_escaped false front) delimiter (delimiter ∷ rest) ≡ (s.at + 1) ∷ after =
    rw (c.escaped ∙ unescaped, eq-eqb delimiter delimiter refl) (ap (λ (n : ℕ). n ∷ after) place) in
    let all : cuts_of delimiter bytes ≡ before ++ (s.at + 1) ∷ after = ap (cuts_of delimiter) cut ∙ cuts-append 0 false delimiter front (delimiter ∷ rest) ∙ ap (λ (xs : List ℕ). before ++ xs) here in
    let same : noted ≡ before = same-front noted before h.0 ((s.at + 1) ∷ after) (len ∙ sym (cuts-length 0 false delimiter front ∙ c.delimiters)) (sym h.1 ∙ all) in
    (after, all ∙ ap (λ (xs : List ℕ). xs ++ (s.at + 1) ∷ after) (sym same) ∙ sym (append_assoc noted ((s.at + 1) ∷ []) after))

pub noted-at : (delimiter : ℕ) (bytes old new : List ℕ) (s : Scan) → s.at < length bytes → get_or bytes s.at 0 ≡ delimiter → s.escaped ≡ false → IsCounted delimiter bytes s → AreNoted delimiter bytes old → NotesCut (s.at + 1) s.delimiters old new → AreNoted delimiter bytes new
noted-at delimiter bytes old new s lt is unescaped c h (inl same) = subst (AreNoted delimiter bytes) (sym same) h
noted-at delimiter bytes old new s lt is unescaped c h (inr k) = subst (AreNoted delimiter bytes) (sym k.1) (noted-next delimiter bytes old s lt is unescaped c k.0 h)

-- ---- the fields of a line one by one

-- the next field ends at a delimiter
pub cuts-first : (delimiter : ℕ) (line : List ℕ) (start n : ℕ) → delimiter ≢ 92 → IsUnitAt delimiter (drop start line) n → cuts_from start false delimiter (drop start line) ≡ (start + (n + 1)) ∷ cuts_from (start + (n + 1)) false delimiter (drop (start + (n + 1)) line)
cuts-first delimiter line start n other at =
    let rest = drop start line in
    let more = drop (n + 1) rest in
    let len : length (take n rest) ≡ n = length-take-le n rest (omega (arith, at.in_range)) in
    let cut : rest ≡ take n rest ++ delimiter ∷ more = sym (take-append-drop n rest) ∙ ap (λ (x : List ℕ). take n rest ++ x) (drop_more rest n 0 at.in_range ∙ ap (λ (x : ℕ). x ∷ more) at.is) in
    let place : suc (start + length (take n rest)) ≡ start + (n + 1) = omega (arith, len) in
    let here : cuts_from (start + length (take n rest)) (ends_escaped false (take n rest)) delimiter (delimiter ∷ more) ≡ (start + (n + 1)) ∷ cuts_from (start + (n + 1)) false delimiter more =
    rw (at.closed, eq-eqb delimiter delimiter refl, ne_eqb delimiter 92 other) (ap (λ (k : ℕ). k ∷ cuts_from k false delimiter more) place) in
    ap (cuts_from start false delimiter) cut ∙ cuts-append start false delimiter (take n rest) (delimiter ∷ more) ∙ ap (λ (xs : List ℕ). xs ++ cuts_from (start + length (take n rest)) (ends_escaped false (take n rest)) delimiter (delimiter ∷ more)) (cuts-none start false delimiter (take n rest) at.none)
    ∙ here ∙ ap (λ (xs : List ℕ). (start + (n + 1)) ∷ cuts_from (start + (n + 1)) false delimiter xs) (drop-drop (n + 1) start line)

-- ---- values by cuts

-- what a function gives of the bytes in front of each cut
abbrev pub each_by : (List ℕ → Option (List ℕ)) → ℕ → List ℕ → List ℕ → Row
each_by f start [] bytes = []
each_by f start (cut ∷ cuts) bytes = f (between start (cut - 1) bytes) ∷ each_by f cut cuts bytes

before-onto : (a : List ℕ) (b : ℕ) (ps : List (List ℕ)) → before_first_part a (onto_first b ps) ≡ before_first_part (a ++ b ∷ []) ps
before-onto a b [] = refl
before-onto a b (p ∷ ps) = ap (λ (x : List ℕ). x ∷ ps) (sym (append_assoc a (b ∷ []) p))

-- the byte at a place
record IsAt (line : List ℕ) (n b : ℕ) (bs : List ℕ) : Type 0 where
  pub lt : n < length line
  pub is : get_or line n 0 ≡ b
  pub rest : drop (suc n) line ≡ bs

byte-at : (line : List ℕ) (n b : ℕ) (bs : List ℕ) → n ≤ length line → drop n line ≡ b ∷ bs → IsAt line n b bs
byte-at line n b bs le e =
    let lt : n < length line = omega (arith, le, ap length e, length-drop n line) in
    let cut : get_or line n 0 ∷ drop (n + 1) line ≡ b ∷ bs = sym (drop_more line n 0 lt) ∙ e in
    let next : suc n ≡ n + 1 = omega arith in
    record { lt = lt; is = first cut; rest = ap (λ (k : ℕ). drop k line) next ∙ after cut }
  where
    first : {x : ℕ} {xs : List ℕ} → x ∷ xs ≡ b ∷ bs → x ≡ b
    first {x} {xs} e = cc

    after : {x : ℕ} {xs : List ℕ} → x ∷ xs ≡ b ∷ bs → xs ≡ bs
    after {x} {xs} e = cc

-- The field that begins at `start` was gone over up to n.
parts-by : (f : List ℕ → Option (List ℕ)) (mark : ℕ) (line : List ℕ) (start n : ℕ) (e : Bool) (bs : List ℕ) → mark ≢ 92 → start ≤ n → n ≤ length line → drop n line ≡ bs
    → map f (before_first_part (between start n line) (parts_from e mark bs)) ≡ each_by f start (cuts_from n e mark bs ++ (length line + 1) ∷ []) line
parts-by f mark line start n e [] other le within at =
    let all : n ≡ length line = omega (arith, within, ap length at, length-drop n line) in
    let whole : between start n line ++ [] ≡ between start (length line + 1 - 1) line =
    let same : n ≡ length line + 1 - 1 = omega (arith, all) in
    append-nil (between start n line) ∙ ap (λ (k : ℕ). between start k line) same in
    ap (λ (x : List ℕ). f x ∷ []) whole
parts-by f mark line start n true (b ∷ bs) other le within at =
    let h = byte-at line n b bs within at in
    let next : n + 1 ≡ suc n = omega arith in
    let more : between start n line ++ b ∷ [] ≡ between start (suc n) line = ap (λ (x : ℕ). between start n line ++ x ∷ []) (sym h.is) ∙ sym (between_more line start n 0 le h.lt) ∙ ap (λ (k : ℕ). between start k line) next in
    ap (map f) (before-onto (between start n line) b (parts_from false mark bs) ∙ ap (λ (x : List ℕ). before_first_part x (parts_from false mark bs)) more)
    ∙ parts-by f mark line start (suc n) false bs other (omega (arith, le)) (omega (arith, h.lt)) h.rest
parts-by f mark line start n false (b ∷ bs) other le within at =
    let h = byte-at line n b bs within at in
    let next : n + 1 ≡ suc n = omega arith in
    elim (cases_eq b mark) [
      | inl e ↦
          let closed : eqb b 92 ≡ false = ne_eqb b 92 (λ same. other (sym e ∙ same)) in
          let field : between start n line ++ [] ≡ between start (suc n - 1) line =
          let same : n ≡ suc n - 1 = omega arith in
          append-nil (between start n line) ∙ ap (λ (k : ℕ). between start k line) same in
          let none : parts_from false mark bs ≡ before_first_part (between (suc n) (suc n) line) (parts_from false mark bs) =
          parts_from-same false mark bs ∙ ap (λ (x : List ℕ). before_first_part x (parts_from false mark bs)) (sym (between_none line (suc n))) in
          rw (eq-eqb b mark e, closed)
          (ap (λ (x : List ℕ). f x ∷ map f (parts_from false mark bs)) field ∙ ap (λ (ps : List (List ℕ)). f (between start (suc n - 1) line) ∷ map f ps) none
          ∙ ap (λ (rows : Row). f (between start (suc n - 1) line) ∷ rows) (parts-by f mark line (suc n) (suc n) false bs other (omega arith) (omega (arith, h.lt)) h.rest))
      | inr ne ↦
          let more : between start n line ++ b ∷ [] ≡ between start (suc n) line = ap (λ (x : ℕ). between start n line ++ x ∷ []) (sym h.is) ∙ sym (between_more line start n 0 le h.lt) ∙ ap (λ (k : ℕ). between start k line) next in
          rw (ne_eqb b mark ne)
          (ap (map f) (before-onto (between start n line) b (parts_from (eqb b 92) mark bs) ∙ ap (λ (x : List ℕ). before_first_part x (parts_from (eqb b 92) mark bs)) more)
          ∙ parts-by f mark line start (suc n) (eqb b 92) bs other (omega (arith, le)) (omega (arith, h.lt)) h.rest)
    ]

-- what a function gives of each field of a line
pub line-by : (f : List ℕ → Option (List ℕ)) (mark : ℕ) (line : List ℕ) → mark ≢ 92 → map f (parts mark line) ≡ each_by f 0 (line_cuts mark line) line
line-by f mark line other =
    ap (map f) (parts_from-same false mark line ∙ ap (λ (x : List ℕ). before_first_part x (parts_from false mark line)) (sym (between_none line 0)))
    ∙ parts-by f mark line 0 0 false line other (omega arith) (omega arith) refl

-- ---- the order of cuts

-- The cuts come one behind the other, behind a place, and none is behind the end of so many bytes and one more.
abbrev pub AreApart : ℕ → List ℕ → ℕ → Type 0
AreApart start [] len = Unit {0}
AreApart start (cut ∷ cuts) len = (start < cut) × (cut ≤ len + 1) × AreApart cut cuts len

cuts-apart : (start n len : ℕ) (e : Bool) (mark : ℕ) (bs : List ℕ) → start ≤ n → n + length bs ≤ len → AreApart start (cuts_from n e mark bs ++ (len + 1) ∷ []) len
cuts-apart start n len e mark [] le within = (omega (arith, le, within), omega arith, tt)
cuts-apart start n len true mark (b ∷ bs) le within = cuts-apart start (suc n) len false mark bs (omega (arith, le)) (omega (arith, within))
cuts-apart start n len false mark (b ∷ bs) le within =
    go (eqb b mark) (cuts-apart (suc n) (suc n) len (eqb b 92) mark bs (omega arith) (omega (arith, within))) (cuts-apart start (suc n) len (eqb b 92) mark bs (omega (arith, le)) (omega (arith, within)))
  where
    go : (t : Bool) → AreApart (suc n) (cuts_from (suc n) (eqb b 92) mark bs ++ (len + 1) ∷ []) len → AreApart start (cuts_from (suc n) (eqb b 92) mark bs ++ (len + 1) ∷ []) len
        → AreApart start ((cond t (suc n ∷ []) [] ++ cuts_from (suc n) (eqb b 92) mark bs) ++ (len + 1) ∷ []) len
    go true h k = (omega (arith, le), omega (arith, within), h)
    go false h k = k

pub line-apart : (mark : ℕ) (line : List ℕ) → AreApart 0 (line_cuts mark line) (length line)
line-apart mark line = cuts-apart 0 0 (length line) false mark line (omega arith) (omega arith)
