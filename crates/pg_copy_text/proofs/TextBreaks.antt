-- Newlines and returns that may end a line.
use Rattle.std.proofs.Common.{◌≡◌, ℕ, ◌+◌, ◌<◌, ◌≤◌, Bool, true, false, cond, eqb, List, [], ◌∷◌, ◌++◌, length, take, drop, get_or, Option, Some, None, zero, suc, refl, sym, ap, subst, ◌∙◌, append_assoc, arith, inl, inr}
use Rattle.std.specs.Prelude.{◌||◌}
use Rattle.std.specs.List.{onto_first}
use Rattle.std.specs.Option.{unwrap_or}
use Rattle.std.proofs.lemmas.Bool.{eqb-true, or_parts}
use Rattle.std.proofs.lemmas.List.{append-nil, take_more, drop_more, drop-drop, get_or-drop, drop-append-le, take-append-le, take_all, drop_all, length-drop, length-append, take-append-drop}
use Rattle.pg_copy_text.specs.declared.line_end.LineEnd.{LineEnd}
use Rattle.pg_copy_text.specs.declared.line_end.LineEnd.TheVariants.{Newline, Return, Both}
use Rattle.pg_copy_text.specs.declared.line_end.LineBreak.TheVariants.{Ends, Stays}
use Rattle.pg_copy_text.specs.declared.scan.Scan.{Scan}
use Rattle.pg_copy_text.specs.Text.{end_len, line_end_from, pairs_from, lines_from, lines, decided_by, decided_at_end}
use Rattle.pg_copy_text.specs.Private.Breaks.{is_break, at_newline, at_return, break_at, decided_from, MayEnd, put_before, Steps, EndsHere, FirstStays, IsBreak, IsFirstLine, IsLastLine}
use Rattle.pg_copy_text.specs.Private.Units.{IsPlain, IsCounted, IsScanned, StandsAt, after}
use Rattle.pg_copy_text.proofs.TextParts.{counted-plain, counted-after}

-- ---- bytes in front of the first part

put_before-more : (xs : List ℕ) (b : ℕ) (ps : List (List ℕ)) → put_before (xs ++ b ∷ []) ps ≡ put_before xs (onto_first b ps)
put_before-more [] b ps = refl
put_before-more (x ∷ xs) b ps = ap (onto_first x) (put_before-more xs b ps)

put_before-part : (xs y : List ℕ) (ps : List (List ℕ)) → put_before xs (y ∷ ps) ≡ (xs ++ y) ∷ ps
put_before-part [] y ps = refl
put_before-part (x ∷ xs) y ps = ap (onto_first x) (put_before-part xs y ps)

put_before-cut : (xs : List ℕ) (ps : List (List ℕ)) → put_before xs ([] ∷ ps) ≡ xs ∷ ps
put_before-cut xs ps = put_before-part xs [] ps ∙ ap (λ (x : List ℕ). x ∷ ps) (append-nil xs)

-- ---- one byte

pub lines_from-none : (e : LineEnd) (escaped : Bool) → lines_from e escaped [] ≡ [] ∷ []
lines_from-none Newline escaped = refl
lines_from-none Return escaped = refl
lines_from-none Both escaped = refl

pub steps-escaped : (before : Option LineEnd) (b : ℕ) (bs : List ℕ) → Steps before true b bs false
steps-escaped before b bs = record { decided = λ more. decided before (bs ++ more); cut = λ e m more. cut e (bs ++ more) }
  where
    decided : (before : Option LineEnd) (xs : List ℕ) → decided_from before true (b ∷ xs) ≡ decided_from before false xs
    decided None xs = refl
    decided (Some e) xs = refl

    cut : (e : LineEnd) (xs : List ℕ) → lines_from e true (b ∷ xs) ≡ onto_first b (lines_from e false xs)
    cut Newline xs = refl
    cut Return xs = refl
    cut Both xs = refl

pairs-other : (b : ℕ) (xs : List ℕ) → eqb b 13 ≡ false → pairs_from false (b ∷ xs) ≡ onto_first b (pairs_from (eqb b 92) xs)
pairs-other b [] h = refl
pairs-other b (c ∷ cs) h = rw h refl

-- a byte that is no newline and no return
pub steps-other : (before : Option LineEnd) (b : ℕ) (bs : List ℕ) → eqb b 10 ≡ false → eqb b 13 ≡ false → Steps before false b bs (eqb b 92)
steps-other before b bs h k = record { decided = λ more. decided before (bs ++ more); cut = λ e m more. cut e (bs ++ more) }
  where
    decided : (before : Option LineEnd) (xs : List ℕ) → decided_from before false (b ∷ xs) ≡ decided_from before (eqb b 92) xs
    decided None xs = rw (h, k) refl
    decided (Some e) xs = refl

    cut : (e : LineEnd) (xs : List ℕ) → lines_from e false (b ∷ xs) ≡ onto_first b (lines_from e (eqb b 92) xs)
    cut Newline xs = rw h refl
    cut Return xs = rw k refl
    cut Both xs = pairs-other b xs k

-- where only one end is left, a fact of it is one of each that is left
only : (P : LineEnd → Type 0) (f e : LineEnd) → f ≡ e → P f → P e
only P f e h p = subst P h p

newline-breaks : (before : Option LineEnd) (bs : List ℕ) → IsBreak before (10 ∷ bs) (at_newline before)
newline-breaks None bs = record { in_range = omega arith; may = tt; decided = λ more. refl; cut = λ more. refl }
newline-breaks (Some Newline) bs = record { in_range = omega arith; may = refl; decided = λ more. refl; cut = λ more. refl }
newline-breaks (Some Return) bs = record { decided = λ more. refl; cut = λ e m more. only (λ e. lines_from e false (10 ∷ (bs ++ more)) ≡ onto_first 10 (lines_from e (eqb 10 92) (bs ++ more))) Return e m refl }
newline-breaks (Some Both) bs = record { decided = λ more. refl; cut = λ e m more. only (λ e. lines_from e false (10 ∷ (bs ++ more)) ≡ onto_first 10 (lines_from e (eqb 10 92) (bs ++ more))) Both e m (pairs-other 10 (bs ++ more) refl) }

return-breaks : (before : Option LineEnd) (bs : List ℕ) → IsBreak before (13 ∷ bs) (at_return before bs)
return-breaks (Some Newline) bs = record { decided = λ more. refl; cut = λ e m more. only (λ e. lines_from e false (13 ∷ (bs ++ more)) ≡ onto_first 13 (lines_from e (eqb 13 92) (bs ++ more))) Newline e m refl }
return-breaks (Some Return) bs = record { in_range = omega arith; may = refl; decided = λ more. refl; cut = λ more. refl }
return-breaks None [] = (refl, tt)
return-breaks None (c ∷ cs) = go (eqb c 10) refl
  where
    go : (t : Bool) → eqb c 10 ≡ t → IsBreak None (13 ∷ c ∷ cs) (cond t (Ends Both) (Ends Return))
    go true h = record { in_range = omega arith; may = tt; decided = λ more. rw h refl; cut = λ more. rw h refl }
    go false h = record { in_range = omega arith; may = tt; decided = λ more. rw h refl; cut = λ more. refl }
return-breaks (Some Both) [] = (refl, refl)
return-breaks (Some Both) (c ∷ cs) = go (eqb c 10) refl
  where
    go : (t : Bool) → eqb c 10 ≡ t → IsBreak (Some Both) (13 ∷ c ∷ cs) (cond t (Ends Both) Stays)
    go true h = record { in_range = omega arith; may = refl; decided = λ more. refl; cut = λ more. rw h refl }
    go false h = record { decided = λ more. refl; cut = λ e m more. only (λ e. lines_from e false (13 ∷ ((c ∷ cs) ++ more)) ≡ onto_first 13 (lines_from e (eqb 13 92) ((c ∷ cs) ++ more))) Both e m (rw h refl) }

-- what a newline or a return is
breaks-first : (before : Option LineEnd) (b : ℕ) (bs : List ℕ) → is_break b ≡ true → IsBreak before (b ∷ bs) (break_at before (b ∷ bs))
breaks-first before b bs h = go (eqb b 10) refl
  where
    go : (t : Bool) → eqb b 10 ≡ t → IsBreak before (b ∷ bs) (cond t (at_newline before) (at_return before bs))
    go true e = subst (λ (x : ℕ). IsBreak before (x ∷ bs) (at_newline before)) (sym (eqb-true b 10 e)) (newline-breaks before bs)
    go false e = subst (λ (x : ℕ). IsBreak before (x ∷ bs) (at_return before bs)) (sym (eqb-true b 13 (right (eqb b 10) (eqb b 13) e h))) (return-breaks before bs)
      where
        right : (s t : Bool) → s ≡ false → (s || t) ≡ true → t ≡ true
        right true t e h = absurd cc
        right false t e h = h

pub breaks : (before : Option LineEnd) (rest : List ℕ) → 0 < length rest → is_break (get_or rest 0 0) ≡ true → IsBreak before rest (break_at before rest)
breaks before [] lt h = absurd (omega arith)
breaks before (b ∷ bs) lt h = breaks-first before b bs h

-- ---- a walk

decided-is : (before : Option LineEnd) (bytes : List ℕ) → decided_by before bytes ≡ decided_from before false bytes
decided-is None bytes = refl
decided-is (Some e) bytes = refl

-- nothing was walked over
pub scanned-start : (delimiter : ℕ) (before : Option LineEnd) (bytes : List ℕ) → IsScanned delimiter before bytes (record { at = 0; escaped = false; delimiters = 0; returned = false; newlined = false })
scanned-start delimiter before bytes = record {
  counted = record { in_range = omega arith; escaped = refl; delimiters = refl; returned = refl; newlined = refl };
  decided = λ more. decided-is before (bytes ++ more);
  cut = λ e m more. refl;
}

-- more bytes come
pub scanned-push : (delimiter : ℕ) (before : Option LineEnd) (bytes piece : List ℕ) (s : Scan) → IsScanned delimiter before bytes s → IsScanned delimiter before (bytes ++ piece) s
scanned-push delimiter before bytes piece s h =
    let c = h.counted in
    let front : take s.at (bytes ++ piece) ≡ take s.at bytes = take-append-le s.at bytes piece c.in_range in
    let back : (more : List ℕ) → drop s.at (bytes ++ piece) ++ more ≡ drop s.at bytes ++ (piece ++ more) =
    λ more. ap (λ (x : List ℕ). x ++ more) (drop-append-le s.at bytes piece c.in_range) ∙ append_assoc (drop s.at bytes) piece more in
    record {
      counted = record {
        in_range = omega (arith, c.in_range, length-append bytes piece);
        escaped = rw front c.escaped;
        delimiters = rw front c.delimiters;
        returned = rw front c.returned;
        newlined = rw front c.newlined;
      };
      decided = λ more. ap (decided_by before) (append_assoc bytes piece more) ∙ h.decided (piece ++ more) ∙ ap (decided_from before s.escaped) (sym (back more));
      cut = λ e m more. ap (lines e) (append_assoc bytes piece more) ∙ h.cut e m (piece ++ more) ∙ ap (λ (x : List ℕ). put_before (take s.at bytes) (lines_from e s.escaped x)) (sym (back more)) ∙ ap (λ (x : List ℕ). put_before x (lines_from e s.escaped (drop s.at (bytes ++ piece) ++ more))) (sym front);
    }

-- one byte more, which ends no line
scanned-step : (delimiter : ℕ) (before : Option LineEnd) (bytes : List ℕ) (s t : Scan) (b : ℕ) → s.at < length bytes → get_or bytes s.at 0 ≡ b → IsScanned delimiter before bytes s → IsCounted delimiter bytes t → t.at ≡ s.at + 1
    → Steps before s.escaped b (drop (s.at + 1) bytes) t.escaped → IsScanned delimiter before bytes t
scanned-step delimiter before bytes s t b lt is h c at g =
    let front : take t.at bytes ≡ take s.at bytes ++ b ∷ [] = ap (λ (n : ℕ). take n bytes) at ∙ take_more bytes s.at 0 lt ∙ ap (λ (x : ℕ). take s.at bytes ++ x ∷ []) is in
    let back : drop s.at bytes ≡ b ∷ drop (s.at + 1) bytes = drop_more bytes s.at 0 lt ∙ ap (λ (x : ℕ). x ∷ drop (s.at + 1) bytes) is in
    let rest : drop (s.at + 1) bytes ≡ drop t.at bytes = ap (λ (n : ℕ). drop n bytes) (sym at) in
    record {
      counted = c;
      decided = λ more. h.decided more ∙ ap (λ (x : List ℕ). decided_from before s.escaped (x ++ more)) back ∙ g.decided more ∙ ap (λ (x : List ℕ). decided_from before t.escaped (x ++ more)) rest;
      cut = λ e m more. h.cut e m more ∙ ap (λ (x : List ℕ). put_before (take s.at bytes) (lines_from e s.escaped (x ++ more))) back ∙ ap (put_before (take s.at bytes)) (g.cut e m more)
          ∙ sym (put_before-more (take s.at bytes) b (lines_from e t.escaped (drop (s.at + 1) bytes ++ more))) ∙ ap (λ (x : List ℕ). put_before x (lines_from e t.escaped (drop (s.at + 1) bytes ++ more))) (sym front)
          ∙ ap (λ (x : List ℕ). put_before (take t.at bytes) (lines_from e t.escaped (x ++ more))) rest;
    }

-- one plain byte more
pub scanned-plain : (delimiter : ℕ) (before : Option LineEnd) (bytes : List ℕ) (s : Scan) (i : ℕ) → i < length bytes → IsPlain delimiter (get_or bytes i 0) → s.escaped ≡ false → IsScanned delimiter before bytes (record s { at = i }) → IsScanned delimiter before bytes (record s { at = i + 1 })
scanned-plain delimiter before bytes s i lt p e h =
    let same : eqb (get_or bytes i 0) 92 ≡ s.escaped = p.no_backslash ∙ sym e in
    scanned-step delimiter before bytes (record s { at = i }) (record s { at = i + 1 }) _ lt refl h (counted-plain delimiter bytes s i lt p e h.counted) refl
    (subst (λ (x : Bool). Steps before x (get_or bytes i 0) (drop (i + 1) bytes) s.escaped) (sym e) (subst (λ (x : Bool). Steps before false (get_or bytes i 0) (drop (i + 1) bytes) x) same (steps-other before (get_or bytes i 0) (drop (i + 1) bytes) p.no_newline p.no_return)))

-- plain bytes more
pub scanned-run : (delimiter : ℕ) (before : Option LineEnd) (bytes : List ℕ) (s : Scan) (at n : ℕ) → at + n ≤ length bytes → ((i : ℕ) → at ≤ i → i < at + n → IsPlain delimiter (get_or bytes i 0)) → s.escaped ≡ false → IsScanned delimiter before bytes (record s { at = at }) → IsScanned delimiter before bytes (record s { at = at + n })
scanned-run delimiter before bytes s at zero le plain e h = let same : at ≡ at + 0 = omega arith in subst (λ (i : ℕ). IsScanned delimiter before bytes (record s { at = i })) same h
scanned-run delimiter before bytes s at (suc n) le plain e h =
    let same : at + n + 1 ≡ at + suc n = omega arith in
    subst (λ (i : ℕ). IsScanned delimiter before bytes (record s { at = i })) same (scanned-plain delimiter before bytes s (at + n) (omega arith) (plain (at + n) (omega arith) (omega arith)) e (scanned-run delimiter before bytes s at n (omega arith) (λ i a b. plain i a (omega (arith, b))) e h))

-- one escaped byte more
pub scanned-escaped : (delimiter : ℕ) (before : Option LineEnd) (bytes : List ℕ) (s : Scan) (b : ℕ) → s.at < length bytes → get_or bytes s.at 0 ≡ b → s.escaped ≡ true → IsScanned delimiter before bytes s → IsScanned delimiter before bytes (after delimiter s b)
scanned-escaped delimiter before bytes s b lt is e h =
    scanned-step delimiter before bytes s (after delimiter s b) b lt is h (counted-after delimiter bytes s b lt is h.counted) (rw e refl)
    (rw e (steps-escaped before b (drop (s.at + 1) bytes)))

-- one byte more, which isn't escaped
pub scanned-after : (delimiter : ℕ) (before : Option LineEnd) (bytes : List ℕ) (s : Scan) (b : ℕ) → s.at < length bytes → get_or bytes s.at 0 ≡ b → s.escaped ≡ false → Steps before false b (drop (s.at + 1) bytes) (eqb b 92) → IsScanned delimiter before bytes s → IsScanned delimiter before bytes (after delimiter s b)
scanned-after delimiter before bytes s b lt is e g h =
    scanned-step delimiter before bytes s (after delimiter s b) b lt is h (counted-after delimiter bytes s b lt is h.counted) (rw e refl) (rw e g)

-- a byte that is no newline and no return
pub scanned-other : (delimiter : ℕ) (before : Option LineEnd) (bytes : List ℕ) (s : Scan) (b : ℕ) → s.at < length bytes → get_or bytes s.at 0 ≡ b → s.escaped ≡ false → is_break b ≡ false → IsScanned delimiter before bytes s → IsScanned delimiter before bytes (after delimiter s b)
scanned-other delimiter before bytes s b lt is e other h =
    let p = or_parts (eqb b 10) (eqb b 13) other in
    scanned-after delimiter before bytes s b lt is e (steps-other before b (drop (s.at + 1) bytes) p.0 p.1) h

-- a newline or a return that ends no line
pub scanned-stays : (delimiter : ℕ) (before : Option LineEnd) (bytes : List ℕ) (s : Scan) (b : ℕ) → s.at < length bytes → get_or bytes s.at 0 ≡ b → s.escaped ≡ false → FirstStays before (drop s.at bytes) → IsScanned delimiter before bytes s → IsScanned delimiter before bytes (after delimiter s b)
scanned-stays delimiter before bytes s b lt is e stays h =
    let back : drop s.at bytes ≡ b ∷ drop (s.at + 1) bytes = drop_more bytes s.at 0 lt ∙ ap (λ (x : ℕ). x ∷ drop (s.at + 1) bytes) is in
    scanned-after delimiter before bytes s b lt is e (subst (FirstStays before) back stays) h

-- ---- the end of the line

pub line-found : (delimiter : ℕ) (before : Option LineEnd) (bytes : List ℕ) (s : Scan) (e : LineEnd) → s.escaped ≡ false → EndsHere before e (drop s.at bytes) → IsScanned delimiter before bytes s → IsFirstLine before bytes e s.at (s.at + end_len e)
line-found delimiter before bytes s e unescaped ends h =
    let after-end : drop (end_len e) (drop s.at bytes) ≡ drop (s.at + end_len e) bytes = drop-drop (end_len e) s.at bytes in
    record {
      in_range = omega (arith, ends.in_range, length-drop s.at bytes, h.counted.in_range);
      decided = λ more. h.decided more ∙ ap (λ (x : Bool). decided_from before x (drop s.at bytes ++ more)) unescaped ∙ ends.decided more;
      cut = λ more. h.cut e ends.may more ∙ ap (λ (x : Bool). put_before (take s.at bytes) (lines_from e x (drop s.at bytes ++ more))) unescaped ∙ ap (put_before (take s.at bytes)) (ends.cut more)
          ∙ put_before-cut (take s.at bytes) (lines e (drop (end_len e) (drop s.at bytes) ++ more)) ∙ ap (λ (x : List ℕ). take s.at bytes ∷ lines e (x ++ more)) after-end;
    }

pub first-is-last : (before : Option LineEnd) (bytes : List ℕ) (e : LineEnd) (len taken : ℕ) → IsFirstLine before bytes e len taken → IsLastLine before bytes e len taken
first-is-last before bytes e len taken h = record {
  decided = ap (λ (x : List ℕ). unwrap_or (decided_by before x) Return) (sym (append-nil bytes)) ∙ ap (λ (d : Option LineEnd). unwrap_or d Return) (h.decided []);
  cut = ap (lines e) (sym (append-nil bytes)) ∙ h.cut [] ∙ ap (λ (x : List ℕ). take len bytes ∷ lines e x) (append-nil (drop taken bytes));
}

-- the lines of what was walked over but for these bytes
cut-now : (delimiter : ℕ) (before : Option LineEnd) (bytes rest : List ℕ) (s : Scan) (e : LineEnd) → MayEnd before e → drop s.at bytes ≡ rest → IsScanned delimiter before bytes s → lines e bytes ≡ put_before (take s.at bytes) (lines_from e s.escaped rest)
cut-now delimiter before bytes rest s e m r h =
    ap (lines e) (sym (append-nil bytes)) ∙ h.cut e m [] ∙ ap (λ (x : List ℕ). put_before (take s.at bytes) (lines_from e s.escaped x)) (append-nil (drop s.at bytes) ∙ r)

decided-now : (delimiter : ℕ) (before : Option LineEnd) (bytes rest : List ℕ) (s : Scan) → drop s.at bytes ≡ rest → IsScanned delimiter before bytes s → decided_by before bytes ≡ decided_from before s.escaped rest
decided-now delimiter before bytes rest s r h =
    ap (decided_by before) (sym (append-nil bytes)) ∙ h.decided [] ∙ ap (decided_from before s.escaped) (append-nil (drop s.at bytes) ∙ r)

-- no line end stands in what was walked over
pub one-line : (delimiter : ℕ) (before : Option LineEnd) (bytes : List ℕ) (s : Scan) (e : LineEnd) → MayEnd before e → s.at ≡ length bytes → IsScanned delimiter before bytes s → lines e bytes ≡ bytes ∷ []
one-line delimiter before bytes s e m all h =
    cut-now delimiter before bytes [] s e m (ap (λ (n : ℕ). drop n bytes) all ∙ drop_all (length bytes) bytes (omega arith)) h ∙ ap (put_before (take s.at bytes)) (lines_from-none e s.escaped) ∙ put_before-cut (take s.at bytes) []
    ∙ ap (λ (n : ℕ). take n bytes ∷ []) all ∙ ap (λ (x : List ℕ). x ∷ []) (take_all (length bytes) bytes (omega arith))

pub undecided : (delimiter : ℕ) (bytes : List ℕ) (s : Scan) → s.at ≡ length bytes → IsScanned delimiter None bytes s → decided_by None bytes ≡ None
undecided delimiter bytes s all h =
    decided-now delimiter None bytes [] s (ap (λ (n : ℕ). drop n bytes) all ∙ drop_all (length bytes) bytes (omega arith)) h ∙ none s.escaped
  where
    none : (e : Bool) → line_end_from e [] ≡ None
    none e = refl

pub waiting-undecided : (delimiter : ℕ) (bytes : List ℕ) (s : Scan) → s.escaped ≡ false → drop s.at bytes ≡ 13 ∷ [] → IsScanned delimiter None bytes s → decided_by None bytes ≡ None
waiting-undecided delimiter bytes s unescaped r h = decided-now delimiter None bytes (13 ∷ []) s r h ∙ ap (λ (x : Bool). decided_from None x (13 ∷ [])) unescaped

-- a return stands last
whole : (bytes : List ℕ) (n : ℕ) → drop n bytes ≡ 13 ∷ [] → take n bytes ++ 13 ∷ [] ≡ bytes
whole bytes n r = ap (λ (x : List ℕ). take n bytes ++ x) (sym r) ∙ take-append-drop n bytes

pub last-return : (delimiter : ℕ) (bytes : List ℕ) (s : Scan) → s.escaped ≡ false → drop s.at bytes ≡ 13 ∷ [] → IsScanned delimiter None bytes s → IsLastLine None bytes Return s.at (length bytes)
last-return delimiter bytes s unescaped r h =
    let none = waiting-undecided delimiter bytes s unescaped r h in
    let nothing : drop (length bytes) bytes ≡ [] = drop_all (length bytes) bytes (omega arith) in
    record {
      decided = ap (λ (d : Option LineEnd). unwrap_or d Return) none;
      cut = cut-now delimiter None bytes (13 ∷ []) s Return tt r h ∙ ap (λ (x : Bool). put_before (take s.at bytes) (lines_from Return x (13 ∷ []))) unescaped ∙ put_before-cut (take s.at bytes) ([] ∷ []) ∙ ap (λ (x : List ℕ). take s.at bytes ∷ lines Return x) (sym nothing);
    }

pub lone-return : (delimiter : ℕ) (before : Option LineEnd) (bytes : List ℕ) (s : Scan) → s.escaped ≡ false → drop s.at bytes ≡ 13 ∷ [] → MayEnd before Both → IsScanned delimiter before bytes s → lines Both bytes ≡ bytes ∷ []
lone-return delimiter before bytes s unescaped r m h =
    cut-now delimiter before bytes (13 ∷ []) s Both m r h ∙ ap (λ (x : Bool). put_before (take s.at bytes) (lines_from Both x (13 ∷ []))) unescaped ∙ put_before-part (take s.at bytes) (13 ∷ []) [] ∙ ap (λ (x : List ℕ). x ∷ []) (whole bytes s.at r)

-- a return that stands last is walked over too
pub counted-return : (delimiter : ℕ) (before : Option LineEnd) (bytes : List ℕ) (s : Scan) → drop s.at bytes ≡ 13 ∷ [] → IsScanned delimiter before bytes s → IsCounted delimiter bytes (after delimiter s 13)
counted-return delimiter before bytes s r h =
    let lt : s.at < length bytes = omega (arith, ap length r, length-drop s.at bytes) in
    let cut : get_or bytes s.at 0 ∷ drop (s.at + 1) bytes ≡ 13 ∷ [] = sym (drop_more bytes s.at 0 lt) ∙ r in
    counted-after delimiter bytes s 13 lt (first (get_or bytes s.at 0) 13 (drop (s.at + 1) bytes) [] cut) h.counted
  where
    first : (x y : ℕ) (xs ys : List ℕ) → x ∷ xs ≡ y ∷ ys → x ≡ y
    first x y xs ys e = cc

pub return-place : (bytes : List ℕ) (n : ℕ) → drop n bytes ≡ 13 ∷ [] → n + 1 ≡ length bytes
return-place bytes n r = omega (arith, ap length r, length-drop n bytes)

-- a newline or a return in its place
pub break-here : (before : Option LineEnd) (bytes : List ℕ) (at b : ℕ) → at < length bytes → get_or bytes at 0 ≡ b → is_break b ≡ true → IsBreak before (drop at bytes) (break_at before (drop at bytes))
break-here before bytes at b lt is h =
    let place : at + 0 ≡ at = omega arith in
    let first : get_or (drop at bytes) 0 0 ≡ b = get_or-drop at bytes 0 0 ∙ ap (λ (n : ℕ). get_or bytes n 0) place ∙ is in
    breaks before (drop at bytes) (omega (arith, length-drop at bytes)) (ap is_break first ∙ h)

-- ---- a line that is open at the end of the input

pub last-one : (delimiter : ℕ) (before : Option LineEnd) (bytes : List ℕ) (s : Scan) → s.at ≡ length bytes → IsScanned delimiter before bytes s → lines (decided_at_end before bytes) bytes ≡ bytes ∷ []
last-one delimiter None bytes s all h = ap (λ (d : Option LineEnd). lines (unwrap_or d Return) bytes) (undecided delimiter bytes s all h) ∙ one-line delimiter None bytes s Return tt all h
last-one delimiter (Some e) bytes s all h = one-line delimiter (Some e) bytes s e refl all h

pub last-return-at : (delimiter : ℕ) (before : Option LineEnd) (bytes : List ℕ) (s : Scan) → before ≡ None → s.escaped ≡ false → drop s.at bytes ≡ 13 ∷ [] → IsScanned delimiter before bytes s → IsLastLine before bytes Return s.at (length bytes)
last-return-at delimiter None bytes s none unescaped r h = last-return delimiter bytes s unescaped r h
last-return-at delimiter (Some e) bytes s none unescaped r h = absurd cc

pub last-lone : (delimiter : ℕ) (before : Option LineEnd) (bytes : List ℕ) (s : Scan) (e : LineEnd) → before ≡ Some e → s.escaped ≡ false → drop s.at bytes ≡ 13 ∷ [] → MayEnd before Both → IsScanned delimiter before bytes s → lines (decided_at_end before bytes) bytes ≡ bytes ∷ []
last-lone delimiter None bytes s e some unescaped r m h = absurd cc
last-lone delimiter (Some f) bytes s e some unescaped r m h = ap (λ (g : LineEnd). lines g bytes) m ∙ lone-return delimiter (Some f) bytes s unescaped r m h

pub after-at : (delimiter : ℕ) (s : Scan) (b : ℕ) → (after delimiter s b).at ≡ s.at + 1
after-at delimiter s b = go s.escaped
  where
    go : (t : Bool) → (cond {A = Scan} t (record { at = s.at + 1; escaped = false; delimiters = s.delimiters; returned = s.returned; newlined = s.newlined }) (record { at = s.at + 1; escaped = eqb b 92; delimiters = s.delimiters + cond (eqb b delimiter) 1 0; returned = s.returned || eqb b 13; newlined = s.newlined || eqb b 10 })).at ≡ s.at + 1
    go true = refl
    go false = refl

-- where the walk isn't at the end, a return stands last
pub stands-last : (before : Option LineEnd) (bytes : List ℕ) (s : Scan) → (s.at ≡ length bytes → ⊥) → StandsAt before bytes s → (s.escaped ≡ false) × (drop s.at bytes ≡ 13 ∷ []) × MayEnd before Both
stands-last before bytes s ne (inl all) = absurd (ne all)
stands-last before bytes s ne (inr w) = w

pub same-end : (e f : LineEnd) → Some e ≡ Some f → e ≡ f
same-end e f h = cc
