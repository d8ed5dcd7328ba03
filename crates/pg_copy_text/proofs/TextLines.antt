-- Lines of text files.
use Rattle.std.proofs.Common.{◌≡◌, ◌≢◌, ℕ, ◌+◌, ◌-◌, ◌<◌, ◌≤◌, Bool, true, false, eqb, List, [], ◌∷◌, ◌++◌, length, take, map, get_or, Option, Result, Ok, Err, zero, suc, refl, sym, ap, subst, ◌∙◌, arith, inl, inr}
use Rattle.std.specs.Prelude.{◌⊎◌}
use Rattle.std.specs.Str.{bytes_eq}
use Rattle.std.proofs.lemmas.Bool.{cases_lt, cond-true, cond-false, ne_eqb}
use Rattle.std.proofs.lemmas.List.{take_all, take_more}
use Rattle.pg_copy_rows.specs.declared.fault.TextFault.{TextFault}
use Rattle.pg_copy_rows.specs.declared.fault.TextFault.TheVariants.{RawReturn, RawNewline, LoneBackslash, Columns}
use Rattle.pg_copy_text.specs.declared.scan.Scan.{Scan}
use Rattle.pg_copy_rows.specs.Row.{Row}
use Rattle.pg_copy_rows.specs.Reading.{RowsRead}
use Rattle.pg_copy_text.specs.Text.{Options, newline, carriage_return, parts, has_unit, ends_escaped, end_mark, fits_width, field_value, line_row, line_reading, row_or_fault}
use Rattle.pg_copy_text.specs.Private.Units.{units, units_from, IsCounted, IsFieldWalked, IsFieldEnd, IsPlain}
use Rattle.pg_copy_text.specs.Private.TextLine.{LineGives, LineEnds, LineFails}
use Rattle.pg_copy_text.proofs.TextParts.{parts-length, has_unit-is, units-append, ends_escaped-append}

-- ---- fields

pub walked-more : (delimiter : ℕ) (bytes : List ℕ) (i b : ℕ) (escaped escaped' : Bool) → i < length bytes → get_or bytes i 0 ≡ b → IsFieldWalked delimiter bytes i escaped
    → ends_escaped escaped (b ∷ []) ≡ escaped' → units_from escaped delimiter (b ∷ []) ≡ 0 → IsFieldWalked delimiter bytes (i + 1) escaped'
walked-more delimiter bytes i b escaped escaped' lt is h e n =
    let more : take (i + 1) bytes ≡ take i bytes ++ b ∷ [] = take_more bytes i 0 lt ∙ ap (λ (x : ℕ). take i bytes ++ x ∷ []) is in
    record {
      escaped = ap (ends_escaped false) more ∙ ends_escaped-append false (take i bytes) (b ∷ []) ∙ ap (λ (t : Bool). ends_escaped t (b ∷ [])) h.escaped ∙ e;
      none = ap (units delimiter) more ∙ units-append false delimiter (take i bytes) (b ∷ []) ∙ ap (λ (t : Bool). units delimiter (take i bytes) + units_from t delimiter (b ∷ [])) h.escaped ∙ omega (arith, h.none, n);
    }

walked-plain : (delimiter : ℕ) (bytes : List ℕ) (i : ℕ) → i < length bytes → IsPlain delimiter (get_or bytes i 0) → IsFieldWalked delimiter bytes i false → IsFieldWalked delimiter bytes (i + 1) false
walked-plain delimiter bytes i lt p h = walked-more delimiter bytes i _ false false lt refl h (rw p.no_backslash refl) (rw p.no_delimiter refl)

-- plain bytes more
walked-run : (delimiter : ℕ) (bytes : List ℕ) (at n : ℕ) → at + n ≤ length bytes → ((i : ℕ) → at ≤ i → i < at + n → IsPlain delimiter (get_or bytes i 0)) → IsFieldWalked delimiter bytes at false → IsFieldWalked delimiter bytes (at + n) false
walked-run delimiter bytes at zero le each h = let same : at ≡ at + 0 = omega arith in subst (λ (i : ℕ). IsFieldWalked delimiter bytes i false) same h
walked-run delimiter bytes at (suc n) le each h =
    let same : at + n + 1 ≡ at + suc n = omega arith in
    subst (λ (i : ℕ). IsFieldWalked delimiter bytes i false) same
    (walked-plain delimiter bytes (at + n) (omega arith) (each (at + n) (omega arith) (omega arith)) (walked-run delimiter bytes at n (omega arith) (λ i a b. each i a (omega (arith, b))) h))

-- Whole units were walked over up to i, or all the bytes.
pub record IsWalkedTo (delimiter : ℕ) (bytes : List ℕ) (i : ℕ) : Type 0 where
  pub escaped : Bool
  pub walked : IsFieldWalked delimiter bytes i escaped
  pub closed : i < length bytes → escaped ≡ false

whole-units : (delimiter : ℕ) (bytes : List ℕ) (i : ℕ) → IsFieldWalked delimiter bytes i false → IsWalkedTo delimiter bytes i
whole-units delimiter bytes i h = record { escaped = false; walked = h; closed = λ lt. refl }

at-units : (delimiter : ℕ) (bytes : List ℕ) (i : ℕ) → i < length bytes → IsWalkedTo delimiter bytes i → IsFieldWalked delimiter bytes i false
at-units delimiter bytes i lt h = subst (λ (e : Bool). IsFieldWalked delimiter bytes i e) (h.closed lt) h.walked

-- at the front
pub walked-first : (delimiter : ℕ) (bytes : List ℕ) → IsWalkedTo delimiter bytes 0
walked-first delimiter bytes = whole-units delimiter bytes 0 (record { escaped = refl; none = refl })

-- a plain byte, and those after it
pub walked-to : (delimiter : ℕ) (bytes : List ℕ) (at end : ℕ) → at < length bytes → IsPlain delimiter (get_or bytes at 0) → at + 1 ≤ end → end ≤ length bytes → ((i : ℕ) → at + 1 ≤ i → i < end → IsPlain delimiter (get_or bytes i 0)) → IsWalkedTo delimiter bytes at → IsWalkedTo delimiter bytes end
walked-to delimiter bytes at end lt p in_order in_range each h =
    let all : (at + 1) + (end - (at + 1)) ≡ end = omega (arith, in_order) in
    let first = walked-plain delimiter bytes at lt p (at-units delimiter bytes at lt h) in
    whole-units delimiter bytes end (subst (λ (i : ℕ). IsFieldWalked delimiter bytes i false) all (walked-run delimiter bytes (at + 1) (end - (at + 1)) (omega (arith, all, in_range)) (λ i a b. each i a (omega (arith, all, b))) first))

-- a byte that is neither delimiter nor backslash
pub walked-other : (delimiter : ℕ) (bytes : List ℕ) (at : ℕ) → at < length bytes → get_or bytes at 0 ≢ delimiter → get_or bytes at 0 ≢ 92 → IsWalkedTo delimiter bytes at → IsWalkedTo delimiter bytes (at + 1)
walked-other delimiter bytes at lt part slash h =
    let n92 = ne_eqb _ 92 slash in
    let n9 = ne_eqb _ delimiter part in
    whole-units delimiter bytes (at + 1) (walked-more delimiter bytes at _ false false lt refl (at-units delimiter bytes at lt h) n92 (rw n9 refl))

-- all bytes, where a backslash stands last
walked-beyond : (delimiter : ℕ) (bytes : List ℕ) (i j : ℕ) (e : Bool) → length bytes ≤ i → length bytes ≤ j → IsFieldWalked delimiter bytes i e → IsFieldWalked delimiter bytes j e
walked-beyond delimiter bytes i j e le le' h =
    let same : take i bytes ≡ take j bytes = take_all i bytes le ∙ sym (take_all j bytes le') in
    record { escaped = rw same at h.escaped; none = rw same at h.none }

-- a backslash, and the byte after it
pub walked-escape : (delimiter : ℕ) (bytes : List ℕ) (at : ℕ) → at < length bytes → get_or bytes at 0 ≢ delimiter → get_or bytes at 0 ≡ 92 → IsWalkedTo delimiter bytes at → IsWalkedTo delimiter bytes (at + 2)
walked-escape delimiter bytes at lt part slash h = go (cases_lt (at + 1) (length bytes))
  where
    no-mark : eqb 92 delimiter ≡ false
    no-mark = ne_eqb 92 delimiter (λ e. part (slash ∙ e))

    begun : IsFieldWalked delimiter bytes (at + 1) true
    begun = walked-more delimiter bytes at 92 false true lt slash (at-units delimiter bytes at lt h) refl (rw no-mark refl)

    go : (at + 1 < length bytes) ⊎ (length bytes ≤ at + 1) → IsWalkedTo delimiter bytes (at + 2)
    go (inl more) =
        let same : at + 1 + 1 ≡ at + 2 = omega arith in
        whole-units delimiter bytes (at + 2) (subst (λ (i : ℕ). IsFieldWalked delimiter bytes i false) same (walked-more delimiter bytes (at + 1) _ true false more refl begun refl refl))
    go (inr last) = record { escaped = true; walked = walked-beyond delimiter bytes (at + 1) (at + 2) true last (omega (arith, last)) begun; closed = λ l. absurd (omega (arith, l, last)) }

pub walked-at : (delimiter : ℕ) (bytes : List ℕ) (i : ℕ) → i < length bytes → get_or bytes i 0 ≡ delimiter → IsWalkedTo delimiter bytes i → IsFieldEnd delimiter bytes (record { len = i; last = false })
walked-at delimiter bytes i lt is h =
    let w = at-units delimiter bytes i lt h in
    record {
      more = λ e. record { in_range = lt; none = w.none; closed = w.escaped; is = is };
      whole = λ e. absurd (clash e);
    }
  where
    clash : false ≡ true → ⊥
    clash e = cc

pub walked-end : (delimiter : ℕ) (bytes : List ℕ) (i : ℕ) → length bytes ≤ i → IsWalkedTo delimiter bytes i → IsFieldEnd delimiter bytes (record { len = length bytes; last = true })
walked-end delimiter bytes i le h =
    let all : take i bytes ≡ bytes = take_all i bytes le in
    record {
      more = λ f. absurd (clash f);
      whole = λ f. (refl, rw all at h.walked.none);
    }
  where
    clash : true ≡ false → ⊥
    clash e = cc

-- ---- lines

pub lines_row : (delimiter : ℕ) (line : List ℕ) (s : Scan) → (delimiter ≡ 92 → ⊥) → IsCounted delimiter line s → s.at ≡ length line
    → (has_unit carriage_return line ≡ s.returned) × (has_unit newline line ≡ s.newlined) × (ends_escaped false line ≡ s.escaped) × (length (parts delimiter line) ≡ s.delimiters + 1)
lines_row delimiter line s ne h whole =
    let all : take s.at line ≡ line = ap (λ (n : ℕ). take n line) whole ∙ take_all (length line) line (omega arith) in
    (has_unit-is carriage_return line s.returned (λ e. absurd (omega arith)) (rw all at h.returned), has_unit-is newline line s.newlined (λ e. absurd (omega arith)) (rw all at h.newlined), rw all at h.escaped, parts-length false delimiter line ne ∙ ap (λ (n : ℕ). n + 1) (rw all at h.delimiters))

pub line-ends : (o : Options) (columns : Option ℕ) (line : List ℕ) → bytes_eq line end_mark ≡ true → LineEnds o columns line
line-ends o columns line e after = cond-true _ _ _ e

line-of : (o : Options) (columns : Option ℕ) (line : List ℕ) (r : Result Row TextFault) (after : RowsRead TextFault) → bytes_eq line end_mark ≡ false → line_row o columns line ≡ r → line_reading o columns line after ≡ row_or_fault r after
line-of o columns line r after e h = cond-false _ _ _ e ∙ ap (λ (x : Result Row TextFault). row_or_fault x after) h

pub line-return : (o : Options) (columns : Option ℕ) (line : List ℕ) → bytes_eq line end_mark ≡ false → has_unit carriage_return line ≡ true → LineFails o columns line RawReturn
line-return o columns line e h = record { is = λ after. line-of o columns line (Err RawReturn) after e (cond-true _ _ _ h); not_memory = λ f. cc }

pub line-newline : (o : Options) (columns : Option ℕ) (line : List ℕ) → bytes_eq line end_mark ≡ false → has_unit carriage_return line ≡ false → has_unit newline line ≡ true → LineFails o columns line RawNewline
line-newline o columns line e h n = record { is = λ after. line-of o columns line (Err RawNewline) after e (cond-false _ _ _ h ∙ cond-true _ _ _ n); not_memory = λ f. cc }

pub line-lone : (o : Options) (columns : Option ℕ) (line : List ℕ) → bytes_eq line end_mark ≡ false → has_unit carriage_return line ≡ false → has_unit newline line ≡ false → ends_escaped false line ≡ true → LineFails o columns line LoneBackslash
line-lone o columns line e h n k = record { is = λ after. line-of o columns line (Err LoneBackslash) after e (cond-false _ _ _ h ∙ cond-false _ _ _ n ∙ cond-true _ _ _ k); not_memory = λ f. cc }

pub line-columns : (o : Options) (columns : Option ℕ) (line : List ℕ) (n : ℕ) → bytes_eq line end_mark ≡ false → has_unit carriage_return line ≡ false → has_unit newline line ≡ false → ends_escaped false line ≡ false → length (parts o.delimiter line) ≡ n → fits_width columns n ≡ false → LineFails o columns line (Columns n)
line-columns o columns line n e h nl k len w =
    record { is = λ after. line-of o columns line (Err (Columns n)) after e (cond-false _ _ _ h ∙ cond-false _ _ _ nl ∙ cond-false _ _ _ k ∙ cond-false _ _ _ (ap (fits_width columns) len ∙ w) ∙ ap (λ (m : ℕ). Err (Columns m)) len); not_memory = λ f. cc }

pub line_row-row : (o : Options) (columns : Option ℕ) (line : List ℕ) → has_unit carriage_return line ≡ false → has_unit newline line ≡ false → ends_escaped false line ≡ false → fits_width columns (length (parts o.delimiter line)) ≡ true → line_row o columns line ≡ Ok (map (field_value o) (parts o.delimiter line))
line_row-row o columns line h nl k w = cond-false _ _ _ h ∙ cond-false _ _ _ nl ∙ cond-false _ _ _ k ∙ cond-true _ _ _ w

pub line-row : (o : Options) (columns : Option ℕ) (line : List ℕ) (n : ℕ) → bytes_eq line end_mark ≡ false → has_unit carriage_return line ≡ false → has_unit newline line ≡ false → ends_escaped false line ≡ false → length (parts o.delimiter line) ≡ n → fits_width columns n ≡ true
    → LineGives o columns line (map (field_value o) (parts o.delimiter line))
line-row o columns line n e h nl k len w after = line-of o columns line (Ok (map (field_value o) (parts o.delimiter line))) after e (line_row-row o columns line h nl k (ap (fits_width columns) len ∙ w))
