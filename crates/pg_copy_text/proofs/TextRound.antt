-- The canonical line of a row is read as that row.
use Rattle.std.proofs.Common.{◌≡◌, ℕ, ◌+◌, ◌<◌, Bool, true, false, cond, eqb, ltb, List, [], ◌∷◌, ◌++◌, length, map, Option, Some, None, Result, Ok, refl, sym, ap, subst, ◌∙◌, append_assoc, arith, inl, inr}
use Rattle.std.specs.List.{flat_map, list_any, position_from, AllByRecursion}
use Rattle.std.specs.Char.{digit_value}
use Rattle.std.specs.Str.{bytes_eq}
use Rattle.std.proofs.lemmas.Bool.{cases_eq, ne_eqb, eq-eqb, eqb-false, cond-true, cond-false, ltb-false, le-ltb, or_parts}
use Rattle.std.proofs.lemmas.List.{append-nil, length-map}
use Rattle.std.specs.Option.{unwrap_or}
use Rattle.pg_copy_text.specs.declared.line_end.LineEnd.{LineEnd}
use Rattle.pg_copy_text.specs.declared.line_end.LineEnd.TheVariants.{Newline, Return}
use Rattle.pg_copy_rows.specs.declared.fault.TextFault.{TextFault}
use Rattle.pg_copy_rows.specs.declared.fault.RowFault.{RowFault}
use Rattle.pg_copy_rows.specs.Row.{Row, is_misfit, Writes}
use Rattle.pg_copy_rows.specs.Reading.{Open, Ended, after_rows}
use Rattle.pg_copy_text.specs.Text.{Options, default_options, newline, carriage_return, null_mark, parts, ends_escaped, letter_value, escape_by, escape_at, text_after, field_value, fits_width, line_row, end_mark, row_or_fault, lines, line_end, line_end_from, reading_by, reading_after, last_after, lines_reading, text_reading, text_at_end, text_file_reading, letter_for, with_letter, written_byte, written_field, written_fields, written_row, is_like_null, like_null, text_fault}
use Rattle.pg_copy_text.specs.TextOptions.{ends_field, AreOptions}
use Rattle.pg_copy_text.specs.TextLaws.{HasLine, end_after}
use Rattle.pg_copy_text.specs.Private.Units.{IsPlain}
use Rattle.pg_copy_text.proofs.TextParts.{IsUncut, ends_escaped-append, IsUncut-append, parts-uncut, parts-cut, parts-some, has_unit-none}
use Rattle.pg_copy_text.proofs.TextValues.{digits-none}
use Rattle.pg_copy_text.proofs.TextLines.{line_row-row}
use Rattle.pg_copy_rows.proofs.Bytes.{same-again, other-bytes}
use Rattle.pg_copy_text.proofs.OptionFacts.{OptionFacts, option-facts, three}
use Rattle.pg_copy_text.proofs.TextPlaces.{not_backslash}
use Rattle.pg_copy_rows.proofs.Readings.{after-none}
use Rattle.pg_copy_text.proofs.TextReads.{lines_reading-cons}

-- ---- letters

record HasLetter (delimiter b letter : ℕ) : Type 0 where
  pub value : letter_value letter ≡ b
  pub no_digit : ltb (digit_value letter) 8 ≡ false
  pub no_x : eqb letter 120 ≡ false
  pub no_n : (delimiter ≡ 78 → ⊥) → eqb letter 78 ≡ false
  pub no_dot : eqb letter 46 ≡ false

abbrev LetterCase : ℕ → ℕ → Option ℕ → Type 0
LetterCase delimiter b None = IsPlain delimiter b
LetterCase delimiter b (Some letter) = HasLetter delimiter b letter

choose : (d b k : ℕ) (x rest : Option ℕ) → LetterCase d k x → (eqb b k ≡ false → LetterCase d b rest) → LetterCase d b (cond (eqb b k) x rest)
choose d b k x rest here there = elim (cases_eq b k) [
  | inl e ↦ rw (eq-eqb b k e) (subst (λ n. LetterCase d n x) (sym e) here)
  | inr ne ↦ rw (ne_eqb b k ne) (there (ne_eqb b k ne))
]

-- the delimiter is its own letter
own_letter : (o : Options) → OptionFacts o → HasLetter o.delimiter o.delimiter o.delimiter
own_letter o f =
    record {
      value = rw (f.no_letter 98 (omega arith) (omega arith), f.no_letter 116 (omega arith) (omega arith), f.no_letter 110 (omega arith) (omega arith), f.no_letter 118 (omega arith) (omega arith), f.no_letter 102 (omega arith) (omega arith), f.no_letter 114 (omega arith) (omega arith)) refl;
      no_digit = le-ltb (digit_value o.delimiter) 8 f.no_digit;
      no_x = f.no_letter 120 (omega arith) (omega arith);
      no_n = λ ne. ne_eqb o.delimiter 78 ne;
      no_dot = f.no_dot;
    }

known : (d b letter : ℕ) → letter_value letter ≡ b → ltb (digit_value letter) 8 ≡ false → eqb letter 120 ≡ false → eqb letter 78 ≡ false → eqb letter 46 ≡ false → HasLetter d b letter
known d b letter value digit x n dot = record { value = value; no_digit = digit; no_x = x; no_n = λ ne. n; no_dot = dot }

letter_cases : (o : Options) → OptionFacts o → (b : ℕ) → LetterCase o.delimiter b (letter_for o.delimiter b)
letter_cases o f b =
    let d = o.delimiter in
    choose d b 8 (Some 98) _ (known d 8 98 refl refl refl refl refl) (λ n8.
    choose d b 9 (Some 116) _ (known d 9 116 refl refl refl refl refl) (λ n9.
    choose d b 10 (Some 110) _ (known d 10 110 refl refl refl refl refl) (λ n10.
    choose d b 11 (Some 118) _ (known d 11 118 refl refl refl refl refl) (λ n11.
    choose d b 12 (Some 102) _ (known d 12 102 refl refl refl refl refl) (λ n12.
    choose d b 13 (Some 114) _ (known d 13 114 refl refl refl refl refl) (λ n13.
    choose d b 92 (Some 92) _ (known d 92 92 refl refl refl refl refl) (λ n92.
    elim (cases_eq b d) [
      | inl e ↦ rw (eq-eqb b d e) (subst (λ n. HasLetter d n n) (sym e) (own_letter o f))
      | inr ne ↦
          let nd = ne_eqb b d ne in
          rw nd (record { no_delimiter = nd; no_newline = n10; no_return = n13; no_backslash = n92; no_letter = rw (n8, n9, n10, n11, n12, n13, n92, nd) refl })
    ])))))))

-- ---- texts

escape_letter : (d b letter : ℕ) (rest : List ℕ) → HasLetter d b letter → escape_at (letter ∷ rest) ≡ (b, 1)
escape_letter d b letter rest h =
    ap (λ (digits : List ℕ). escape_by digits (letter ∷ rest)) (digits-none 8 3 letter rest (ltb-false (digit_value letter) 8 h.no_digit))
    ∙ cond-false (eqb letter 120) _ _ h.no_x ∙ ap (λ (x : ℕ). (x, 1)) h.value

byte_again : (d b : ℕ) (o : Option ℕ) (rest : List ℕ) → LetterCase d b o → text_after 0 (with_letter o b ++ rest) ≡ b ∷ text_after 0 rest
byte_again d b None rest h = cond-false (eqb b 92) _ _ h.no_backslash
byte_again d b (Some letter) rest h = ap (λ (x : ℕ × ℕ). x.0 ∷ text_after x.1 (letter ∷ rest)) (escape_letter d b letter rest h)

pub text_again : (o : Options) → OptionFacts o → (text : List ℕ) → text_after 0 (flat_map (written_byte o.delimiter) text) ≡ text
text_again o f [] = refl
text_again o f (b ∷ text) = byte_again o.delimiter b (letter_for o.delimiter b) (flat_map (written_byte o.delimiter) text) (letter_cases o f b) ∙ ap (λ (x : List ℕ). b ∷ x) (text_again o f text)

pub field_again : (o : Options) → OptionFacts o → (field : Option (List ℕ)) → is_like_null o field ≡ false → field_value o (written_field o field) ≡ field
field_again o f None h = cond-true _ _ _ (same-again o.null_mark)
field_again o f (Some text) h = cond-false _ _ _ h ∙ ap (λ (x : List ℕ). Some x) (text_again o f text)

fields_again : (o : Options) → OptionFacts o → (row : Row) → AllByRecursion (λ v. is_like_null o v ≡ false) row → map (field_value o) (map (written_field o) row) ≡ row
fields_again o f [] h = refl
fields_again o f (field ∷ row) h = ap (λ (x : Option (List ℕ)). x ∷ map (field_value o) (map (written_field o) row)) (field_again o f field h.0) ∙ ap (λ (x : Row). field ∷ x) (fields_again o f row h.1)

-- no field is the first that passes a test
none-passes : (p : Option (List ℕ) → Bool) (i : ℕ) (row : Row) → position_from p i row ≡ None → AllByRecursion (λ v. p v ≡ false) row
none-passes p i [] h = tt
none-passes p i (v ∷ row) h = go (p v) refl (none-passes p (i + 1) row)
  where
    go : (t : Bool) → p v ≡ t → (position_from p (i + 1) row ≡ None → AllByRecursion (λ w. p w ≡ false) row) → (p v ≡ false) × AllByRecursion (λ w. p w ≡ false) row
    go true e rest = absurd (clash (sym (cond-true _ _ _ e) ∙ h))
      where
        clash : Some i ≡ None → ⊥
        clash k = cc
    go false e rest = (e, rest (sym (cond-false _ _ _ e) ∙ h))

-- ---- the default options

default-facts : OptionFacts default_options
default-facts = option-facts default_options refl

not_mark : (b : ℕ) (o : Option ℕ) (rest : List ℕ) → LetterCase 9 b o → bytes_eq (with_letter o b ++ rest) null_mark ≡ false
not_mark b None rest h = rw h.no_backslash refl
not_mark b (Some letter) rest h = rw (h.no_n (λ e. absurd (omega (arith, e)))) refl

pub default-none : (v : Option (List ℕ)) → is_like_null default_options v ≡ false
default-none None = refl
default-none (Some []) = refl
default-none (Some (b ∷ text)) = not_mark b (letter_for 9 b) (flat_map (written_byte 9) text) (letter_cases default_options default-facts b)

pub default-row : (i : ℕ) (row : Row) → position_from (is_like_null default_options) i row ≡ None
default-row i [] = refl
default-row i (v ∷ row) = cond-false _ _ _ (default-none v) ∙ default-row (i + 1) row

-- a row is written without options
pub writes-default : (row : Row) (spelled old : List ℕ) (r : Result Unit RowFault) (new : List ℕ) → is_misfit row ≡ false → Writes None spelled old r new → Writes (text_fault default_options row) spelled old r new
writes-default row spelled old r new fits h = subst (λ (fault : Option RowFault). Writes fault spelled old r new) (sym (cond-false _ _ _ fits ∙ ap like_null (default-row 0 row))) h

-- ---- parts

record IsSafe (mark : ℕ) (bytes : List ℕ) : Type 0 where
  pub uncut : IsUncut false mark bytes
  pub closed : ends_escaped false bytes ≡ false

IsSafe-append : (mark : ℕ) (a b : List ℕ) → IsSafe mark a → IsSafe mark b → IsSafe mark (a ++ b)
IsSafe-append mark a b h k =
    record {
      uncut = IsUncut-append false mark a b h.uncut (rw h.closed k.uncut);
      closed = ends_escaped-append false a b ∙ rw h.closed k.closed;
    }

-- a mark that no canonical line has but as its own
record IsMark (delimiter mark : ℕ) : Type 0 where
  pub no_backslash : eqb 92 mark ≡ false
  pub plain : (b : ℕ) → IsPlain delimiter b → eqb b mark ≡ false
  pub ends : (b : ℕ) → ends_field delimiter b ≡ false → eqb b mark ≡ false

newline_mark : (d : ℕ) → IsMark d 10
newline_mark d = record { no_backslash = refl; plain = λ b h. h.no_newline; ends = λ b h. (three (eqb b 10) (eqb b 13) (eqb b d) h).0 }

return_mark : (d : ℕ) → IsMark d 13
return_mark d = record { no_backslash = refl; plain = λ b h. h.no_return; ends = λ b h. (three (eqb b 10) (eqb b 13) (eqb b d) h).1 }

delimiter_mark : (o : Options) → OptionFacts o → IsMark o.delimiter o.delimiter
delimiter_mark o f = record { no_backslash = ne_eqb 92 o.delimiter (λ e. eqb-false o.delimiter 92 f.no_backslash (sym e)); plain = λ b h. h.no_delimiter; ends = λ b h. (three (eqb b 10) (eqb b 13) (eqb b o.delimiter) h).2 }

IsSafe-byte : (d mark b : ℕ) (o : Option ℕ) → IsMark d mark → LetterCase d b o → IsSafe mark (with_letter o b)
IsSafe-byte d mark b None m h = record { uncut = (m.plain b h, tt); closed = h.no_backslash }
IsSafe-byte d mark b (Some letter) m h = record { uncut = (m.no_backslash, tt); closed = refl }

IsSafe-text : (o : Options) → OptionFacts o → (mark : ℕ) (text : List ℕ) → IsMark o.delimiter mark → IsSafe mark (flat_map (written_byte o.delimiter) text)
IsSafe-text o f mark [] m = record { uncut = tt; closed = refl }
IsSafe-text o f mark (b ∷ text) m = IsSafe-append mark (written_byte o.delimiter b) (flat_map (written_byte o.delimiter) text) (IsSafe-byte o.delimiter mark b (letter_for o.delimiter b) m (letter_cases o f b)) (IsSafe-text o f mark text m)

clear-uncut : (d mark : ℕ) (e : Bool) (bytes : List ℕ) → IsMark d mark → list_any (ends_field d) bytes ≡ false → IsUncut e mark bytes
clear-uncut d mark e [] m h = tt
clear-uncut d mark true (b ∷ bs) m h = clear-uncut d mark false bs m (or_parts (ends_field d b) (list_any (ends_field d) bs) h).1
clear-uncut d mark false (b ∷ bs) m h =
    let p = or_parts (ends_field d b) (list_any (ends_field d) bs) h in
    (m.ends b p.0, clear-uncut d mark (eqb b 92) bs m p.1)

IsSafe-field : (o : Options) → OptionFacts o → (mark : ℕ) (field : Option (List ℕ)) → IsMark o.delimiter mark → IsSafe mark (written_field o field)
IsSafe-field o f mark None m = record { uncut = clear-uncut o.delimiter mark false o.null_mark m f.mark_clear; closed = f.mark_closed }
IsSafe-field o f mark (Some text) m = IsSafe-text o f mark text m

IsSafe-row : (o : Options) → OptionFacts o → (mark : ℕ) (row : Row) → IsMark o.delimiter mark → eqb o.delimiter mark ≡ false → IsSafe mark (written_fields o row)
IsSafe-row o f mark [] m other = record { uncut = tt; closed = refl }
IsSafe-row o f mark (field ∷ []) m other = IsSafe-field o f mark field m
IsSafe-row o f mark (field ∷ next ∷ row) m other =
    IsSafe-append mark (written_field o field) (o.delimiter ∷ written_fields o (next ∷ row)) (IsSafe-field o f mark field m)
    (IsSafe-append mark (o.delimiter ∷ []) (written_fields o (next ∷ row)) (record { uncut = (other, tt); closed = f.no_backslash }) (IsSafe-row o f mark (next ∷ row) m other))

parts_again : (o : Options) → OptionFacts o → (row : Row) → 0 < length row → parts o.delimiter (written_fields o row) ≡ map (written_field o) row
parts_again o f [] lt = absurd (omega arith)
parts_again o f (field ∷ []) lt = parts-uncut o.delimiter (written_field o field) (IsSafe-field o f o.delimiter field (delimiter_mark o f)).uncut
parts_again o f (field ∷ next ∷ row) lt =
    let h = IsSafe-field o f o.delimiter field (delimiter_mark o f) in
    parts-cut o.delimiter (written_field o field) (written_fields o (next ∷ row)) h.uncut h.closed ∙ ap (λ (x : List (List ℕ)). written_field o field ∷ x) (parts_again o f (next ∷ row) (omega arith))

-- ---- lines

not_dot : (d b : ℕ) (o : Option ℕ) (rest : List ℕ) → LetterCase d b o → bytes_eq (with_letter o b ++ rest) end_mark ≡ false
not_dot d b None rest h = rw h.no_backslash refl
not_dot d b (Some letter) rest h = rw h.no_dot refl

-- the end mark has no delimiter
one-part : (o : Options) → OptionFacts o → length (parts o.delimiter end_mark) ≡ 1
one-part o f = rw (ne_eqb 92 o.delimiter (λ e. eqb-false o.delimiter 92 f.no_backslash (sym e))) refl

not_end : (o : Options) → OptionFacts o → (row : Row) → bytes_eq (written_fields o row) end_mark ≡ false
not_end o f [] = refl
not_end o f (None ∷ []) = f.mark_other
not_end o f (Some [] ∷ []) = refl
not_end o f (Some (b ∷ text) ∷ []) = not_dot o.delimiter b (letter_for o.delimiter b) (flat_map (written_byte o.delimiter) text) (letter_cases o f b)
not_end o f (field ∷ next ∷ row) = other-bytes (written_fields o (field ∷ next ∷ row)) end_mark (λ e. more e)
  where
    more : written_fields o (field ∷ next ∷ row) ≡ end_mark → ⊥
    more e =
        let all : length (parts o.delimiter (written_fields o (field ∷ next ∷ row))) ≡ length (map (written_field o) (field ∷ next ∷ row)) = ap length (parts_again o f (field ∷ next ∷ row) (omega arith)) in
        let one : length (parts o.delimiter (written_fields o (field ∷ next ∷ row))) ≡ 1 = ap (λ (x : List ℕ). length (parts o.delimiter x)) e ∙ one-part o f in
        absurd (omega (arith, one, all, length-map (field ∷ next ∷ row) (written_field o)))

pub line_again : (o : Options) → OptionFacts o → (columns : Option ℕ) (row : Row) → HasLine o columns row → line_row o columns (written_fields o row) ≡ Ok row
line_again o f columns row h =
    let line = written_fields o row in
    let return = IsSafe-row o f carriage_return row (return_mark o.delimiter) f.no_return in
    let line_end = IsSafe-row o f newline row (newline_mark o.delimiter) f.no_newline in
    let fields = parts_again o f row h.fits.some in
    let len : length (parts o.delimiter line) ≡ length row = ap length fields ∙ length-map row (written_field o) in
    line_row-row o columns line (has_unit-none carriage_return line (parts-uncut carriage_return line return.uncut)) (has_unit-none newline line (parts-uncut newline line line_end.uncut)) return.closed (ap (fits_width columns) len ∙ h.fits.width)
    ∙ ap (λ (x : List (List ℕ)). Ok (map (field_value o) x)) fields ∙ ap (λ (x : Row). Ok x) (fields_again o f row (none-passes (is_like_null o) 0 row h.no_like_null))

-- bytes that are no newline and no return decide nothing
end-uncut : (e : Bool) (a b : List ℕ) → IsUncut e 10 a → IsUncut e 13 a → line_end_from e (a ++ b) ≡ line_end_from (ends_escaped e a) b
end-uncut e [] b h k = refl
end-uncut true (x ∷ a) b h k = end-uncut false a b h k
end-uncut false (x ∷ a) b h k = rw (h.0, k.0) (end-uncut (eqb x 92) a b h.1 k.1)

-- a canonical line in front decides that lines end by newline
row-decides : (o : Options) → OptionFacts o → (row : Row) (rest : List ℕ) → line_end (written_row o row ++ rest) ≡ Some Newline
row-decides o f row rest =
    let line = written_fields o row in
    let return = IsSafe-row o f carriage_return row (return_mark o.delimiter) f.no_return in
    let line_ends = IsSafe-row o f newline row (newline_mark o.delimiter) f.no_newline in
    ap (line_end_from false) (append_assoc line (newline ∷ []) rest) ∙ end-uncut false line (newline ∷ rest) line_ends.uncut return.uncut ∙ ap (λ (e : Bool). line_end_from e (newline ∷ rest)) return.closed

-- a canonical line in front is read as its row
row_again : (o : Options) → OptionFacts o → (columns : Option ℕ) (row : Row) (rest : List ℕ) → HasLine o columns row → lines_reading o columns (parts newline (written_row o row ++ rest)) ≡ after_rows (row ∷ []) (lines_reading o columns (parts newline rest))
row_again o f columns row rest h =
    let line = written_fields o row in
    let line_ends = IsSafe-row o f newline row (newline_mark o.delimiter) f.no_newline in
    let cut : parts newline (written_row o row ++ rest) ≡ line ∷ parts newline rest = ap (parts newline) (append_assoc line (newline ∷ []) rest) ∙ parts-cut newline line rest line_ends.uncut line_ends.closed in
    ap (lines_reading o columns) cut ∙ lines_reading-cons o columns line (parts newline rest) (parts-some false newline rest not_backslash)
    ∙ cond-false _ _ _ (not_end o f row) ∙ ap (λ (x : Result Row TextFault). row_or_fault x (lines_reading o columns (parts newline rest))) (line_again o f columns row h)

-- the canonical lines of rows in front are read as those rows, where lines end by newline
rows-read : (o : Options) → OptionFacts o → (columns : Option ℕ) (rows : List Row) (rest : List ℕ) → AllByRecursion (HasLine o columns) rows → lines_reading o columns (parts newline (flat_map (written_row o) rows ++ rest)) ≡ after_rows rows (lines_reading o columns (parts newline rest))
rows-read o f columns [] rest h = refl
rows-read o f columns (row ∷ rows) rest h =
    ap (λ (x : List ℕ). lines_reading o columns (parts newline x)) (append_assoc (written_row o row) (flat_map (written_row o) rows) rest) ∙ row_again o f columns row (flat_map (written_row o) rows ++ rest) h.0 ∙ ap (after_rows (row ∷ [])) (rows-read o f columns rows rest h.1)

-- rows in front decide how lines end
rows-decide : (o : Options) → OptionFacts o → (row : Row) (rows : List Row) (rest : List ℕ) → line_end (flat_map (written_row o) (row ∷ rows) ++ rest) ≡ Some Newline
rows-decide o f row rows rest = ap line_end (append_assoc (written_row o row) (flat_map (written_row o) rows) rest) ∙ row-decides o f row (flat_map (written_row o) rows ++ rest)

pub rows-trip : (o : Options) (columns : Option ℕ) (rows : List Row) (rest : List ℕ) → AreOptions o → AllByRecursion (HasLine o columns) rows → text_reading o columns (flat_map (written_row o) rows ++ rest) ≡ after_rows rows (reading_after o columns (end_after rows) rest)
unfolding reading_after
rows-trip o columns [] rest are h = refl
rows-trip o columns (row ∷ rows) rest are h =
    let f = option-facts o are in
    ap (λ (e : Option LineEnd). reading_by o columns e (flat_map (written_row o) (row ∷ rows) ++ rest)) (rows-decide o f row rows rest) ∙ rows-read o f columns (row ∷ rows) rest h

-- a file of canonical lines is read as those rows
pub file-trip : (o : Options) (columns : Option ℕ) (rows : List Row) → AreOptions o → AllByRecursion (HasLine o columns) rows → text_file_reading o columns (flat_map (written_row o) rows) ≡ record { rows = rows; ending = Ended }
unfolding last_after
file-trip o columns [] are h = refl
file-trip o columns (row ∷ rows) are h =
    let f = option-facts o are in
    let all = flat_map (written_row o) (row ∷ rows) in
    let decided : line_end all ≡ Some Newline = ap line_end (sym (append-nil all)) ∙ rows-decide o f row rows [] in
    let read : lines_reading o columns (parts newline all) ≡ after_rows (row ∷ rows) (record { rows = []; ending = Open [] }) =
    ap (λ (x : List ℕ). lines_reading o columns (parts newline x)) (sym (append-nil all)) ∙ rows-read o f columns (row ∷ rows) [] h in
    ap (λ (e : Option LineEnd). text_at_end o columns (lines_reading o columns (lines (unwrap_or e Return) all))) decided
    ∙ ap (text_at_end o columns) (read ∙ after-none (row ∷ rows) (Open [])) ∙ after-none (row ∷ rows) Ended
