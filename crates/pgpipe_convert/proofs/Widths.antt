-- Each row that a reader gives has as many values as the file has columns.
use Rattle.std.proofs.Common.{◌≡◌, ℕ, zero, suc, Bool, true, false, cond, eqb, List, [], ◌∷◌, ◌++◌, map, length, Option, Some, None, Result, Ok, Err, refl, sym, ap, subst, ◌∙◌}
use Rattle.std.specs.Int.{w16, cast_signed}
use Rattle.std.specs.List.{AllByRecursion}
use Rattle.std.specs.Str.{bytes_eq}
use Rattle.std.proofs.lemmas.Bool.{eqb-true}
use Rattle.std.proofs.lemmas.List.{length-map}
use Rattle.pg_copy.specs.fault.BinaryFault.{BinaryFault}
use Rattle.pg_copy.specs.fault.BinaryFault.TheVariants.{FieldCount}
use Rattle.pg_copy.specs.fault.TextFault.{TextFault}
use Rattle.pg_copy.specs.fault.TextFault.TheVariants.{RawReturn, RawNewline, LoneBackslash, Columns}
use Rattle.pg_copy.specs.line_end.LineEnd.{LineEnd}
use Rattle.pg_copy.specs.BinaryPart.{NoPart, Incomplete, Faulty, ◌>>=◌, number_at, value_at, values_at, row_at, trailer_reading, stop_reading, row_reading, part_reading, rows_reading, body_reading, head_reading, head_at, binary_reading}
use Rattle.pg_copy.specs.Binary.{open_head}
use Rattle.pg_copy.specs.Reading.{RowsRead, RowsEnding, Open, Done, Ended, Bad}
use Rattle.pg_copy.specs.Row.{Row}
use Rattle.pg_copy.specs.Text.{Options, parts, end_mark, has_unit, ends_escaped, carriage_return, newline, field_value, line_row, row_or_fault, line_reading, lines_reading, lines, reading_by, decided_by, decided_at_end, reading_after, last_reading, last_after, text_reading, text_file_reading}
use Rattle.pgpipe_convert.specs.declared.convert.Converted.{Converted}
use Rattle.pgpipe_convert.specs.declared.copy_rows.RowReader.{RowReader}
use Rattle.pgpipe_convert.specs.declared.format.Format.{Format}
use Rattle.pgpipe_convert.specs.declared.format.Format.TheVariants as format
use Rattle.pgpipe_convert.specs.Convert.{FileReading, file_with, value_limit}
use Rattle.pgpipe_convert.specs.Private.Converting.{file_by, rows_left, HasReadBy, HasWidth, ReadsOn}
use Rattle.pgpipe_convert.proofs.Growing.{is_first}

-- all rows of a list have so many values
abbrev Wide : ℕ → List Row → Type 0
Wide columns rows = AllByRecursion (λ (row : Row). length row ≡ columns) rows

both_wide : (columns : ℕ) (xs ys : List Row) → Wide columns xs → Wide columns ys → Wide columns (xs ++ ys)
both_wide columns [] ys all more = more
both_wide columns (x ∷ xs) ys all more = (all.0, both_wide columns xs ys all.1 more)

-- the row between some rows and others
one_wide : (columns : ℕ) (given : List Row) (row : Row) (more : List Row) → Wide columns ((given ++ row ∷ []) ++ more) → length row ≡ columns
one_wide columns [] row more all = all.0
one_wide columns (x ∷ given) row more all = one_wide columns given row more all.1

-- ---- text

row_wide : (columns : ℕ) (r : Result Row TextFault) (after : RowsRead TextFault) → ((row : Row) → r ≡ Ok row → length row ≡ columns) → Wide columns after.rows → Wide columns (row_or_fault r after).rows
row_wide columns (Ok row) after one more = (one row refl, more)
row_wide columns (Err fault) after one more = tt

line_wide : (o : Options) (columns : ℕ) (line : List ℕ) (row : Row) → line_row o (Some columns) line ≡ Ok row → length row ≡ columns
line_wide o columns line row = go (has_unit carriage_return line) (has_unit newline line) (ends_escaped false line) (eqb (length (parts o.delimiter line)) columns) refl
  where
    go : (a b c d : Bool) → eqb (length (parts o.delimiter line)) columns ≡ d
        → ◌≡◌ {A = Result Row TextFault} (cond a (Err RawReturn) (cond b (Err RawNewline) (cond c (Err LoneBackslash) (cond d (Ok (map (field_value o) (parts o.delimiter line))) (Err (Columns (length (parts o.delimiter line)))))))) (Ok row) → length row ≡ columns
    go true b c d k h = absurd cc
    go false true c d k h = absurd cc
    go false false true d k h = absurd cc
    go false false false false k h = absurd cc
    go false false false true k h =
        let same : row ≡ map (field_value o) (parts o.delimiter line) = cc in
        ap (λ (l : Row). length l) same ∙ length-map (parts o.delimiter line) (field_value o) ∙ eqb-true (length (parts o.delimiter line)) columns k

reading_wide : (o : Options) (columns : ℕ) (line : List ℕ) (after : RowsRead TextFault) → Wide columns after.rows → Wide columns (line_reading o (Some columns) line after).rows
reading_wide o columns line after more = go (bytes_eq line end_mark)
  where
    go : (mark : Bool) → Wide columns (cond {A = RowsRead TextFault} mark (record { rows = []; ending = Done }) (row_or_fault (line_row o (Some columns) line) after)).rows
    go true = tt
    go false = row_wide columns (line_row o (Some columns) line) after (line_wide o columns line) more

lines_wide : (o : Options) (columns : ℕ) (ls : List (List ℕ)) → Wide columns (lines_reading o (Some columns) ls).rows
lines_wide o columns [] = tt
lines_wide o columns (line ∷ []) = tt
lines_wide o columns (line ∷ next ∷ ls) = reading_wide o columns line (lines_reading o (Some columns) (next ∷ ls)) (lines_wide o columns (next ∷ ls))

by_wide : (o : Options) (columns : ℕ) (end : Option LineEnd) (bytes : List ℕ) → Wide columns (reading_by o (Some columns) end bytes).rows
by_wide o columns None bytes = tt
by_wide o columns (Some e) bytes = lines_wide o columns (lines e bytes)

last_wide : (o : Options) (columns : ℕ) (ending : RowsEnding TextFault) → Wide columns (last_reading o (Some columns) ending).rows
last_wide o columns (Open []) = tt
last_wide o columns (Open (b ∷ bs)) = reading_wide o columns (b ∷ bs) (record { rows = []; ending = Ended }) tt
last_wide o columns Done = tt
last_wide o columns Ended = tt
last_wide o columns (Bad fault) = tt

text_wide : (o : Options) (columns : ℕ) (bytes : List ℕ) → Wide columns (text_reading o (Some columns) bytes).rows
unfolding reading_after
text_wide o columns bytes = by_wide o columns (decided_by None bytes) bytes

text_file_wide : (o : Options) (columns : ℕ) (bytes : List ℕ) → Wide columns (text_file_reading o (Some columns) bytes).rows
unfolding last_after
text_file_wide o columns bytes =
    let read = lines_reading o (Some columns) (lines (decided_at_end None bytes) bytes) in
    both_wide columns read.rows (last_reading o (Some columns) read.ending).rows (lines_wide o columns (lines (decided_at_end None bytes) bytes)) (last_wide o columns read.ending)

-- ---- binary

abbrev ValuesWide : ℕ → Result (Row × List ℕ) NoPart → Type 0
ValuesWide n r = (x : Row × List ℕ) → r ≡ Ok x → length x.0 ≡ n

values_wide : (limit n : ℕ) (bytes : List ℕ) → ValuesWide n (values_at limit n bytes)
unfolding values_at
values_wide limit zero bytes x e =
    let same : x ≡ ([], bytes) = cc in
    ap (λ (y : Row × List ℕ). length y.0) same
values_wide limit (suc n) bytes x e = first (value_at limit bytes) (λ b. values_wide limit n b) e
  where
    rest : (v : Option (List ℕ)) (r : Result (Row × List ℕ) NoPart) → ValuesWide n r → (r >>= λ (vs : Row × List ℕ). Ok (v ∷ vs.0, vs.1)) ≡ Ok x → length x.0 ≡ suc n
    rest v (Ok vs) wide h =
        let same : x ≡ (v ∷ vs.0, vs.1) = cc in
        ap (λ (y : Row × List ℕ). length y.0) same ∙ ap suc (wide vs refl)
    rest v (Err stop) wide h = absurd cc

    first : (r : Result (Option (List ℕ) × List ℕ) NoPart) → ((b : List ℕ) → ValuesWide n (values_at limit n b)) → (r >>= λ (v : Option (List ℕ) × List ℕ). (values_at limit n v.1 >>= λ (vs : Row × List ℕ). Ok (v.0 ∷ vs.0, vs.1))) ≡ Ok x → length x.0 ≡ suc n
    first (Ok v) wide h = rest v.0 (values_at limit n v.1) (wide v.1) h
    first (Err stop) wide h = absurd cc

abbrev RowWide : ℕ → Result (Option Row × List ℕ) NoPart → Type 0
RowWide columns r = (row : Row) (rest : List ℕ) → r ≡ Ok (Some row, rest) → length row ≡ columns

abbrev as_row : Row × List ℕ → Result (Option Row × List ℕ) NoPart
as_row y = Ok (Some y.0, y.1)

-- what stands after this number of values
abbrev row_by : ℕ → ℕ → ℕ × List ℕ → Result (Option Row × List ℕ) NoPart
row_by columns limit n = cond (eqb n.0 65535) (Ok (None, n.1)) (cond (eqb n.0 columns) (values_at limit columns n.1 >>= as_row) (Err (Faulty (FieldCount (cast_signed w16 n.0)))))

row_at_wide : (columns limit : ℕ) (bytes : List ℕ) → RowWide columns (row_at columns limit bytes)
unfolding row_at
row_at_wide columns limit bytes row rest e = first (number_at w16 bytes) e
  where
    values : (r : Result (Row × List ℕ) NoPart) → ValuesWide columns r → (r >>= as_row) ≡ Ok (Some row, rest) → length row ≡ columns
    values (Ok y) wide h =
        let both : ◌≡◌ {A = Option Row × List ℕ} (Some row, rest) (Some y.0, y.1) = cc in
        let one : Some row ≡ Some y.0 = ap (λ (t : Option Row × List ℕ). t.0) both in
        let same : row ≡ y.0 = cc one in
        ap (λ (l : Row). length l) same ∙ wide y refl
    values (Err stop) wide h = absurd cc

    go : (a b : Bool) (n : ℕ × List ℕ) → ◌≡◌ {A = Result (Option Row × List ℕ) NoPart} (cond a (Ok (None, n.1)) (cond b (values_at limit columns n.1 >>= as_row) (Err (Faulty (FieldCount (cast_signed w16 n.0)))))) (Ok (Some row, rest)) → length row ≡ columns
    go true b n h =
        let both : ◌≡◌ {A = Option Row × List ℕ} (Some row, rest) (None, n.1) = cc in
        absurd (clash (ap (λ (t : Option Row × List ℕ). t.0) both))
      where
        clash : Some row ≡ None → ⊥
        clash k = cc
    go false true n h = values (values_at limit columns n.1) (values_wide limit columns n.1) h
    go false false n h = absurd cc

    first : (r : Result (ℕ × List ℕ) NoPart) → (r >>= row_by columns limit) ≡ Ok (Some row, rest) → length row ≡ columns
    first (Ok n) h = go (eqb n.0 65535) (eqb n.0 columns) n h
    first (Err stop) h = absurd cc

trailer_wide : (columns : ℕ) (rest : List ℕ) → Wide columns (trailer_reading rest).rows
trailer_wide columns [] = tt
trailer_wide columns (b ∷ bs) = tt

stop_wide : (columns : ℕ) (stop : NoPart) (bytes : List ℕ) → Wide columns (stop_reading stop bytes).rows
stop_wide columns Incomplete bytes = tt
stop_wide columns (Faulty fault) bytes = tt

part_wide : (columns : ℕ) (bytes : List ℕ) (part : Result (Option Row × List ℕ) NoPart) (next : List ℕ → RowsRead BinaryFault) → RowWide columns part → ((rest : List ℕ) → Wide columns (next rest).rows) → Wide columns (part_reading bytes part next).rows
part_wide columns bytes (Ok part) next one more = by part.0 (λ row e. one row part.1 (ap (λ (r : Option Row). Ok (r, part.1)) e))
  where
    by : (r : Option Row) → ((row : Row) → r ≡ Some row → length row ≡ columns) → Wide columns (row_reading r part.1 next).rows
    by None wide = trailer_wide columns part.1
    by (Some row) wide = (wide row refl, more part.1)
part_wide columns bytes (Err stop) next one more = stop_wide columns stop bytes

rows_wide : (n columns limit : ℕ) (bytes : List ℕ) → Wide columns (rows_reading n columns limit bytes).rows
unfolding rows_reading
rows_wide zero columns limit bytes = tt
rows_wide (suc n) columns limit bytes = part_wide columns bytes (row_at columns limit bytes) (λ rest. rows_reading n columns limit rest) (row_at_wide columns limit bytes) (λ rest. rows_wide n columns limit rest)

head_wide : (columns limit : ℕ) (kept : List ℕ) (h : Result (List ℕ × List ℕ) NoPart) → Wide columns (head_reading kept h (body_reading columns limit)).rows
head_wide columns limit kept (Ok h) = rows_wide (suc (length h.1)) columns limit h.1
head_wide columns limit kept (Err stop) = stop_wide columns stop kept

binary_wide : (columns limit : ℕ) (bytes : List ℕ) → Wide columns (binary_reading columns limit bytes).rows
unfolding binary_reading
binary_wide columns limit bytes = head_wide columns limit (open_head bytes) (head_at bytes)

-- ---- files

pub file_width : (o : Options) (from : Format) (columns : ℕ) → HasWidth (file_with o from columns) columns
file_width o format.Text columns false bytes = text_wide o columns bytes
file_width o format.Text columns true bytes = text_file_wide o columns bytes
file_width o format.Binary columns false bytes = binary_wide columns value_limit bytes
file_width o format.Binary columns true bytes = binary_wide columns value_limit bytes

-- the same file has the same width
pub same_width : (file file' : FileReading) (columns : ℕ) → file' ≡ file → HasWidth file columns → HasWidth file' columns
same_width file file' columns e h = subst (λ (f : FileReading). HasWidth f columns) (sym e) h

-- a row that the reader gives is one of the file's
pub row_width : (at_end : Bool) (r : RowReader) (row : Row) (r' : RowReader) (columns : ℕ) (bytes : List ℕ) (given : List Row) → HasWidth (file_by r) columns → HasReadBy r bytes given → ReadsOn at_end r (row ∷ []) r' → length row ≡ columns
row_width at_end r row r' columns bytes given h read on =
    let all : Wide columns (file_by r' at_end bytes).rows = same_width (file_by r) (file_by r') columns on.same h at_end bytes in
    one_wide columns given row (rows_left at_end r').rows (subst (λ (f : RowsRead Converted). Wide columns f.rows) (is_first at_end r' bytes (given ++ row ∷ []) on.may_go_on (on.read bytes given read)) all)
