-- COPY text files (PostgreSQL documentation, page COPY, "Text Format"). Bytes are numbers below
-- 256.
use Rattle.std.specs.Prelude.{◌≡◌, ◌<◌, ℕ, zero, suc, ◌+◌, ◌*◌, ◌%◌, Bool, true, false, ◌==◌, ◌&&◌, nat_lt, nat_le, if◌then◌else◌, List, [], ◌∷◌, ◌++◌, length, take, map, fold, Option, Some, None, Result, Ok, Err}
use Rattle.std.specs.List.{take_while, flat_map, join_with_byte, onto_first, position_from}
use Rattle.std.specs.Char.{digit_value}
use Rattle.std.specs.Option.{unwrap_or}
use Rattle.std.specs.Str.{bytes_eq}
use Rattle.pg_copy_rows.specs.declared.fault.RowFault.{RowFault}
use Rattle.pg_copy_rows.specs.declared.fault.RowFault.TheVariants as faults
use Rattle.pg_copy_rows.specs.declared.fault.TextFault.{TextFault}
use Rattle.pg_copy_rows.specs.declared.fault.TextFault.TheVariants.{RawReturn, RawNewline, LoneBackslash, Columns}
use Rattle.pg_copy_text.specs.declared.line_end.LineEnd.{LineEnd}
use Rattle.pg_copy_text.specs.declared.line_end.LineEnd.TheVariants.{Newline, Return, Both}
use Rattle.pg_copy_rows.specs.Row.{Row, most_fields, is_misfit}
use Rattle.pg_copy_rows.specs.Reading.{RowsRead, RowsEnding, Open, Done, Ended, Bad, after_rows}

-- ---- what is the format's own

-- the byte that begins an escape
abbrev pub backslash : ℕ
backslash = 92

-- the byte between two fields of a line, where the options say no other: a tab
abbrev pub delimiter : ℕ
delimiter = 9

-- the field that is null, where the options say no other: \N
abbrev pub null_mark : List ℕ
null_mark = backslash ∷ 78 ∷ []

-- the byte that ends a line, unless a backslash stands before it or the file's lines end otherwise
abbrev pub newline : ℕ
newline = 10

-- the byte that a line may have only after a backslash, and that ends it in some files
abbrev pub carriage_return : ℕ
carriage_return = 13

-- the line that ends the rows, \. without its newline
abbrev pub end_mark : List ℕ
end_mark = backslash ∷ 46 ∷ []

-- the options of a file: the byte between two fields of a line, and the field that is null
pub record Options : Type 0 where
  pub delimiter : ℕ
  pub null_mark : List ℕ

-- the options of a file, where no others are said: a tab and \N
abbrev pub default_options : Options
default_options = record { delimiter = delimiter; null_mark = null_mark }

-- ---- units: a backslash with the byte after it, or one other byte

-- whether the bytes end in a backslash that begins an escape; `escaped` says that they come after
-- such a backslash
abbrev pub ends_escaped : Bool → List ℕ → Bool
ends_escaped escaped [] = escaped
ends_escaped true (b ∷ bs) = ends_escaped false bs
ends_escaped false (b ∷ bs) = ends_escaped (b == backslash) bs

-- the parts of these bytes, as `parts` cuts them; `escaped` says that they come after a backslash
-- that begins an escape
abbrev pub parts_from : Bool → ℕ → List ℕ → List (List ℕ)
parts_from escaped mark [] = [] ∷ []
parts_from true mark (b ∷ bs) = onto_first b (parts_from false mark bs)
parts_from false mark (b ∷ bs) =
    if b == mark then [] ∷ parts_from false mark bs
    else onto_first b (parts_from (b == backslash) mark bs)

-- the bytes cut at each byte `mark` that isn't escaped: a line's fields at the delimiter, a file's
-- lines where one byte ends them
abbrev pub parts : ℕ → List ℕ → List (List ℕ)
parts mark bytes = parts_from false mark bytes

-- whether a byte `mark` that isn't escaped is among the bytes
abbrev pub has_unit : ℕ → List ℕ → Bool
has_unit mark bytes = nat_lt 1 (length (parts mark bytes))

-- ---- lines

-- how lines end where these bytes stand after the first return that isn't escaped: by both, if a
-- newline is the first of them; while nothing stands there, that isn't decided
abbrev pub after_return : List ℕ → Option LineEnd
after_return [] = None
after_return (b ∷ bs) = Some (if b == newline then Both else Return)

-- how lines end, as `line_end` finds it; `escaped` says that the bytes come after a backslash that
-- begins an escape
abbrev pub line_end_from : Bool → List ℕ → Option LineEnd
line_end_from escaped [] = None
line_end_from true (b ∷ bs) = line_end_from false bs
line_end_from false (b ∷ bs) =
    if b == newline then Some Newline
    else if b == carriage_return then after_return bs
    else line_end_from (b == backslash) bs

-- how the lines of a file that begins with these bytes end: the first newline or return that isn't
-- escaped decides it
abbrev pub line_end : List ℕ → Option LineEnd
line_end bytes = line_end_from false bytes

-- the lines of these bytes, as `lines` cuts them where a return and a newline end them; `escaped`
-- says that the bytes come after a backslash that begins an escape
abbrev pub pairs_from : Bool → List ℕ → List (List ℕ)
pairs_from escaped [] = [] ∷ []
pairs_from true (b ∷ bs) = onto_first b (pairs_from false bs)
pairs_from false (b ∷ []) = (b ∷ []) ∷ []
pairs_from false (b ∷ c ∷ bs) =
    if b == carriage_return && c == newline then [] ∷ pairs_from false bs
    else onto_first b (pairs_from (b == backslash) (c ∷ bs))

-- the lines of these bytes, where lines end so; `escaped` says that the bytes come after a backslash
-- that begins an escape
abbrev pub lines_from : LineEnd → Bool → List ℕ → List (List ℕ)
lines_from Newline escaped bytes = parts_from escaped newline bytes
lines_from Return escaped bytes = parts_from escaped carriage_return bytes
lines_from Both escaped bytes = pairs_from escaped bytes

-- the bytes cut at each line end that isn't escaped
abbrev pub lines : LineEnd → List ℕ → List (List ℕ)
lines e bytes = lines_from e false bytes

-- how many bytes end a line
abbrev pub end_len : LineEnd → ℕ
end_len Newline = 1
end_len Return = 1
end_len Both = 2

-- how lines end, where the file's lines before these bytes have decided this, or nothing
abbrev pub decided_by : Option LineEnd → List ℕ → Option LineEnd
decided_by None bytes = line_end bytes
decided_by (Some e) bytes = Some e

-- how lines end once the input has ended: a return that stands last ends its line then
abbrev pub decided_at_end : Option LineEnd → List ℕ → LineEnd
decided_at_end before bytes = unwrap_or (decided_by before bytes) Return

-- ---- the value of a field

-- the byte that a letter after a backslash stands for
abbrev pub letter_value : ℕ → ℕ
letter_value c =
    if c == 98 then 8
    else if c == 116 then 9
    else if c == 110 then 10
    else if c == 118 then 11
    else if c == 102 then 12
    else if c == 114 then 13
    else c

-- the number of these digits of a base, the highest first
abbrev pub digits_value : ℕ → List ℕ → ℕ
digits_value base digits = fold (λ n c. n * base + digit_value c) 0 digits

-- the digits of this base that the bytes begin with, at most so many
abbrev pub digits_at : ℕ → ℕ → List ℕ → List ℕ
digits_at base most bytes = take_while (λ c. nat_lt (digit_value c) base) (take most bytes)

-- the byte that 1 to 3 octal digits after a backslash stand for, and their number
abbrev pub octal_escape : List ℕ → ℕ × ℕ
octal_escape digits = (digits_value 8 digits % 256, length digits)

-- the byte that x and these hexadecimal digits after a backslash stand for, and how many bytes
-- these are; without a digit it is x itself
abbrev pub hex_escape : List ℕ → ℕ × ℕ
hex_escape [] = (120, 1)
hex_escape (d ∷ ds) = (digits_value 16 (d ∷ ds), 1 + length (d ∷ ds))

-- the byte that an escape stands for, and how many bytes after its backslash belong to it. The
-- bytes after the backslash begin with these octal digits. With nothing after it, a backslash
-- stands for itself.
abbrev pub escape_by : List ℕ → List ℕ → ℕ × ℕ
escape_by (d ∷ ds) bytes = octal_escape (d ∷ ds)
escape_by [] [] = (backslash, 0)
escape_by [] (c ∷ bs) = if c == 120 then hex_escape (digits_at 16 2 bs) else (letter_value c, 1)

-- the byte that an escape stands for, and how many of these bytes, which stand after its backslash,
-- belong to it
abbrev pub escape_at : List ℕ → ℕ × ℕ
escape_at bytes = escape_by (digits_at 8 3 bytes) bytes

-- the text that the bytes spell after the first n, which belong to an escape before
abbrev pub text_after : ℕ → List ℕ → List ℕ
text_after n [] = []
text_after zero (b ∷ bs) =
    if b == backslash then (escape_at bs).0 ∷ text_after (escape_at bs).1 bs
    else b ∷ text_after 0 bs
text_after (suc n) (b ∷ bs) = text_after n bs

-- the value of a field: null if it is the null mark, and else the text that it spells; whether it is
-- the null mark is decided before any escape is read
abbrev pub field_value : Options → List ℕ → Option (List ℕ)
field_value o bytes = if bytes_eq bytes o.null_mark then None else Some (text_after 0 bytes)

-- ---- lines

-- whether a row may have n fields: exactly as many as the columns given, and at most 32,767 where
-- none are given
abbrev pub fits_width : Option ℕ → ℕ → Bool
fits_width None n = nat_le n most_fields
fits_width (Some columns) n = n == columns

-- A reader with these columns, or with any number (None), may give this row.
pub record FitsReader (columns : Option ℕ) (row : Row) : Type 0 where
  pub some : 0 < length row
  pub width : fits_width columns (length row) ≡ true

-- the row of a line without its end, or the first fault of the line: a return that isn't escaped, a
-- newline that isn't escaped, a lone backslash at its end, or its number of fields. Where a return
-- and a newline after it end lines, such a return or newline in a line is without the other.
abbrev pub line_row : Options → Option ℕ → List ℕ → Result Row TextFault
line_row o columns line =
    if has_unit carriage_return line then Err RawReturn
    else if has_unit newline line then Err RawNewline
    else if ends_escaped false line then Err LoneBackslash
    else if fits_width columns (length (parts o.delimiter line))
    then Ok (map (field_value o) (parts o.delimiter line))
    else Err (Columns (length (parts o.delimiter line)))

-- ---- files

-- a reading that begins with this row and goes on as `after`, or ends with this fault
abbrev pub row_or_fault : Result Row TextFault → RowsRead TextFault → RowsRead TextFault
row_or_fault (Ok row) after = after_rows (row ∷ []) after
row_or_fault (Err fault) after = record { rows = []; ending = Bad fault }

-- a reading that begins with this whole line and goes on as `after`; the end mark or a fault ends
-- it
abbrev pub line_reading : Options → Option ℕ → List ℕ → RowsRead TextFault → RowsRead TextFault
line_reading o columns line after =
    if bytes_eq line end_mark then record { rows = []; ending = Done }
    else row_or_fault (line_row o columns line) after

-- the reading of lines, the last of which has no end yet
abbrev pub lines_reading : Options → Option ℕ → List (List ℕ) → RowsRead TextFault
lines_reading o columns [] = record { rows = []; ending = Open [] }
lines_reading o columns (line ∷ []) = record { rows = []; ending = Open line }
lines_reading o columns (line ∷ next ∷ lines) =
    line_reading o columns line (lines_reading o columns (next ∷ lines))

-- what bytes are read as, where their lines end so; while that isn't decided, no line is whole
abbrev pub reading_by : Options → Option ℕ → Option LineEnd → List ℕ → RowsRead TextFault
reading_by o columns None bytes = record { rows = []; ending = Open bytes }
reading_by o columns (Some e) bytes = lines_reading o columns (lines e bytes)

-- what bytes of a file are read as, where they come after lines that ended so, or after none: the
-- rows of their whole lines, up to the end mark or the first fault
unfoldable pub reading_after : Options → Option ℕ → Option LineEnd → List ℕ → RowsRead TextFault
reading_after o columns before bytes = reading_by o columns (decided_by before bytes) bytes

-- what the beginning of a file is read as
abbrev pub text_reading : Options → Option ℕ → List ℕ → RowsRead TextFault
text_reading o columns bytes = reading_after o columns None bytes

-- what stands after the rows once the input has ended: a last line without its end is a whole one
-- then, unless it is empty
abbrev pub last_reading : Options → Option ℕ → RowsEnding TextFault → RowsRead TextFault
last_reading o columns (Open []) = record { rows = []; ending = Ended }
last_reading o columns (Open (b ∷ bs)) =
    line_reading o columns (b ∷ bs) (record { rows = []; ending = Ended })
last_reading o columns Done = record { rows = []; ending = Done }
last_reading o columns Ended = record { rows = []; ending = Ended }
last_reading o columns (Bad fault) = record { rows = []; ending = Bad fault }

-- this reading of the bytes so far, once the input has ended
abbrev pub text_at_end : Options → Option ℕ → RowsRead TextFault → RowsRead TextFault
text_at_end o columns r = after_rows r.rows (last_reading o columns r.ending)

-- what the last bytes of a file are read as, where they come after lines that ended so, or after
-- none
unfoldable pub last_after : Options → Option ℕ → Option LineEnd → List ℕ → RowsRead TextFault
last_after o columns before bytes =
    text_at_end o columns (lines_reading o columns (lines (decided_at_end before bytes) bytes))

-- what a whole file is read as
abbrev pub text_file_reading : Options → Option ℕ → List ℕ → RowsRead TextFault
text_file_reading o columns bytes = last_after o columns None bytes

-- ---- the canonical line of a row

-- the letter by which a byte is written after a backslash, if it has one: the delimiter has itself,
-- if no other
abbrev pub letter_for : ℕ → ℕ → Option ℕ
letter_for delimiter b =
    if b == 8 then Some 98
    else if b == 9 then Some 116
    else if b == 10 then Some 110
    else if b == 11 then Some 118
    else if b == 12 then Some 102
    else if b == 13 then Some 114
    else if b == backslash then Some backslash
    else if b == delimiter then Some b
    else None

-- how a byte with this letter is written: a backslash and the letter; without one, the byte itself
abbrev pub with_letter : Option ℕ → ℕ → List ℕ
with_letter None b = b ∷ []
with_letter (Some letter) b = backslash ∷ letter ∷ []

-- how a byte of a text is written
abbrev pub written_byte : ℕ → ℕ → List ℕ
written_byte delimiter b = with_letter (letter_for delimiter b) b

-- how a value is written as a field: the null mark, or its bytes one by one
abbrev pub written_field : Options → Option (List ℕ) → List ℕ
written_field o None = o.null_mark
written_field o (Some text) = flat_map (written_byte o.delimiter) text

-- how the fields of a row are written, with a delimiter between any two
abbrev pub written_fields : Options → Row → List ℕ
written_fields o row = join_with_byte o.delimiter (map (written_field o) row)

-- the canonical line of a row: its fields and a newline
abbrev pub written_row : Options → Row → List ℕ
written_row o row = written_fields o row ++ newline ∷ []

-- ---- rows without a canonical line

-- whether a value is a text that is written as null is, and so would be read as null
abbrev pub is_like_null : Options → Option (List ℕ) → Bool
is_like_null o None = false
is_like_null o (Some text) = bytes_eq (written_field o (Some text)) o.null_mark

-- the fault of a row whose field of this number, counted from 0, is the first that is like null
abbrev pub like_null : Option ℕ → Option RowFault
like_null None = None
like_null (Some n) = Some (faults.LikeNull n)

-- why a row has no canonical line, if it has none: its number of fields, else a text that is like
-- null
abbrev pub text_fault : Options → Row → Option RowFault
text_fault o row =
    if is_misfit row then Some (faults.Width (length row))
    else like_null (position_from (is_like_null o) 0 row)
