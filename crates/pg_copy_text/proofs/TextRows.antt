-- Worked examples of text files, computed from the definitions alone.
use Rattle.std.specs.Prelude.{◌≡◌, ℕ, List, [], ◌∷◌, Some, None, refl}
use Rattle.std.proofs.Common.{arith, inl}
use Rattle.pg_copy_rows.specs.declared.fault.RowFault.TheVariants as row_faults
use Rattle.pg_copy_rows.specs.declared.fault.TextFault.{TextFault}
use Rattle.pg_copy_rows.specs.declared.fault.TextFault.TheVariants.{LoneBackslash, Columns}
use Rattle.pg_copy_rows.specs.Row.{Row}
use Rattle.pg_copy_rows.specs.Reading.{RowsRead, RowsEnding, Open, Done, Ended, Bad}
use Rattle.pg_copy_text.specs.Text.{default_options, reading_after, last_after, text_reading, text_file_reading, written_row, text_fault}
use Rattle.pg_copy_text.specs.TextField.{IsField, nothing, plain, escaped, hexadecimal, letter}

-- a tab b, null, the empty text, \N
four : Row
four = Some (0x61 ∷ 0x09 ∷ 0x62 ∷ []) ∷ None ∷ Some [] ∷ Some (0x5C ∷ 0x4E ∷ []) ∷ []

four_written : List ℕ
four_written = 0x61 ∷ 0x5C ∷ 0x74 ∷ 0x62 ∷ 0x09 ∷ 0x5C ∷ 0x4E ∷ 0x09 ∷ 0x09 ∷ 0x5C ∷ 0x5C ∷ 0x4E ∷ 0x0A ∷ []

written : written_row default_options four ≡ four_written
unfolding four four_written
written = refl

read_back : text_reading default_options (Some 4) four_written ≡ record { rows = four ∷ []; ending = Open [] }
unfolding reading_after last_after four four_written
read_back = refl

-- 1, null
two : Row
two = Some (0x31 ∷ []) ∷ None ∷ []

two_written : written_row default_options two ≡ 0x31 ∷ 0x09 ∷ 0x5C ∷ 0x4E ∷ 0x0A ∷ []
unfolding two
two_written = refl

two_read : text_reading default_options (Some 2) (0x31 ∷ 0x09 ∷ 0x5C ∷ 0x4E ∷ 0x0A ∷ []) ≡ record { rows = two ∷ []; ending = Open [] }
unfolding reading_after last_after two
two_read = refl

-- \\N spells \N, which isn't null
backslash_n : IsField default_options (0x5C ∷ 0x5C ∷ 0x4E ∷ []) (Some (0x5C ∷ 0x4E ∷ []))
backslash_n = (λ e. cc, escaped (0x5C ∷ []) (0x4E ∷ []) 0x5C (0x4E ∷ []) (letter 0x5C (0x4E ∷ []) (omega arith) (λ e. absurd (omega (arith, e)))) (plain 0x4E [] [] (λ e. absurd (omega (arith, e))) nothing))

-- \x41 spells A
hexadecimal_a : IsField default_options (0x5C ∷ 0x78 ∷ 0x34 ∷ 0x31 ∷ []) (Some (0x41 ∷ []))
hexadecimal_a = (λ e. cc, escaped (0x78 ∷ 0x34 ∷ 0x31 ∷ []) [] 0x41 [] (hexadecimal (0x34 ∷ 0x31 ∷ []) [] (record { each = (omega arith, (omega arith, tt)); some = omega arith; few = omega arith; all = inl refl })) nothing)

no_field : text_fault default_options [] ≡ Some (row_faults.Width 0)
no_field = refl

rows_only : List Row → RowsEnding TextFault → RowsRead TextFault
rows_only rows ending = record { rows = rows; ending = ending }

escapes : text_file_reading default_options (Some 4) (0x5C ∷ 0x31 ∷ 0x30 ∷ 0x31 ∷ 0x31 ∷ 0x09 ∷ 0x5C ∷ 0x78 ∷ 0x34 ∷ 0x31 ∷ 0x09 ∷ 0x5C ∷ 0x78 ∷ 0x09 ∷ 0x5C ∷ 0x38 ∷ [])
    ≡ rows_only ((Some (0x41 ∷ 0x31 ∷ []) ∷ Some (0x41 ∷ []) ∷ Some (0x78 ∷ []) ∷ Some (0x38 ∷ []) ∷ []) ∷ []) Ended
unfolding reading_after last_after rows_only
escapes = refl

empty_line : text_file_reading default_options (Some 1) (0x0A ∷ []) ≡ rows_only ((Some [] ∷ []) ∷ []) Ended
unfolding reading_after last_after rows_only
empty_line = refl

empty_line_of_two : text_file_reading default_options (Some 2) (0x0A ∷ []) ≡ rows_only [] (Bad (Columns 1))
unfolding reading_after last_after rows_only
empty_line_of_two = refl

lone_backslash : text_file_reading default_options (Some 1) (0x61 ∷ 0x5C ∷ []) ≡ rows_only [] (Bad LoneBackslash)
unfolding reading_after last_after rows_only
lone_backslash = refl

return_and_newline : text_reading default_options (Some 1) (0x61 ∷ 0x0D ∷ 0x0A ∷ []) ≡ rows_only ((Some (0x61 ∷ []) ∷ []) ∷ []) (Open [])
unfolding reading_after last_after rows_only
return_and_newline = refl

end_mark_first : text_reading default_options (Some 1) (0x5C ∷ 0x2E ∷ 0x0A ∷ 0x61 ∷ 0x0A ∷ []) ≡ rows_only [] Done
unfolding reading_after last_after rows_only
end_mark_first = refl

octal_777 : text_reading default_options (Some 1) (0x5C ∷ 0x37 ∷ 0x37 ∷ 0x37 ∷ 0x0A ∷ []) ≡ rows_only ((Some (0xFF ∷ []) ∷ []) ∷ []) (Open [])
unfolding reading_after last_after rows_only
octal_777 = refl

octal_400 : text_reading default_options (Some 1) (0x5C ∷ 0x34 ∷ 0x30 ∷ 0x30 ∷ 0x0A ∷ []) ≡ rows_only ((Some (0x00 ∷ []) ∷ []) ∷ []) (Open [])
unfolding reading_after last_after rows_only
octal_400 = refl

hexadecimal_4g : text_reading default_options (Some 1) (0x5C ∷ 0x78 ∷ 0x34 ∷ 0x47 ∷ 0x0A ∷ []) ≡ rows_only ((Some (0x04 ∷ 0x47 ∷ []) ∷ []) ∷ []) (Open [])
unfolding reading_after last_after rows_only
hexadecimal_4g = refl

escaped_newline : text_reading default_options (Some 1) (0x5C ∷ 0x0A ∷ 0x0A ∷ []) ≡ rows_only ((Some (0x0A ∷ []) ∷ []) ∷ []) (Open [])
unfolding reading_after last_after rows_only
escaped_newline = refl

open_end_mark : text_file_reading default_options (Some 1) (0x5C ∷ 0x2E ∷ []) ≡ rows_only [] Done
unfolding reading_after last_after rows_only
open_end_mark = refl

wrong_width_later : text_file_reading default_options (Some 1) (0x61 ∷ 0x0A ∷ 0x62 ∷ 0x09 ∷ 0x63 ∷ 0x0A ∷ []) ≡ rows_only ((Some (0x61 ∷ []) ∷ []) ∷ []) (Bad (Columns 2))
unfolding reading_after last_after rows_only
wrong_width_later = refl
