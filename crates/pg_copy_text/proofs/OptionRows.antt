-- Worked examples of text files with options, computed from the definitions alone.
use Rattle.std.specs.Prelude.{◌≡◌, ℕ, List, [], ◌∷◌, Some, None, refl}
use Rattle.pg_copy_rows.specs.declared.fault.OptionFault.TheVariants as option_faults
use Rattle.pg_copy_rows.specs.declared.fault.RowFault.TheVariants as row_faults
use Rattle.pg_copy_rows.specs.Row.{Row}
use Rattle.pg_copy_rows.specs.Reading.{Open}
use Rattle.pg_copy_text.specs.Text.{Options, reading_after, text_reading, written_row, text_fault}
use Rattle.pg_copy_text.specs.TextOptions.{options_fault}

-- ---- options

-- the byte a
letter : options_fault 0x61 (0x5C ∷ 0x4E ∷ []) ≡ Some (option_faults.Delimiter 97)
letter = refl

-- a delimiter in the null mark
delimiter_in_mark : options_fault 0x2C (0x61 ∷ 0x2C ∷ 0x62 ∷ []) ≡ Some option_faults.NullMark
delimiter_in_mark = refl

lone_backslash : options_fault 0x2C (0x5C ∷ []) ≡ Some option_faults.NullMark
lone_backslash = refl

whole_escape : options_fault 0x2C (0x5C ∷ 0x5C ∷ []) ≡ None
whole_escape = refl

-- ---- a comma, and the empty mark

comma : Options
comma = record { delimiter = 0x2C; null_mark = [] }

are_options : options_fault 0x2C [] ≡ None
are_options = refl

-- a,b, null, x tab
three : Row
three = Some (0x61 ∷ 0x2C ∷ 0x62 ∷ []) ∷ None ∷ Some (0x78 ∷ 0x09 ∷ []) ∷ []

three_written : List ℕ
three_written = 0x61 ∷ 0x5C ∷ 0x2C ∷ 0x62 ∷ 0x2C ∷ 0x2C ∷ 0x78 ∷ 0x5C ∷ 0x74 ∷ 0x0A ∷ []

written : written_row comma three ≡ three_written
unfolding comma three three_written
written = refl

read_back : text_reading comma (Some 3) three_written ≡ record { rows = three ∷ []; ending = Open [] }
unfolding reading_after comma three three_written
read_back = refl

writable : text_fault comma three ≡ None
unfolding comma three
writable = refl

-- the empty text
like_null : text_fault comma (Some [] ∷ []) ≡ Some (row_faults.LikeNull 0)
unfolding comma
like_null = refl
