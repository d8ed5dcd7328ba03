-- Worked examples of how lines end, computed from the definitions alone.
use Rattle.std.specs.Prelude.{◌≡◌, List, [], ◌∷◌, Some, refl}
use Rattle.pg_copy_rows.specs.declared.fault.TextFault.{TextFault}
use Rattle.pg_copy_rows.specs.declared.fault.TextFault.TheVariants.{RawReturn, RawNewline}
use Rattle.pg_copy_rows.specs.Row.{Row}
use Rattle.pg_copy_rows.specs.Reading.{RowsRead, RowsEnding, Open, Done, Ended, Bad}
use Rattle.pg_copy_text.specs.Text.{default_options, reading_after, last_after, text_reading, text_file_reading}

reads : List Row → RowsEnding TextFault → RowsRead TextFault
reads rows ending = record { rows = rows; ending = ending }

a : Row
a = Some (0x61 ∷ []) ∷ []

b : Row
b = Some (0x62 ∷ []) ∷ []

both : text_reading default_options (Some 1) (0x61 ∷ 0x0D ∷ 0x0A ∷ 0x62 ∷ 0x0D ∷ 0x0A ∷ []) ≡ reads (a ∷ b ∷ []) (Open [])
unfolding reading_after reads a b
both = refl

-- the last return may begin a line end
returns_so_far : text_reading default_options (Some 1) (0x61 ∷ 0x0D ∷ 0x62 ∷ 0x0D ∷ []) ≡ reads (a ∷ b ∷ []) (Open [])
unfolding reading_after reads a b
returns_so_far = refl

return_after_newline : text_file_reading default_options (Some 1) (0x61 ∷ 0x0A ∷ 0x62 ∷ 0x0D ∷ 0x0A ∷ []) ≡ reads (a ∷ []) (Bad RawReturn)
unfolding last_after reads a
return_after_newline = refl

newline_after_return : text_reading default_options (Some 1) (0x61 ∷ 0x0D ∷ 0x62 ∷ 0x0A ∷ []) ≡ reads (a ∷ []) (Open (0x62 ∷ 0x0A ∷ []))
unfolding reading_after reads a
newline_after_return = refl

newline_after_return_at_end : text_file_reading default_options (Some 1) (0x61 ∷ 0x0D ∷ 0x62 ∷ 0x0A ∷ []) ≡ reads (a ∷ []) (Bad RawNewline)
unfolding last_after reads a
newline_after_return_at_end = refl

newline_after_both : text_file_reading default_options (Some 1) (0x61 ∷ 0x0D ∷ 0x0A ∷ 0x62 ∷ 0x0A ∷ []) ≡ reads (a ∷ []) (Bad RawNewline)
unfolding last_after reads a
newline_after_both = refl

undecided : text_reading default_options (Some 1) (0x61 ∷ 0x0D ∷ []) ≡ reads [] (Open (0x61 ∷ 0x0D ∷ []))
unfolding reading_after reads
undecided = refl

decided_at_end : text_file_reading default_options (Some 1) (0x61 ∷ 0x0D ∷ []) ≡ reads (a ∷ []) Ended
unfolding last_after reads a
decided_at_end = refl

lone_return_at_end : text_file_reading default_options (Some 1) (0x61 ∷ 0x0D ∷ 0x0A ∷ 0x62 ∷ 0x0D ∷ []) ≡ reads (a ∷ []) (Bad RawReturn)
unfolding last_after reads a
lone_return_at_end = refl

end_mark : text_reading default_options (Some 1) (0x61 ∷ 0x0D ∷ 0x0A ∷ 0x5C ∷ 0x2E ∷ 0x0D ∷ 0x0A ∷ 0x62 ∷ []) ≡ reads (a ∷ []) Done
unfolding reading_after reads a
end_mark = refl

escaped_return : text_reading default_options (Some 1) (0x61 ∷ 0x5C ∷ 0x0D ∷ 0x0A ∷ []) ≡ reads ((Some (0x61 ∷ 0x0D ∷ []) ∷ []) ∷ []) (Open [])
unfolding reading_after reads
escaped_return = refl
