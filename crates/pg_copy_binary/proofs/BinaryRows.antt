-- Worked examples of binary files, computed from the definitions alone.
use Rattle.std.specs.Prelude.{◌≡◌, ℕ, List, [], ◌∷◌, ◌++◌, Some, None, refl, pos, negsuc}
use Rattle.pg_copy_rows.specs.declared.fault.BinaryFault.{BinaryFault}
use Rattle.pg_copy_rows.specs.declared.fault.BinaryFault.TheVariants.{Flags, Extension, FieldCount, FieldLength, Truncated, AfterTrailer}
use Rattle.pg_copy_rows.specs.Row.{Row}
use Rattle.pg_copy_rows.specs.Reading.{RowsRead, RowsEnding, Done, Bad}
use Rattle.pg_copy_binary.specs.Binary.{written_head, binary_row, trailer}
use Rattle.pg_copy_binary.specs.BinaryPart as binary

signed : List ℕ → List ℕ
signed rest = 0x50 ∷ 0x47 ∷ 0x43 ∷ 0x4F ∷ 0x50 ∷ 0x59 ∷ 0x0A ∷ 0xFF ∷ 0x0D ∷ 0x0A ∷ 0x00 ∷ rest

after_head : List ℕ → List ℕ
after_head rest = signed (0 ∷ 0 ∷ 0 ∷ 0 ∷ 0 ∷ 0 ∷ 0 ∷ 0 ∷ rest)

binary_only : List Row → RowsEnding BinaryFault → RowsRead BinaryFault
binary_only rows ending = record { rows = rows; ending = ending }

head_written : written_head ≡ after_head []
unfolding after_head signed
head_written = refl

row_written : binary_row (Some (0x31 ∷ []) ∷ None ∷ []) ++ trailer ≡ 0x00 ∷ 0x02 ∷ 0x00 ∷ 0x00 ∷ 0x00 ∷ 0x01 ∷ 0x31 ∷ 0xFF ∷ 0xFF ∷ 0xFF ∷ 0xFF ∷ 0xFF ∷ 0xFF ∷ []
row_written = refl

no_rows : binary.binary_file_reading 1 2147483647 (after_head (0xFF ∷ 0xFF ∷ [])) ≡ binary_only [] Done
unfolding after_head signed binary_only binary.binary_reading binary.head_at binary.fixed_at binary.signature_at binary.flags_at binary.extension_at binary.rows_reading binary.row_at
no_rows = refl

truncated : binary.binary_file_reading 1 2147483647 (after_head (0xFF ∷ [])) ≡ binary_only [] (Bad Truncated)
unfolding after_head signed binary_only binary.binary_reading binary.head_at binary.fixed_at binary.signature_at binary.flags_at binary.extension_at binary.rows_reading binary.row_at
truncated = refl

after_trailer : binary.binary_reading 1 2147483647 (after_head (0xFF ∷ 0xFF ∷ 0x00 ∷ [])) ≡ binary_only [] (Bad AfterTrailer)
unfolding after_head signed binary_only binary.binary_reading binary.head_at binary.fixed_at binary.signature_at binary.flags_at binary.extension_at binary.rows_reading binary.row_at
after_trailer = refl

flags : binary.binary_reading 1 2147483647 (signed (0 ∷ 1 ∷ 0 ∷ 0 ∷ 0 ∷ 0 ∷ 0 ∷ 0 ∷ 0xFF ∷ 0xFF ∷ [])) ≡ binary_only [] (Bad (Flags 65536))
unfolding signed binary_only binary.binary_reading binary.head_at binary.fixed_at binary.signature_at binary.flags_at
flags = refl

extension_skipped : binary.binary_reading 1 2147483647 (signed (0 ∷ 0 ∷ 0 ∷ 1 ∷ 0 ∷ 0 ∷ 0 ∷ 2 ∷ 0xAA ∷ 0xBB ∷ 0xFF ∷ 0xFF ∷ [])) ≡ binary_only [] Done
unfolding signed binary_only binary.binary_reading binary.head_at binary.fixed_at binary.signature_at binary.flags_at binary.extension_at binary.rows_reading binary.row_at
extension_skipped = refl

negative_extension : binary.binary_reading 1 2147483647 (signed (0 ∷ 0 ∷ 0 ∷ 0 ∷ 0xFF ∷ 0xFF ∷ 0xFF ∷ 0xFF ∷ [])) ≡ binary_only [] (Bad (Extension (negsuc 0)))
unfolding signed binary_only binary.binary_reading binary.head_at binary.fixed_at binary.signature_at binary.flags_at binary.extension_at
negative_extension = refl

field_count : binary.binary_reading 1 2147483647 (after_head (0x00 ∷ 0x02 ∷ [])) ≡ binary_only [] (Bad (FieldCount (pos 2)))
unfolding after_head signed binary_only binary.binary_reading binary.head_at binary.fixed_at binary.signature_at binary.flags_at binary.extension_at binary.rows_reading binary.row_at
field_count = refl

field_length : binary.binary_reading 1 2 (after_head (0x00 ∷ 0x01 ∷ 0 ∷ 0 ∷ 0 ∷ 3 ∷ [])) ≡ binary_only [] (Bad (FieldLength (pos 3)))
unfolding after_head signed binary_only binary.binary_reading binary.head_at binary.fixed_at binary.signature_at binary.flags_at binary.extension_at binary.rows_reading binary.row_at binary.values_at binary.value_at
field_length = refl

-- 1 and null
one_row : binary.binary_reading 2 1073741823 (after_head (0x00 ∷ 0x02 ∷ 0 ∷ 0 ∷ 0 ∷ 1 ∷ 0x31 ∷ 0xFF ∷ 0xFF ∷ 0xFF ∷ 0xFF ∷ 0xFF ∷ 0xFF ∷ [])) ≡ binary_only ((Some (0x31 ∷ []) ∷ None ∷ []) ∷ []) Done
unfolding after_head signed binary_only binary.binary_reading binary.head_at binary.fixed_at binary.signature_at binary.flags_at binary.extension_at binary.rows_reading binary.row_at binary.values_at binary.value_at
one_row = refl
