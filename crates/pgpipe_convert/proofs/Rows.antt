-- Worked examples of files that are converted, computed from the definitions alone.
use Rattle.std.proofs.Common.{ℕ, List, [], ◌∷◌, Some, None, refl, inl, inr}
use Rattle.pg_copy.specs.fault.BinaryFault.TheVariants as binary_fault
use Rattle.pg_copy.specs.fault.TextFault.TheVariants as text_fault
use Rattle.pg_copy.specs.BinaryPart.{binary_reading}
use Rattle.pg_copy.specs.BinaryPart as binary
use Rattle.pg_copy.specs.Reading.{Done, Ended, Bad}
use Rattle.pg_copy.specs.Text.{default_options, reading_after, last_after}
use Rattle.pgpipe_convert.specs.declared.convert.Converted.TheVariants as converted
use Rattle.pgpipe_convert.specs.declared.format.Format.TheVariants as format
use Rattle.pgpipe_convert.specs.Convert.{IsOutput, file_of, none_left, writing_with}

abbrev after_head : List ℕ → List ℕ
after_head rest = 0x50 ∷ 0x47 ∷ 0x43 ∷ 0x4F ∷ 0x50 ∷ 0x59 ∷ 0x0A ∷ 0xFF ∷ 0x0D ∷ 0x0A ∷ 0x00 ∷ 0 ∷ 0 ∷ 0 ∷ 0 ∷ 0 ∷ 0 ∷ 0 ∷ 0 ∷ rest

-- 1 and null, as text, and as a binary row with a trailer after it
abbrev text_row : List ℕ
text_row = 0x31 ∷ 0x09 ∷ 0x5C ∷ 0x4E ∷ 0x0A ∷ []

abbrev binary_file : List ℕ
binary_file = after_head (0x00 ∷ 0x02 ∷ 0x00 ∷ 0x00 ∷ 0x00 ∷ 0x01 ∷ 0x31 ∷ 0xFF ∷ 0xFF ∷ 0xFF ∷ 0xFF ∷ 0xFF ∷ 0xFF ∷ [])

pub text_to_binary : (ended : Type 0) → ended → IsOutput (file_of format.Text 2) (writing_with default_options format.Binary) ended text_row converted.Whole binary_file
unfolding reading_after last_after
text_to_binary ended e = record {
  left = none_left Ended;
  answer = (Ended, tt, refl);
  before = after_head (0x00 ∷ 0x02 ∷ 0x00 ∷ 0x00 ∷ 0x00 ∷ 0x01 ∷ 0x31 ∷ 0xFF ∷ 0xFF ∷ 0xFF ∷ 0xFF ∷ []);
  are_converted = record { rows = (Some (0x31 ∷ []) ∷ None ∷ []) ∷ []; read = inr (e, refl); each_writable = (refl, tt); each_row = refl };
  with_trailer = refl;
}

pub binary_to_text : (ended : Type 0) → ended → IsOutput (file_of format.Binary 2) (writing_with default_options format.Text) ended binary_file converted.Whole text_row
unfolding binary_reading binary.head_at binary.fixed_at binary.signature_at binary.flags_at binary.extension_at binary.rows_reading binary.row_at binary.values_at binary.value_at
binary_to_text ended e = record {
  left = none_left Done;
  answer = (Done, tt, refl);
  before = text_row;
  are_converted = record { rows = (Some (0x31 ∷ []) ∷ None ∷ []) ∷ []; read = inr (e, refl); each_writable = (refl, tt); each_row = refl };
  with_trailer = refl;
}

-- a, and a line of two fields
abbrev a_and_two : List ℕ
a_and_two = 0x61 ∷ 0x0A ∷ 0x62 ∷ 0x09 ∷ 0x63 ∷ 0x0A ∷ []

pub rows_before_a_fault : (ended : Type 0) → IsOutput (file_of format.Text 1) (writing_with default_options format.Text) ended a_and_two (converted.Text (text_fault.Columns 2)) (0x61 ∷ 0x0A ∷ [])
unfolding reading_after last_after
rows_before_a_fault ended = record {
  left = none_left (Bad (converted.Text (text_fault.Columns 2)));
  answer = refl;
  before = 0x61 ∷ 0x0A ∷ [];
  are_converted = record { rows = (Some (0x61 ∷ []) ∷ []) ∷ []; read = inl refl; each_writable = (refl, tt); each_row = refl };
  with_trailer = refl;
}

-- the same in binary: no trailer stands after the rows
pub no_trailer_after_a_fault : (ended : Type 0) → IsOutput (file_of format.Text 1) (writing_with default_options format.Binary) ended a_and_two (converted.Text (text_fault.Columns 2)) (after_head (0x00 ∷ 0x01 ∷ 0x00 ∷ 0x00 ∷ 0x00 ∷ 0x01 ∷ 0x61 ∷ []))
unfolding reading_after last_after
no_trailer_after_a_fault ended = record {
  left = none_left (Bad (converted.Text (text_fault.Columns 2)));
  answer = refl;
  before = after_head (0x00 ∷ 0x01 ∷ 0x00 ∷ 0x00 ∷ 0x00 ∷ 0x01 ∷ 0x61 ∷ []);
  are_converted = record { rows = (Some (0x61 ∷ []) ∷ []) ∷ []; read = inl refl; each_writable = (refl, tt); each_row = refl };
  with_trailer = refl;
}

-- a binary file without its trailer has a fault only where the input has ended
pub no_trailer_read : (ended : Type 0) → ended → IsOutput (file_of format.Binary 1) (writing_with default_options format.Text) ended (after_head (0x00 ∷ 0x01 ∷ 0x00 ∷ 0x00 ∷ 0x00 ∷ 0x01 ∷ 0x61 ∷ [])) (converted.Binary binary_fault.Truncated) (0x61 ∷ 0x0A ∷ [])
unfolding binary_reading binary.head_at binary.fixed_at binary.signature_at binary.flags_at binary.extension_at binary.rows_reading binary.row_at binary.values_at binary.value_at
no_trailer_read ended e = record {
  left = none_left (Bad (converted.Binary binary_fault.Truncated));
  answer = refl;
  before = 0x61 ∷ 0x0A ∷ [];
  are_converted = record { rows = (Some (0x61 ∷ []) ∷ []) ∷ []; read = inr (e, refl); each_writable = (refl, tt); each_row = refl };
  with_trailer = refl;
}
