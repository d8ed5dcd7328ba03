-- Worked examples of decoded lines, computed from the definitions alone but for the decimal numbers.
use Rattle.std.proofs.Common.{◌≡◌, ℤ, pos, [], ◌∷◌, ◌++◌, replicate, Some, None, codes, refl}
use Rattle.std.specs.Fmt.{decimal}
use Rattle.hex.specs.Hex.{encode_with}
use Rattle.pg_wire.specs.message.BackMessage.TheVariants.{AuthOther, AuthMd5, KeyData, Ready, DataRow, RowDescription, ErrorResponse}
use Rattle.pg_wire.specs.message.First.TheVariants.{Startup}
use Rattle.pg_wire.specs.value.Status.TheVariants.{Idle}
use Rattle.pgpipe_texts.specs.Backend.{back_text, column_format, named_request, of_mechanism, request_text, without_ends}
use Rattle.pgpipe_texts.specs.Fields.{field_name, fields_text, further_field}
use Rattle.pgpipe_texts.specs.Packet.{packet_text}
use Rattle.pgpipe_texts.specs.Text.{boundary, cut_mark, is_boundary, listed, quoted, shown_byte, shown_bytes, shown_part}
use Rattle.pgpipe_texts.specs.Words.{format_text, plain_type, type_text}

-- ---- messages

pub ready : back_text (Ready Idle) ≡ codes "ReadyForQuery idle"
ready = refl

pub row_of_two : back_text (DataRow (Some (49 ∷ []) ∷ None ∷ [])) ≡ codes "DataRow ('1', NULL)"
unfolding listed quoted shown_part cut_mark shown_bytes shown_byte
row_of_two = refl

-- a column of text, and one of bytes whose values are binary
pub columns : back_text (RowDescription (record { name = 110 ∷ []; table_oid = 0; attribute = pos 0; type_oid = 23; size = pos 4; modifier = pos 0; format = pos 0 } ∷ record { name = 98 ∷ []; table_oid = 0; attribute = pos 0; type_oid = 17; size = pos 0; modifier = pos 0; format = pos 1 } ∷ [])) ≡ codes "RowDescription (n int4, b bytea binary)"
unfolding listed shown_bytes shown_byte column_format format_text type_text plain_type
columns = refl

pub mechanism : back_text (AuthOther (pos 10) (codes "SCRAM-SHA-256" ++ 0 ∷ 0 ∷ [])) ≡ codes "AuthenticationSASL SCRAM-SHA-256"
unfolding named_request request_text without_ends of_mechanism shown_byte
mechanism = refl

pub salt : back_text (AuthMd5 (1 ∷ 35 ∷ 69 ∷ 239 ∷ [])) ≡ codes "AuthenticationMD5Password salt 012345ef"
unfolding encode_with
salt = refl

pub error : back_text (ErrorResponse (record { code = 83; value = codes "ERROR" } ∷ record { code = 67; value = codes "42P01" } ∷ record { code = 77; value = codes "no table t" } ∷ record { code = 80; value = codes "15" } ∷ [])) ≡ codes "ErrorResponse ERROR 42P01 no table t, position '15'"
unfolding fields_text further_field field_name quoted shown_part cut_mark shown_bytes shown_byte
error = refl

pub startup : packet_text (Startup ((codes "user", codes "u") ∷ [])) ≡ codes "StartupMessage (user 'u')"
unfolding listed quoted shown_part cut_mark shown_bytes shown_byte
startup = refl

-- ---- what is hidden

-- whatever the key
pub key : (process one other : ℤ) → back_text (KeyData process one) ≡ back_text (KeyData process other)
key process one other = refl

-- ---- texts

-- a tab, a newline, a quote, a backslash and an escape
pub escapes : quoted (9 ∷ 10 ∷ 39 ∷ 92 ∷ 27 ∷ []) ≡ codes "'\\t\\n\\'\\\\\\x1b'"
unfolding quoted shown_part cut_mark shown_bytes shown_byte encode_with
escapes = refl

-- the control character U+0085
pub next_line : quoted (194 ∷ 133 ∷ []) ≡ codes "'\\xc2\\x85'"
unfolding quoted shown_part cut_mark shown_bytes shown_byte encode_with
next_line = refl

-- a byte more than is shown
pub cut : quoted (replicate 101 120) ≡ codes "'" ++ replicate 100 120 ++ codes "'... (" ++ decimal 101 ++ codes " bytes)"
unfolding quoted shown_part cut_mark shown_bytes shown_byte boundary is_boundary
cut = refl
