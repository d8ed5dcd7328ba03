-- What the fields of a line are read as: a value, and with it the fields after it where more are to
-- come; or nothing, where they aren't of the kind that is asked for. A field is a list of bytes, or
-- null.
use Rattle.std.specs.Prelude.{ℕ, ℤ, pos, neg_ℤ, nat_le, true, false, if◌then◌else◌, List, [], ◌∷◌, drop, replicate, Option, Some, None, option_map}
use Rattle.std.specs.Str.{all_ascii_digits}
use Rattle.std.specs.Str.Parse.{digits_value, starts_with_minus}
use Rattle.pg_copy.specs.Row.{Row}
use Rattle.pg_wire.specs.value.CopyHead.{CopyHead}
use Rattle.pg_wire.specs.value.ErrorField.{ErrorField}
use Rattle.pgpipe_lines.specs.declared.verb.CopyFormat.{CopyFormat}
use Rattle.pgpipe_lines.specs.declared.verb.CopyFormat.TheVariants as format
use Rattle.pgpipe_lines.specs.Verb.{format_of}

-- one reading after the other: where the first gives nothing, both give nothing
infixl 10 ◌>>=◌
abbrev pub ◌>>=◌ : {A B : Type 0} → Option A → (A → Option B) → Option B
(Some x) >>= f = f x
None >>= f = None

-- ---- numbers

-- the number that these decimal digits say, if there is at least one and it is at most `most`
abbrev pub digits_up_to : ℕ → List ℕ → Option ℕ
digits_up_to most [] = None
digits_up_to most (d ∷ ds) =
    if all_ascii_digits (d ∷ ds) then
    (if nat_le (digits_value 10 (d ∷ ds)) most then Some (digits_value 10 (d ∷ ds)) else None)
    else None

-- a number of 0 to 65,535, in decimal digits
abbrev pub short_number : List ℕ → Option ℕ
short_number text = digits_up_to 65535 text

-- a number of 0 to 4,294,967,295, in decimal digits
abbrev pub number : List ℕ → Option ℕ
number text = digits_up_to 4294967295 text

-- a number of -2,147,483,648 to 2,147,483,647, in decimal digits, with `-` where it is negative
abbrev pub signed_number : List ℕ → Option ℤ
signed_number text =
    if starts_with_minus text
    then option_map (λ n. neg_ℤ (pos n)) (digits_up_to 2147483648 (drop 1 text))
    else option_map pos (digits_up_to 2147483647 text)

-- ---- the next field

-- the next field, which isn't null, and the fields after it
abbrev pub text_at : Row → Option (List ℕ × Row)
text_at (Some text ∷ fields) = Some (text, fields)
text_at _ = None

-- the next field, read so, and the fields after it
abbrev pub read_at : {A : Type 0} → (List ℕ → Option A) → Row → Option (A × Row)
read_at read fields = text_at fields >>= λ t. read t.0 >>= λ x. Some (x, t.1)

-- the next two fields, neither of which is null, and the fields after them
abbrev pub pair_at : Row → Option ((List ℕ × List ℕ) × Row)
pair_at fields = text_at fields >>= λ a. text_at a.1 >>= λ b. Some ((a.0, b.0), b.1)

-- what the server says of a copy with so many columns, all in the copy's format
abbrev pub copy_head : CopyFormat → ℕ → CopyHead
copy_head format.Text columns = record { binary = false; formats = replicate columns (pos 0) }
copy_head format.Binary columns = record { binary = true; formats = replicate columns (pos 1) }

-- a copy's format and number of columns, and the fields after them
abbrev pub copy_head_at : Row → Option (CopyHead × Row)
copy_head_at fields =
    read_at format_of fields >>= λ f. read_at short_number f.1
    >>= λ n. Some (copy_head f.0 n.0, n.1)

-- ---- all the fields

-- what was read, if no field stands after it
abbrev pub if_all : {A : Type 0} → A → Row → Option A
if_all x [] = Some x
if_all x (_ ∷ _) = None

-- no field at all
abbrev pub nothing_of : Row → Option Unit
nothing_of fields = if_all tt fields

-- one field, which isn't null, and none after it
abbrev pub text_of : Row → Option (List ℕ)
text_of fields = text_at fields >>= λ t. if_all t.0 t.1

-- two fields, neither of which is null, and none after them
abbrev pub pair_of : Row → Option (List ℕ × List ℕ)
pair_of fields = pair_at fields >>= λ p. if_all p.0 p.1

-- one number of 0 to 4,294,967,295, and no field after it
abbrev pub number_of : Row → Option ℕ
number_of fields = read_at number fields >>= λ n. if_all n.0 n.1

-- all the fields, none of which is null
unfoldable pub texts_of : Row → Option (List (List ℕ))
texts_of [] = Some []
texts_of (None ∷ fields) = None
texts_of (Some text ∷ fields) = texts_of fields >>= λ texts. Some (text ∷ texts)

-- all the fields as numbers of 0 to 4,294,967,295
unfoldable pub numbers_of : Row → Option (List ℕ)
numbers_of [] = Some []
numbers_of (None ∷ fields) = None
numbers_of (Some text ∷ fields) = number text >>= λ n. numbers_of fields >>= λ ns. Some (n ∷ ns)

-- the byte of a field that has just one
abbrev pub byte_of : List ℕ → Option ℕ
byte_of (b ∷ []) = Some b
byte_of _ = None

-- the fields of an error or a notice: pairs of a code, which is one byte, and a value
unfoldable pub error_fields_of : Row → Option (List ErrorField)
error_fields_of [] = Some []
error_fields_of (Some text ∷ Some value ∷ fields) =
    byte_of text >>= λ code. error_fields_of fields
    >>= λ others. Some (record { code = code; value = value } ∷ others)
error_fields_of _ = None
