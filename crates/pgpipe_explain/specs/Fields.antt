-- What the fields of a line have to be, and why they aren't: the first field that isn't of its kind.
use Rattle.std.specs.Prelude.{ℕ, ◌+◌, ◌≡◌, ◌⊎◌, ◌||◌, ◌&&◌, ◌==◌, nat_le, Bool, true, false, not, is_some, if◌then◌else◌, List, [], ◌∷◌, length, Option, Some, None, Result, Ok, Err, codes}
use Rattle.std.specs.Str.{bytes_eq, is_utf8}
use Rattle.pg_copy.specs.Row.{Row}
use Rattle.pgpipe_lines.specs.Arguments.{number, short_number, signed_number}
use Rattle.pgpipe_lines.specs.Verb.{auth_way, end_way, load_way, target_of}
use Rattle.pgpipe_explain.specs.declared.fields.Tail.{Tail}
use Rattle.pgpipe_explain.specs.declared.fields.Tail.TheVariants as tail
use Rattle.pgpipe_explain.specs.declared.kind.FieldKind.{FieldKind}
use Rattle.pgpipe_explain.specs.declared.kind.FieldKind.TheVariants as kind
use Rattle.pgpipe_explain.specs.declared.reason.LineReason.{LineReason}
use Rattle.pgpipe_explain.specs.declared.reason.LineReason.TheVariants as reason

-- ---- what a field has to be

-- a hexadecimal digit of either case
abbrev pub is_digit : ℕ → Bool
is_digit b =
    (nat_le 48 b && nat_le b 57) || (nat_le 97 b && nat_le b 102) || (nat_le 65 b && nat_le b 70)

-- four of these
abbrev pub are_digits : ℕ → ℕ → ℕ → ℕ → Bool
are_digits a b c d = is_digit a && is_digit b && is_digit c && is_digit d

-- 8 hexadecimal digits
abbrev pub is_salt : List ℕ → Bool
is_salt (a ∷ b ∷ c ∷ d ∷ e ∷ f ∷ g ∷ h ∷ []) = are_digits a b c d && are_digits e f g h
is_salt _ = false

-- the status after an answer
abbrev pub is_status : List ℕ → Bool
is_status text =
    bytes_eq text (codes "I") || bytes_eq text (codes "T") || bytes_eq text (codes "E")

-- the format of a copy
abbrev pub is_format : List ℕ → Bool
is_format text = bytes_eq text (codes "text") || bytes_eq text (codes "binary")

-- whether a text is of this kind
abbrev pub is_of : FieldKind → List ℕ → Bool
is_of kind.Text text = true
is_of kind.Path text = is_utf8 text
is_of kind.Number text = is_some (number text)
is_of kind.Signed text = is_some (signed_number text)
is_of kind.Columns text = is_some (short_number text)
is_of kind.Way text = is_some (auth_way text)
is_of kind.Salt text = is_salt text
is_of kind.Status text = is_status text
is_of kind.Format text = is_format text
is_of kind.Load text = is_some (load_way text)
is_of kind.End text = is_some (end_way text)
is_of kind.Target text = is_some (target_of text)
is_of kind.Code text = length text == 1

-- ---- why fields aren't of their kinds

-- the first reason, if there is one, and else the second
abbrev pub or_else : Option LineReason → Option LineReason → Option LineReason
or_else (Some r) other = Some r
or_else None other = other

-- why the field of this number isn't of a kind
abbrev pub judge_field : FieldKind → ℕ → Option (List ℕ) → Option LineReason
judge_field k n None = Some (reason.Null n)
judge_field k n (Some text) = if is_of k text then None else Some (reason.Not n k)

-- why the field of this number isn't of a kind; where there is no field, this
abbrev pub judge_at : Option LineReason → FieldKind → ℕ → Option (Option (List ℕ))
    → Option LineReason
judge_at missing k n None = missing
judge_at missing k n (Some field) = judge_field k n field

-- why these fields aren't all of a kind, after so many others
unfoldable pub judge_all : FieldKind → ℕ → Row → Option LineReason
judge_all k n [] = None
judge_all k n (field ∷ fields) =
    or_else (judge_field k (n + 1) field) (judge_all k (n + 1) fields)

-- what a field of codes with values has to be
abbrev pub code_or_value : Bool → FieldKind
code_or_value is_code = if is_code then kind.Code else kind.Text

-- why these fields aren't codes, each with a value after it, after so many others; with `false` a value
-- comes first
unfoldable pub judge_codes : Bool → ℕ → Row → Option LineReason
judge_codes is_code n [] = if is_code then None else Some (reason.NoValue n)
judge_codes is_code n (field ∷ fields) =
    or_else (judge_field (code_or_value is_code) (n + 1) field)
    (judge_codes (not is_code) (n + 1) fields)

-- why these fields, after so many others, aren't as they have to be
abbrev pub judge_tail : Tail → ℕ → Row → Option LineReason
judge_tail tail.Nothing n [] = None
judge_tail tail.Nothing n (field ∷ fields) = Some (reason.TooMany n)
judge_tail (tail.All k) n fields = judge_all k n fields
judge_tail tail.Values n fields = None
judge_tail tail.Codes n fields = judge_codes true n fields

-- why these fields, after so many others, aren't of these kinds and this tail; so many are wanted in all
unfoldable pub judge_from : ℕ → ℕ → List FieldKind → Tail → Row → Option LineReason
judge_from n wanted [] t fields = judge_tail t n fields
judge_from n wanted (k ∷ kinds) t [] = Some (reason.TooFew wanted)
judge_from n wanted (k ∷ kinds) t (field ∷ fields) =
    or_else (judge_field k (n + 1) field) (judge_from (n + 1) wanted kinds t fields)

-- why all the fields of a line aren't of these kinds and this tail
abbrev pub judge_fields : List FieldKind → Tail → Row → Option LineReason
judge_fields kinds t fields = judge_from 0 (length kinds) kinds t fields

-- the text of a field, and no byte where it is null or isn't there
abbrev pub word_of : Option (Option (List ℕ)) → List ℕ
word_of (Some (Some text)) = text
word_of _ = []

-- ---- a search for the line that is rejected

-- The reason by what a search over all rows came to: the reason that it has then, or none, where
-- memory ran out. Where a row is no line of fields, that is the reason if it is the one that is
-- looked for, and else nothing is claimed.
abbrev pub IsReasonOf : {S : Type 0} → (S → Option LineReason) → ℕ → Result S ℕ
    → Option LineReason → Type 0
IsReasonOf reason_of row (Ok s) r = (r ≡ reason_of s) ⊎ (r ≡ None)
IsReasonOf reason_of row (Err n) r = n ≡ row → (r ≡ Some reason.NoLine) ⊎ (r ≡ None)
