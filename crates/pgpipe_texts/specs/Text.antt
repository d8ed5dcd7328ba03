-- How texts are shown: escaped, in quotes, and cut at a width.
use Rattle.std.specs.Prelude.{ℕ, zero, suc, ◌==◌, ◌&&◌, ◌||◌, Bool, not, nat_le, nat_lt, if◌then◌else◌, List, [], ◌∷◌, ◌++◌, length, take, slice_index, codes}
use Rattle.std.specs.Char.{is_ascii, is_ascii_control}
use Rattle.std.specs.Fmt.{decimal, is_char_start}
use Rattle.std.specs.List.{flat_map}
use Rattle.std.specs.Str.{is_utf8}
use Rattle.hex.specs.Hex.{encode_lower}

-- ---- a text with its escapes

-- Whether a byte is shown as it is: a control byte isn't, and a byte above ASCII only is where it is
-- part of a character that is shown.
abbrev pub is_plain : Bool → ℕ → Bool
is_plain utf8 b = not (is_ascii_control b) && (is_ascii b || utf8)

-- the escape of a byte that has no other: `\x` and two hexadecimal digits
abbrev pub digits_escape : ℕ → List ℕ
digits_escape b = codes "\\x" ++ encode_lower (b ∷ [])

-- A byte as it is shown. A backslash is doubled, and one stands before the `mark` that ends the
-- text.
unfoldable pub shown_byte : Bool → ℕ → ℕ → List ℕ
shown_byte utf8 mark b =
    if b == 9 then codes "\\t"
    else if b == 10 then codes "\\n"
    else if b == 13 then codes "\\r"
    else if b == 92 || b == mark then 92 ∷ b ∷ []
    else if is_plain utf8 b then b ∷ []
    else digits_escape b

-- These two bytes, one after the other, are a control character from U+0080 to U+009F in UTF-8.
abbrev pub is_high_control : ℕ → ℕ → Bool
is_high_control a b = a == 194 && nat_le 128 b && nat_lt b 160

-- the bytes as they are shown, one by one; a control character from U+0080 to U+009F is escaped like
-- bytes that aren't UTF-8
unfoldable pub shown_bytes : Bool → ℕ → List ℕ → List ℕ
shown_bytes utf8 mark [] = []
shown_bytes utf8 mark (a ∷ []) = shown_byte utf8 mark a
shown_bytes utf8 mark (a ∷ b ∷ bytes) =
    if is_high_control a b then digits_escape a ++ digits_escape b ++ shown_bytes utf8 mark bytes
    else shown_byte utf8 mark a ++ shown_bytes utf8 mark (b ∷ bytes)

-- a text as it is shown
abbrev pub escaped : ℕ → List ℕ → List ℕ
escaped mark bytes = shown_bytes (is_utf8 bytes) mark bytes

-- a text that is shown whole, without quotes
abbrev pub whole : List ℕ → List ℕ
whole bytes = escaped 92 bytes

-- ---- a text in quotes, cut at a width

-- the most bytes that are shown of it
abbrev pub width : ℕ
width = 100

-- Whether a text may be cut before the byte at this place: it is the first of all, or of a character.
unfoldable pub is_boundary : List ℕ → ℕ → Bool
is_boundary bytes n = n == 0 || is_char_start (slice_index bytes n)

-- the last place up to this one at which a text may be cut
unfoldable pub boundary : List ℕ → ℕ → ℕ
boundary bytes zero = 0
boundary bytes (suc n) = if is_boundary bytes (suc n) then suc n else boundary bytes n

-- what is shown of it: all, or the characters that are whole within the width
unfoldable pub shown_part : List ℕ → List ℕ
shown_part bytes = if nat_le (length bytes) width then bytes
    else take (boundary bytes width) bytes

-- what stands after a text of so many bytes: nothing, or where it was cut, how many they are
unfoldable pub cut_mark : ℕ → List ℕ
cut_mark n = if nat_le n width then [] else codes "... (" ++ decimal n ++ codes " bytes)"

-- a text in quotes
unfoldable pub quoted : List ℕ → List ℕ
quoted bytes = codes "'" ++ escaped 39 (shown_part bytes) ++ codes "'" ++ cut_mark (length bytes)

-- ---- lists

-- what each element is shown as, parted by commas
abbrev pub parted : {A : Type 0} → (A → List ℕ) → List A → List ℕ
parted text [] = []
parted text (x ∷ xs) = text x ++ flat_map (λ y. codes ", " ++ text y) xs

-- a list in parentheses
unfoldable pub listed : {A : Type 0} → (A → List ℕ) → List A → List ℕ
listed text xs = codes "(" ++ parted text xs ++ codes ")"
