-- What a field of a text file spells, by the kinds of its units (PostgreSQL documentation, page
-- COPY, "Text Format").
use Rattle.std.specs.Prelude.{◌≡◌, ℕ, ◌<◌, ◌≤◌, ◌%◌, ◌⊎◌, List, [], ◌∷◌, ◌++◌, length, Option, Some, None}
use Rattle.std.specs.List.{AllByRecursion}
use Rattle.std.specs.Char.{digit_value}
use Rattle.pg_copy_text.specs.Text.{Options, backslash, letter_value, digits_value}

-- The bytes don't begin with a digit of this base.
abbrev pub NoDigit : ℕ → List ℕ → Type 0
NoDigit base [] = Unit {0}
NoDigit base (c ∷ bs) = base ≤ digit_value c

-- These are 1 to `most` digits of the base, and as many as there are: if fewer than `most`, the
-- bytes after them (`rest`) begin with no digit.
pub record IsNumeral (base most : ℕ) (digits rest : List ℕ) : Type 0 where
  pub each : AllByRecursion (λ c. digit_value c < base) digits
  pub some : 0 < length digits
  pub few : length digits ≤ most
  pub all : (length digits ≡ most) ⊎ NoDigit base rest

-- After a backslash these bytes stand for this byte, where `rest` comes after them.
pub data IsEscape : List ℕ → List ℕ → ℕ → Type 0 where
  octal : (digits rest : List ℕ) → IsNumeral 8 3 digits rest
      → IsEscape digits rest (digits_value 8 digits % 256)
  hexadecimal : (digits rest : List ℕ) → IsNumeral 16 2 digits rest
      → IsEscape (120 ∷ digits) rest (digits_value 16 digits)
  bare_x : (rest : List ℕ) → NoDigit 16 rest → IsEscape (120 ∷ []) rest 120
  letter : (c : ℕ) (rest : List ℕ) → 8 ≤ digit_value c → (c ≡ 120 → ⊥)
      → IsEscape (c ∷ []) rest (letter_value c)

-- The bytes spell this text: each byte of it by itself, if it is no backslash, or by an escape.
pub data IsText : List ℕ → List ℕ → Type 0 where
  nothing : IsText [] []
  plain : (b : ℕ) (bs text : List ℕ) → (b ≡ backslash → ⊥) → IsText bs text
      → IsText (b ∷ bs) (b ∷ text)
  escaped : (escape bs : List ℕ) (b : ℕ) (text : List ℕ) → IsEscape escape bs b → IsText bs text
      → IsText (backslash ∷ (escape ++ bs)) (b ∷ text)

-- The field spells this value. Whether it is the null mark is looked at before any escape.
abbrev pub IsField : Options → List ℕ → Option (List ℕ) → Type 0
IsField o bytes None = bytes ≡ o.null_mark
IsField o bytes (Some text) = (bytes ≡ o.null_mark → ⊥) × IsText bytes text
