-- A walk over the units of a text file.
use Rattle.std.specs.Prelude.{◌≡◌, ℕ, suc, ◌+◌, ◌<◌, ◌≤◌, ◌==◌, ◌||◌, ◌⊎◌, Bool, true, false, if◌then◌else◌, nat_lt, List, [], ◌∷◌, length, take, drop, slice_index, ◌++◌, Option, Some, None}
use Rattle.std.specs.Char.{digit_value}
use Rattle.std.specs.Str.{bytes_eq}
use Rattle.pg_copy_text.specs.declared.line_end.LineEnd.{LineEnd}
use Rattle.pg_copy_text.specs.declared.line_end.LineEnd.TheVariants.{Both}
use Rattle.pg_copy_text.specs.declared.scan.Scan.{Scan}
use Rattle.pg_copy_text.specs.declared.text_line.FieldEnd.{FieldEnd}
use Rattle.pg_copy_text.specs.Text.{carriage_return, ends_escaped, digits_at, newline, backslash, letter_for, lines_from, lines, decided_by}
use Rattle.pg_copy_text.specs.Private.Breaks.{decided_from, MayEnd, put_before}

-- how many units are the mark alone; at the start a backslash stood before if escaped
abbrev pub units_from : Bool → ℕ → List ℕ → ℕ
units_from escaped mark [] = 0
units_from true mark (b ∷ bs) = units_from false mark bs
units_from false mark (b ∷ bs) = (if b == mark then 1 else 0) + units_from (b == backslash) mark bs

-- how many units of the bytes are the mark alone
abbrev pub units : ℕ → List ℕ → ℕ
units mark bytes = units_from false mark bytes

-- the bytes before the walk's place: so many of their units are delimiters
pub record IsCounted (delimiter : ℕ) (bytes : List ℕ) (s : Scan) : Type 0 where
  pub in_range : s.at ≤ length bytes
  pub escaped : ends_escaped false (take s.at bytes) ≡ s.escaped
  pub delimiters : units delimiter (take s.at bytes) ≡ s.delimiters
  pub returned : nat_lt 0 (units carriage_return (take s.at bytes)) ≡ s.returned
  pub newlined : nat_lt 0 (units newline (take s.at bytes)) ≡ s.newlined

-- the bytes before the walk's place: so many of their units are delimiters, and none of them begins
-- a line end
pub record IsScanned (delimiter : ℕ) (before : Option LineEnd) (bytes : List ℕ)
    (s : Scan) : Type 0 where
  pub counted : IsCounted delimiter bytes s
  pub decided : (more : List ℕ) → decided_by before (bytes ++ more)
      ≡ decided_from before s.escaped (drop s.at bytes ++ more)
  pub cut : (e : LineEnd) → MayEnd before e → (more : List ℕ) → lines e (bytes ++ more)
      ≡ put_before (take s.at bytes) (lines_from e s.escaped (drop s.at bytes ++ more))

-- the walk goes no further: it is at the end, or at a return that stands last and may begin a line
-- end
abbrev pub StandsAt : Option LineEnd → List ℕ → Scan → Type 0
StandsAt before bytes s = (s.at ≡ length bytes)
    ⊎ ((s.escaped ≡ false) × (drop s.at bytes ≡ carriage_return ∷ []) × MayEnd before Both)

-- a byte that stands for itself, in a line that is read and in a value that is written
pub record IsPlain (delimiter b : ℕ) : Type 0 where
  pub no_delimiter : (b == delimiter) ≡ false
  pub no_newline : (b == newline) ≡ false
  pub no_return : (b == carriage_return) ≡ false
  pub no_backslash : (b == backslash) ≡ false
  pub no_letter : letter_for delimiter b ≡ None

-- the walk after one byte more
abbrev pub after : ℕ → Scan → ℕ → Scan
after delimiter s b =
    if s.escaped then record {
      at = s.at + 1;
      escaped = false;
      delimiters = s.delimiters;
      returned = s.returned;
      newlined = s.newlined;
    }
    else record {
      at = s.at + 1;
      escaped = b == backslash;
      delimiters = s.delimiters + (if b == delimiter then 1 else 0);
      returned = s.returned || b == carriage_return;
      newlined = s.newlined || b == newline;
    }

-- the first unit that is the mark stands at place n
pub record IsUnitAt (mark : ℕ) (bytes : List ℕ) (n : ℕ) : Type 0 where
  pub in_range : n < length bytes
  pub none : units mark (take n bytes) ≡ 0
  pub closed : ends_escaped false (take n bytes) ≡ false
  pub is : slice_index bytes n ≡ mark

-- a digit of the base with this value stands first
pub record LeadsWith (base : ℕ) (bytes : List ℕ) (d : ℕ) : Type 0 where
  pub below : d < base
  pub some : 0 < length bytes
  pub digits : (n : ℕ) → digits_at base (suc n) bytes
      ≡ slice_index bytes 0 ∷ digits_at base n (drop 1 bytes)
  pub value : digit_value (slice_index bytes 0) ≡ d

-- no byte is a backslash
abbrev pub NoBackslash : List ℕ → Type 0
NoBackslash [] = Unit {0}
NoBackslash (b ∷ bs) = ((b == backslash) ≡ false) × NoBackslash bs

-- whether a byte is a backslash
abbrev pub has_backslash : List ℕ → Bool
has_backslash [] = false
has_backslash (b ∷ bs) = b == backslash || has_backslash bs

-- the bytes up to i have no delimiter
pub record IsFieldWalked (delimiter : ℕ) (bytes : List ℕ) (i : ℕ) (e : Bool) : Type 0 where
  pub escaped : ends_escaped false (take i bytes) ≡ e
  pub none : units delimiter (take i bytes) ≡ 0

-- The field at the front of the bytes ends here: at a delimiter, or at the end of the bytes.
pub record IsFieldEnd (delimiter : ℕ) (bytes : List ℕ) (e : FieldEnd) : Type 0 where
  pub more : e.last ≡ false → IsUnitAt delimiter bytes e.len
  pub whole : e.last ≡ true → (e.len ≡ length bytes) × (units delimiter bytes ≡ 0)

-- How many of the bytes are these, which they are said to begin with, if they do.
abbrev pub IsWrittenFirst : List ℕ → List ℕ → Option ℕ → Type 0
IsWrittenFirst written bytes None = (more : List ℕ) → bytes_eq (written ++ more) bytes ≡ false
IsWrittenFirst written bytes (Some n) = (n ≤ length bytes)
    × ((more : List ℕ) → bytes_eq (written ++ more) bytes ≡ bytes_eq more (drop n bytes))
