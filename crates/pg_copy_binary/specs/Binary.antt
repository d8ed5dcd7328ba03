-- COPY binary files (PostgreSQL documentation, page COPY, "Binary Format"). Numbers are big-endian.
use Rattle.std.specs.Prelude.{◌≡◌, ℕ, ◌^◌, ◌<◌, ◌≤◌, nat_lt, if◌then◌else◌, List, [], ◌∷◌, ◌++◌, length, take, slice_index, Option, Some, None}
use Rattle.std.specs.List.{flat_map, AllByRecursion}
use Rattle.std.specs.Int.{w16, w32, to_be_bytes, cast_signed}
use Rattle.pg_copy_rows.specs.declared.fault.BinaryFault.{BinaryFault}
use Rattle.pg_copy_rows.specs.declared.fault.BinaryFault.TheVariants.{Signature, Flags, Extension, FieldCount, FieldLength, AfterTrailer}
use Rattle.pg_copy_rows.specs.Row.{Row}
use Rattle.pg_copy_rows.specs.Reading.{RowsEnding, Open, Done, Ended, Bad}

-- ---- the parts of a file as bytes

-- the bytes that each file begins with: PGCOPY, newline, FF, return, newline, zero
abbrev pub signature : List ℕ
signature = 0x50 ∷ 0x47 ∷ 0x43 ∷ 0x4F ∷ 0x50 ∷ 0x59 ∷ 0x0A ∷ 0xFF ∷ 0x0D ∷ 0x0A ∷ 0x00 ∷ []

-- the head of a file: the signature, the flags, and the extension after its length
abbrev pub head : ℕ → List ℕ → List ℕ
head flags extension = signature ++ to_be_bytes w32 flags ++ to_be_bytes w32 (length extension)
    ++ extension

-- a value as its length and its bytes; null is the length -1 and no bytes
abbrev pub value : Option (List ℕ) → List ℕ
value None = to_be_bytes w32 4294967295
value (Some bytes) = to_be_bytes w32 (length bytes) ++ bytes

-- a row as the number of its values and these values
abbrev pub binary_row : Row → List ℕ
binary_row row = to_be_bytes w16 (length row) ++ flat_map value row

-- the end of a file: -1 in the place of a row's number of values
abbrev pub trailer : List ℕ
trailer = 0xFF ∷ 0xFF ∷ []

-- the head that is written: no flags, and an empty extension
abbrev pub written_head : List ℕ
written_head = head 0 []

-- ---- which parts a reader takes

-- These are the bytes of a head that a reader takes: bits 16 to 31 of the flags are 0, and the
-- length of the extension isn't negative.
abbrev pub IsHead : List ℕ → Type 0
IsHead bytes =
    (flags : ℕ) × (extension : List ℕ) × (flags < 65536) × (length extension < 2 ^ 31)
    × (bytes ≡ head flags extension)

-- The value is null, or has at most so many bytes.
abbrev pub FitsValue : ℕ → Option (List ℕ) → Type 0
FitsValue limit None = Unit {0}
FitsValue limit (Some bytes) = length bytes ≤ limit

-- A reader with so many columns, and this limit of a value's bytes, takes this row.
pub record FitsBinary (columns limit : ℕ) (row : Row) : Type 0 where
  pub width : length row ≡ columns
  pub each : AllByRecursion (FitsValue limit) row

-- ---- what stands after the head and the rows

-- In the place of a row these bytes are faulty, for this reason. A length or number is read as
-- unsigned, so one below -1 is above each limit.
pub data IsFaultyRow (columns limit : ℕ) : List ℕ → BinaryFault → Type 0 where
  field_count : (n : ℕ) (more : List ℕ) → n < 2 ^ 16 → (n ≡ 65535 → ⊥) → (n ≡ columns → ⊥)
      → IsFaultyRow columns limit (to_be_bytes w16 n ++ more) (FieldCount (cast_signed w16 n))
  field_length : (values : Row) (n : ℕ) (more : List ℕ) → AllByRecursion (FitsValue limit) values
      → length values < columns
      → n < 2 ^ 32 → (n ≡ 4294967295 → ⊥) → limit < n
      → IsFaultyRow columns limit (to_be_bytes w16 columns
      ++ (flat_map value values ++ (to_be_bytes w32 n ++ more)))
      (FieldLength (cast_signed w32 n))
  after_trailer : (b : ℕ) (more : List ℕ)
      → IsFaultyRow columns limit (trailer ++ b ∷ more) AfterTrailer

-- In the place of a row these bytes begin with no row and no trailer, and aren't faulty: more bytes
-- are to come.
pub record IsOpenRow (columns limit : ℕ) (rest : List ℕ) : Type 0 where
  pub no_row : (row : Row) (more : List ℕ) → FitsBinary columns limit row
      → rest ≡ binary_row row ++ more → ⊥
  pub no_trailer : (more : List ℕ) → rest ≡ trailer ++ more → ⊥
  pub no_fault : (f : BinaryFault) → IsFaultyRow columns limit rest f → ⊥

-- What stands after the rows is these bytes, which mean this ending: an open rest, the trailer, or
-- a fault.
abbrev pub IsRest : ℕ → ℕ → List ℕ → RowsEnding BinaryFault → Type 0
IsRest columns limit rest (Open kept) = (kept ≡ rest) × IsOpenRow columns limit rest
IsRest columns limit rest Done = rest ≡ trailer
IsRest columns limit rest Ended = ⊥
IsRest columns limit rest (Bad f) = IsFaultyRow columns limit rest f

-- ---- what stands in the place of a head that isn't whole

-- The bytes begin no head, for this reason: signature, flags or the extension's length are wrong.
pub data IsFaultyHead : List ℕ → BinaryFault → Type 0 where
  signature_differs : (bytes : List ℕ) → 11 ≤ length bytes → (take 11 bytes ≡ signature → ⊥)
      → IsFaultyHead bytes Signature
  flag_set : (n : ℕ) (more : List ℕ) → 65536 ≤ n → n < 2 ^ 32
      → IsFaultyHead (signature ++ (to_be_bytes w32 n ++ more)) (Flags n)
  extension_negative : (flags n : ℕ) (more : List ℕ) → flags < 65536 → 2 ^ 31 ≤ n → n < 2 ^ 32
      → IsFaultyHead (signature
      ++ (to_be_bytes w32 flags ++ (to_be_bytes w32 n ++ more))) (Extension (cast_signed w32 n))

-- The bytes begin with no whole head and aren't faulty: more bytes are to come.
pub record IsOpenHead (bytes : List ℕ) : Type 0 where
  pub no_head : (h more : List ℕ) → IsHead h → bytes ≡ h ++ more → ⊥
  pub no_fault : (f : BinaryFault) → IsFaultyHead bytes f → ⊥

-- what a reader keeps of a head that isn't whole: once its first 19 bytes (signature, flags and the
-- extension's length) are there, nothing, as the extension isn't needed
abbrev pub open_head : List ℕ → List ℕ
open_head bytes = if nat_lt (length bytes) 19 then bytes else []

-- The bytes of a file without a whole head mean this ending: the beginning of a head, or a fault.
abbrev pub IsHeadRest : List ℕ → RowsEnding BinaryFault → Type 0
IsHeadRest bytes (Open kept) = (kept ≡ open_head bytes) × IsOpenHead bytes
IsHeadRest bytes Done = ⊥
IsHeadRest bytes Ended = ⊥
IsHeadRest bytes (Bad f) = IsFaultyHead bytes f

-- ---- files

-- Each number is a byte, below 256.
abbrev pub IsBytes : List ℕ → Type 0
IsBytes bytes = (i : ℕ) → slice_index bytes i < 256

-- The bytes are a head, these rows, and what `ending` says after them; or there is no whole head,
-- and no row.
pub data IsBinaryFile (columns limit : ℕ) (bytes : List ℕ) (rows : List Row)
    (ending : RowsEnding BinaryFault) : Type 0 where
  whole : (h rest : List ℕ) → IsHead h → AllByRecursion (FitsBinary columns limit) rows
      → bytes ≡ h ++ flat_map binary_row rows ++ rest → IsRest columns limit rest ending
      → IsBinaryFile columns limit bytes rows ending
  headless : rows ≡ [] → IsHeadRest bytes ending → IsBinaryFile columns limit bytes rows ending
