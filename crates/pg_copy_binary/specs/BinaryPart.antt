-- A binary file read from left to right: what its bytes are read as, by a function.
use Rattle.std.specs.Prelude.{ℕ, zero, suc, ◌==◌, nat_lt, nat_le, if◌then◌else◌, List, [], ◌∷◌, length, take, drop, Option, Some, None, Result, Ok, Err}
use Rattle.std.specs.Int.{Width, w16, w32, byte_len, from_be_bytes, cast_signed}
use Rattle.std.specs.Str.{bytes_eq}
use Rattle.pg_copy_rows.specs.declared.fault.BinaryFault.{BinaryFault}
use Rattle.pg_copy_rows.specs.declared.fault.BinaryFault.TheVariants.{Signature, Flags, Extension, FieldCount, FieldLength, Truncated, AfterTrailer}
use Rattle.pg_copy_rows.specs.Row.{Row}
use Rattle.pg_copy_rows.specs.Reading.{RowsRead, RowsEnding, Open, Done, Ended, Bad, after_rows}
use Rattle.pg_copy_binary.specs.Binary.{signature, open_head}

-- why a part can't be read: its bytes aren't all there, or they have this fault
pub data NoPart : Type 0 where
  Incomplete : NoPart
  Faulty : BinaryFault → NoPart

-- ---- a part and the bytes after it, or Incomplete where fewer bytes are there, or the first fault

-- one part after the other: the second is read from the bytes after the first; where the first
-- can't be read, its reason is the answer
infixl 10 ◌>>=◌
abbrev pub ◌>>=◌ : {A B : Type 0} → Result A NoPart → (A → Result B NoPart) → Result B NoPart
(Ok x) >>= f = f x
(Err e) >>= f = Err e

-- the unsigned number of this width, and the bytes after it
abbrev pub number_at : Width → List ℕ → Result (ℕ × List ℕ) NoPart
number_at w bytes = if nat_lt (length bytes) (byte_len w) then Err Incomplete
    else Ok (from_be_bytes w (take (byte_len w) bytes), drop (byte_len w) bytes)

-- the first n bytes, and those after them
abbrev pub bytes_at : ℕ → List ℕ → Result (List ℕ × List ℕ) NoPart
bytes_at n bytes = if nat_lt (length bytes) n then Err Incomplete
    else Ok (take n bytes, drop n bytes)

-- the signature, and the bytes after it
unfoldable pub signature_at : List ℕ → Result (List ℕ × List ℕ) NoPart
signature_at bytes = do
  s ← bytes_at 11 bytes
  if bytes_eq s.0 signature then Ok s else Err (Faulty Signature)

-- the flags, of which bits 16 to 31 must be 0, and the bytes after them
unfoldable pub flags_at : List ℕ → Result (ℕ × List ℕ) NoPart
flags_at bytes = do
  n ← number_at w32 bytes
  if nat_lt n.0 65536 then Ok n else Err (Faulty (Flags n.0))

-- the extension's length, which isn't negative, and the bytes after it
unfoldable pub extension_at : List ℕ → Result (ℕ × List ℕ) NoPart
extension_at bytes = do
  n ← number_at w32 bytes
  if nat_lt n.0 2147483648 then Ok n else Err (Faulty (Extension (cast_signed w32 n.0)))

-- the part of 19 bytes that every head has (signature, flags, extension's length): this length, and
-- the bytes after it
unfoldable pub fixed_at : List ℕ → Result (ℕ × List ℕ) NoPart
fixed_at bytes = do
  s ← signature_at bytes
  f ← flags_at s.1
  extension_at f.1

-- a whole head: its extension, and the bytes after it
unfoldable pub head_at : List ℕ → Result (List ℕ × List ℕ) NoPart
head_at bytes = do
  n ← fixed_at bytes
  bytes_at n.0 n.1

-- a value, and the bytes after it. The length -1 is null; any other length above the limit, so a
-- negative one too, is a fault.
unfoldable pub value_at : ℕ → List ℕ → Result (Option (List ℕ) × List ℕ) NoPart
value_at limit bytes = do
  n ← number_at w32 bytes
  if n.0 == 4294967295 then Ok (None, n.1) else if nat_le n.0 limit
      then (bytes_at n.0 n.1 >>= λ v. Ok (Some v.0, v.1))
      else Err (Faulty (FieldLength (cast_signed w32 n.0)))

-- n values, and the bytes after them
unfoldable pub values_at : ℕ → ℕ → List ℕ → Result (Row × List ℕ) NoPart
values_at limit zero bytes = Ok ([], bytes)
values_at limit (suc n) bytes = do
  v ← value_at limit bytes
  vs ← values_at limit n v.1
  Ok (v.0 ∷ vs.0, vs.1)

-- a row of so many columns, or None for the trailer, and the bytes after it
unfoldable pub row_at : ℕ → ℕ → List ℕ → Result (Option Row × List ℕ) NoPart
row_at columns limit bytes = do
  n ← number_at w16 bytes
  if n.0 == 65535 then Ok (None, n.1) else if n.0 == columns
      then (values_at limit columns n.1 >>= λ r. Ok (Some r.0, r.1))
      else Err (Faulty (FieldCount (cast_signed w16 n.0)))

-- ---- files

-- what bytes after the trailer are read as: there may be none
abbrev pub trailer_reading : List ℕ → RowsRead BinaryFault
trailer_reading [] = record { rows = []; ending = Done }
trailer_reading (b ∷ bs) = record { rows = []; ending = Bad AfterTrailer }

-- a reading without a row, as no part could be read: these bytes are open, or this is the fault
abbrev pub stop_reading : NoPart → List ℕ → RowsRead BinaryFault
stop_reading Incomplete bytes = record { rows = []; ending = Open bytes }
stop_reading (Faulty fault) bytes = record { rows = []; ending = Bad fault }

-- a reading that begins with this row, and goes on with `next` of the bytes after it; after the
-- trailer (None) it ends
abbrev pub row_reading : Option Row → List ℕ → (List ℕ → RowsRead BinaryFault)
    → RowsRead BinaryFault
row_reading None rest next = trailer_reading rest
row_reading (Some row) rest next = after_rows (row ∷ []) (next rest)

-- a reading by what was read at the front of these bytes: a row or the trailer, or neither
abbrev pub part_reading : List ℕ → Result (Option Row × List ℕ) NoPart
    → (List ℕ → RowsRead BinaryFault) → RowsRead BinaryFault
part_reading bytes (Ok part) next = row_reading part.0 part.1 next
part_reading bytes (Err stop) next = stop_reading stop bytes

-- what bytes after a head are read as, of at most n rows
unfoldable pub rows_reading : ℕ → ℕ → ℕ → List ℕ → RowsRead BinaryFault
rows_reading zero columns limit bytes = record { rows = []; ending = Open bytes }
rows_reading (suc n) columns limit bytes =
    part_reading bytes (row_at columns limit bytes) (λ rest. rows_reading n columns limit rest)

-- what bytes after a head are read as. Each row has at least one byte, so there are no more rows
-- than bytes.
abbrev pub body_reading : ℕ → ℕ → List ℕ → RowsRead BinaryFault
body_reading columns limit bytes = rows_reading (suc (length bytes)) columns limit bytes

-- a reading that goes on with `next` of the bytes after a head, or after the rest of its extension.
-- Where that isn't whole, these bytes are kept; where it is faulty, the reading ends.
abbrev pub head_reading : List ℕ → Result (List ℕ × List ℕ) NoPart → (List ℕ → RowsRead BinaryFault)
    → RowsRead BinaryFault
head_reading kept (Ok h) next = next h.1
head_reading kept (Err stop) next = stop_reading stop kept

-- what the beginning of a file is read as: its rows, up to the first fault or the first part that
-- isn't whole
unfoldable pub binary_reading : ℕ → ℕ → List ℕ → RowsRead BinaryFault
binary_reading columns limit bytes =
    head_reading (open_head bytes) (head_at bytes) (body_reading columns limit)

-- what stands after the rows once the input has ended: without a trailer the file is cut off
abbrev pub last_ending : RowsEnding BinaryFault → RowsEnding BinaryFault
last_ending (Open rest) = Bad Truncated
last_ending Done = Done
last_ending Ended = Ended
last_ending (Bad fault) = Bad fault

-- this reading of the bytes so far, once the input has ended
abbrev pub binary_at_end : RowsRead BinaryFault → RowsRead BinaryFault
binary_at_end r = record { rows = r.rows; ending = last_ending r.ending }

-- what a whole file is read as
abbrev pub binary_file_reading : ℕ → ℕ → List ℕ → RowsRead BinaryFault
binary_file_reading columns limit bytes = binary_at_end (binary_reading columns limit bytes)
