-- The next part of a binary file, as private functions read it.
use Rattle.std.specs.Prelude.{◌≡◌, ℕ, zero, suc, ◌+◌, ◌<◌, ◌≤◌, ◌-◌, ◌⊎◌, Bool, true, false, List, [], ◌∷◌, length, drop, Option, Some, None, Result, Ok, Err}
use Rattle.std.specs.Int.{w16}
use Rattle.pg_copy_rows.specs.declared.fault.BinaryFault.{BinaryFault}
use Rattle.pg_copy_rows.specs.declared.fault.BinaryFault.TheVariants.{AfterTrailer, Truncated, Memory}
use Rattle.pg_copy_binary.specs.declared.binary_part.NoPart.{NoPart as Stop}
use Rattle.pg_copy_binary.specs.declared.binary_part.NoPart.TheVariants as stops
use Rattle.pg_copy_binary.specs.declared.binary_part.NoRow.{NoRow}
use Rattle.pg_copy_binary.specs.declared.binary_part.NoRow.TheVariants as no_row
use Rattle.pg_copy_binary.specs.declared.binary_part.Walk.{Walk}
use Rattle.pg_copy_binary.specs.declared.binary_part.Look.{Look}
use Rattle.pg_copy_binary.specs.declared.binary_part.Place.{Place}
use Rattle.pg_copy_binary.specs.declared.binary_part.RowOrTrailer.{RowOrTrailer}
use Rattle.pg_copy_binary.specs.declared.binary_part.RowOrTrailer.TheVariants as parts
use Rattle.pg_copy_binary.specs.declared.binary_reader.BinaryStage.{BinaryStage}
use Rattle.pg_copy_binary.specs.declared.binary_reader.BinaryStage.TheVariants.{Head, Extension, Rows, Closed, Failed}
use Rattle.pg_copy_rows.specs.Row.{Row}
use Rattle.pg_copy_rows.specs.Reading.{RowWaits, one_more, told, given_after}
use Rattle.pg_copy_binary.specs.BinaryPart.{NoPart, Incomplete, Faulty, ◌>>=◌, number_at, bytes_at, fixed_at, head_at, values_at, row_at}
use Rattle.pg_copy_binary.specs.BinaryReader.{BinaryState, rows_begin, binary_left}
use Rattle.pg_copy_binary.specs.Binary.{binary_row}
use Rattle.pg_copy_rows.specs.Private.RowBuffer.{RowBytes}

-- a function's reason why it read no part, as reading has it
abbrev pub no_part : Stop → NoPart
no_part stops.Incomplete = Incomplete
no_part (stops.Faulty fault) = Faulty fault

-- what a function returned, seen by view, is what reading gives
abbrev pub ReadsPart : {X Y : Type 0} → (X → Y) → Result X Stop → Result Y NoPart → Type 0
ReadsPart view (Ok x) read = read ≡ Ok (view x)
ReadsPart view (Err stop) read = read ≡ Err (no_part stop)

-- the bytes after what was read
abbrev pub rest_of : {A : Type 0} → Result (A × List ℕ) NoPart → Result (List ℕ) NoPart
rest_of (Ok x) = Ok x.1
rest_of (Err stop) = Err stop

-- ---- a walk over a row

-- Where a walk was begun, the number of values is that of the columns, and so many values stand before its place.
pub record IsWalkBegun (columns limit : ℕ) (bytes : List ℕ) (w : Walk) : Type 0 where
  pub count : number_at w16 bytes ≡ Ok (columns, drop 2 bytes)
  pub in_range : w.at ≤ length bytes
  pub after_count : 2 ≤ w.at
  pub few : w.left ≤ columns
  pub values : rest_of (values_at limit (columns - w.left) (drop 2 bytes)) ≡ Ok (drop w.at bytes)

-- A walk that hasn't begun says nothing.
abbrev pub IsRowWalked : ℕ → ℕ → List ℕ → Walk → Type 0
IsRowWalked columns limit bytes w = 0 < w.at → IsWalkBegun columns limit bytes w

-- What a walk over a row finds: a row, all of whose values it has walked over, the trailer, or why there is neither.
abbrev pub FindsRow : ℕ → ℕ → List ℕ → Result RowOrTrailer Stop → Walk → Type 0
FindsRow columns limit bytes (Ok parts.Row) w = (0 < w.at) × (w.left ≡ 0)
FindsRow columns limit bytes (Ok parts.Trailer) w = row_at columns limit bytes
    ≡ Ok (None, drop 2 bytes)
FindsRow columns limit bytes (Err stop) w = row_at columns limit bytes ≡ Err (no_part stop)

-- ---- the next part of a file, by what was read before

-- the end of a file, after its trailer
abbrev pub closed_at : List ℕ → Result ((Option Row × BinaryStage) × List ℕ) NoPart
closed_at [] = Ok ((None, Closed), [])
closed_at (b ∷ bs) = Err (Faulty AfterTrailer)

-- a row, or the trailer, and where the reader stands after it
abbrev pub row_or_trailer : Option Row → List ℕ
    → Result ((Option Row × BinaryStage) × List ℕ) NoPart
row_or_trailer None rest = closed_at rest
row_or_trailer (Some row) rest = Ok ((Some row, Rows), rest)

-- the row or the trailer at the front of the bytes
unfoldable pub body_at : ℕ → ℕ → List ℕ → Result ((Option Row × BinaryStage) × List ℕ) NoPart
body_at columns limit bytes = row_at columns limit bytes >>= λ r. row_or_trailer r.0 r.1

-- the next row or the trailer, where a reader stands there
unfoldable pub part_at : BinaryStage → ℕ → ℕ → List ℕ
    → Result ((Option Row × BinaryStage) × List ℕ) NoPart
part_at Head columns limit bytes = head_at bytes >>= λ h. body_at columns limit h.1
part_at (Extension n) columns limit bytes = bytes_at n bytes >>= λ h. body_at columns limit h.1
part_at Rows columns limit bytes = body_at columns limit bytes
part_at Closed columns limit bytes = closed_at bytes
part_at (Failed fault) columns limit bytes = Err (Faulty fault)

-- ---- a look at the next part

-- what stands after the head, where it is still to be read
abbrev pub IsAfterHead : Bool → List ℕ → List ℕ → Type 0
IsAfterHead true bytes rest = rest_of (head_at bytes) ≡ Ok rest
IsAfterHead false bytes rest = bytes ≡ rest

-- Where the row begins, or why the head in front of it isn't whole.
abbrev pub StartsRow : Bool → List ℕ → ℕ → Result ℕ Stop → Type 0
StartsRow in_head bytes start (Ok n) = (n ≤ length bytes)
    × IsAfterHead in_head bytes (drop n bytes)
    × ((((in_head ≡ false) ⊎ (0 < start)) × (n ≡ start))
    ⊎ ((in_head ≡ true) × (start ≡ 0) × (0 < n)))
StartsRow in_head bytes start (Err stop) = (in_head ≡ true) × (start ≡ 0)
    × (head_at bytes ≡ Err (no_part stop))

-- How far the next part was looked over: where the row begins, and the walk over it.
pub record IsLooked (in_head : Bool) (columns limit : ℕ) (bytes : List ℕ) (l : Look) : Type 0 where
  pub in_range : l.start ≤ length bytes
  pub head : (in_head ≡ false) ⊎ (0 < l.start) → IsAfterHead in_head bytes (drop l.start bytes)
  pub fresh : in_head ≡ true → l.start ≡ 0 → l.walk.at ≡ 0
  pub none : in_head ≡ false → l.start ≡ 0
  pub walk : IsRowWalked columns limit (drop l.start bytes) l.walk

-- where a reader stands, by whether the head is still to be read
abbrev pub stage_of : Bool → BinaryStage
stage_of true = Head
stage_of false = Rows

-- What a look at the next part finds: a row, the trailer, or why there is neither.
abbrev pub FindsPart : Bool → ℕ → ℕ → List ℕ → Result RowOrTrailer Stop → Look → Type 0
FindsPart in_head columns limit bytes (Ok parts.Row) l = (0 < l.walk.at) × (l.walk.left ≡ 0)
    × IsAfterHead in_head bytes (drop l.start bytes)
FindsPart in_head columns limit bytes (Ok parts.Trailer) l =
    (part_at (stage_of in_head) columns limit bytes ≡ Ok ((None, Closed), []))
    × IsAfterHead in_head bytes (drop l.start bytes)
FindsPart in_head columns limit bytes (Err stop) l = (part_at (stage_of in_head) columns limit bytes
    ≡ Err (no_part stop)) × (in_head ≡ true → l.start ≡ 0 → head_at bytes ≡ Err (no_part stop))

-- ---- a reader

-- the head is still to be read
abbrev pub is_head : BinaryStage → Bool
is_head Head = true
is_head (Extension n) = false
is_head Rows = false
is_head Closed = false
is_head (Failed fault) = false

-- what is kept of a reader: a row is lent among the rows alone
pub record IsBinaryReader (columns limit : ℕ) (buffer : RowBytes) (look : Look)
    (stage : BinaryStage) : Type 0 where
  pub columns_few : columns ≤ 32767
  pub looked : IsLooked (is_head stage) columns limit buffer.kept look
  pub not_memory : stage ≡ Failed Memory → ⊥
  pub closed : stage ≡ Closed → buffer.kept ≡ []
  pub skips : (n : ℕ) → stage ≡ Extension n → (0 < n) × (buffer.kept ≡ [])
  pub lends : (stage ≡ Rows) ⊎ (buffer.front ≡ None)

-- how much of an extension is to come, after its length and what is there of it
abbrev pub extension_left : Result (ℕ × List ℕ) NoPart → Option ℕ
extension_left (Ok n) = Some (n.0 - length n.1)
extension_left (Err stop) = None

-- a head that isn't whole goes off where only bytes of its extension are to come
abbrev pub in_extension : Option ℕ → BinaryState → BinaryState
in_extension None s = s
in_extension (Some n) s = record s { kept = []; stage = Extension n }

-- where the row begins at which a reader stands
abbrev pub row_offset : BinaryStage → List ℕ → ℕ → ℕ
row_offset Head kept offset = rows_begin offset (fixed_at kept)
row_offset (Extension n) kept offset = offset
row_offset Rows kept offset = offset
row_offset Closed kept offset = offset
row_offset (Failed fault) kept offset = offset

-- where the row begins that stands so many bytes after the first of those that are kept: only a
-- head stands before it
abbrev pub start_offset : ℕ → ℕ → ℕ
start_offset offset zero = offset
start_offset offset (suc n) = suc n

-- where the next row begins, after these
abbrev pub offset_after : ℕ → List Row → ℕ
offset_after n [] = n
offset_after n (row ∷ rows) = offset_after (told (n + length (binary_row row))) rows

-- where a reader waits for the rest of a part: a head that is whole is taken off, and an extension
abbrev pub after_head : Result (List ℕ × List ℕ) NoPart → BinaryState → BinaryState → BinaryState
after_head (Ok h) stays s = record s { kept = h.1; stage = Rows }
after_head (Err stop) stays s = stays

-- a reader that stands there and waits for more bytes
abbrev pub waiting_at : BinaryStage → BinaryState → BinaryState
waiting_at Head s =
    after_head (head_at s.kept)
    (in_extension (extension_left (fixed_at s.kept))
    (record s { offset = rows_begin s.offset (fixed_at s.kept) }))
    (record s { offset = rows_begin s.offset (fixed_at s.kept) })
waiting_at (Extension n) s = after_head (bytes_at n s.kept) s s
waiting_at Rows s = s
waiting_at Closed s = s
waiting_at (Failed fault) s = s

-- the reader, which lends no row any more
abbrev pub let_go : BinaryState → BinaryState
let_go s = record s { held = None }

-- a reader that waits for more bytes
abbrev pub waiting : BinaryState → BinaryState
waiting s = waiting_at s.stage (let_go s)

-- a row as a list of one, or no row
abbrev pub option_rows : Option Row → List Row
option_rows None = []
option_rows (Some row) = row ∷ []

-- At this place of what is kept stands this row, which is the next part.
pub record IsRowAt (s : BinaryState) (place : Place) (row : Row) : Type 0 where
  pub in_order : place.start + 2 ≤ place.end
  pub in_range : place.end ≤ length s.kept
  pub values : values_at s.limit s.columns (drop (place.start + 2) s.kept)
      ≡ Ok (row, drop place.end s.kept)
  pub begins : row_offset s.stage s.kept s.offset ≡ start_offset s.offset place.start
  pub part : part_at s.stage s.columns s.limit s.kept
      ≡ Ok ((Some row, Rows), drop place.end s.kept)

-- At this place of what is kept stands a row, which is the next part.
abbrev pub HasRowAt : BinaryState → Place → Type 0
HasRowAt s place = (row : Row) × IsRowAt s place row

-- the reader, once it lends the row at this place
abbrev pub lending : Row → Place → BinaryState → BinaryState
lending row place s = record s {
  kept = drop place.end s.kept;
  stage = Rows;
  given = one_more s.given;
  held = Some row;
  offset = offset_after (row_offset s.stage s.kept s.offset) (row ∷ []);
}

-- A row is found, and nothing changes; or the trailer is taken, or the next part is waited for, or
-- the reader stops at a fault in its place.
abbrev pub FindsNext : Result (Option Place) Stop → BinaryState → BinaryState → Type 0
FindsNext (Ok (Some place)) old new = HasRowAt old place × (new ≡ old)
FindsNext (Ok None) old new =
    (part_at old.stage old.columns old.limit old.kept ≡ Ok ((None, Closed), []))
    × (new ≡ record old {
      kept = [];
      stage = Closed;
      held = None;
      offset = row_offset old.stage old.kept old.offset;
    })
FindsNext (Err stops.Incomplete) old new =
    (part_at old.stage old.columns old.limit old.kept ≡ Err Incomplete) × (new ≡ waiting old)
FindsNext (Err (stops.Faulty fault)) old new = (fault ≡ Memory → ⊥)
    × (part_at old.stage old.columns old.limit old.kept ≡ Err (Faulty fault))
    × (new ≡ record old {
      kept = [];
      stage = Failed fault;
      held = None;
      offset = row_offset old.stage old.kept old.offset;
    })

-- the next part is taken, or it is waited for, or the reader stops at a fault in its place
abbrev pub TakesPart : Result (Option Row) NoRow → BinaryState → BinaryState → Type 0
TakesPart (Ok row) old new = (part_at old.stage old.columns old.limit old.kept
    ≡ Ok ((row, new.stage), new.kept))
    × (new ≡ record old {
      kept = new.kept;
      stage = new.stage;
      given = given_after old.given (option_rows row);
      held = None;
      offset = offset_after (row_offset old.stage old.kept old.offset) (option_rows row);
    })
TakesPart (Err no_row.Memory) old new = (new ≡ old) × RowWaits (binary_left old [])
TakesPart (Err (no_row.NoPart stop)) old new = FindsNext (Err stop) old new

-- What is left is taken at the end of the input: a row is lent, or the trailer is taken; or a part
-- that isn't whole is cut short, or the reader stops at a fault in its place.
abbrev pub LendsLast : Result Bool BinaryFault → BinaryState → BinaryState → Type 0
LendsLast (Ok true) old new = (row : Row) × (place : Place) × IsRowAt old place row
    × (new ≡ lending row place old)
LendsLast (Ok false) old new = FindsNext (Ok None) old new
LendsLast (Err fault) old new = ((fault ≡ Truncated) × (waits : BinaryState)
    × FindsNext (Err stops.Incomplete) old waits
    × (new ≡ record waits { kept = []; stage = Failed Truncated; held = None }))
    ⊎ FindsNext (Err (stops.Faulty fault)) old new
