-- A reader of a binary file as its callers see it, what its calls do, and what it was given and has
-- given.
use Rattle.std.specs.Prelude.{◌≡◌, ℕ, ◌+◌, ◌-◌, ◌<◌, ◌⊎◌, nat_lt, if◌then◌else◌, Bool, false, List, [], ◌∷◌, ◌++◌, length, drop, Option, None, Result, Ok, Err}
use Rattle.std.specs.List.{flat_map}
use Rattle.pg_copy_rows.specs.declared.fault.BinaryFault.{BinaryFault}
use Rattle.pg_copy_rows.specs.declared.fault.BinaryFault.TheVariants.{AfterTrailer, Memory}
use Rattle.pg_copy_binary.specs.declared.binary_reader.BinaryStage.{BinaryStage}
use Rattle.pg_copy_binary.specs.declared.binary_reader.BinaryStage.TheVariants as stages
use Rattle.pg_copy_rows.specs.Row.{Row}
use Rattle.pg_copy_rows.specs.Reading.{RowsRead, RowsEnding, Open, Done, Bad, after_rows, told}
use Rattle.pg_copy_binary.specs.Binary.{binary_row}
use Rattle.pg_copy_binary.specs.BinaryPart.{NoPart, bytes_at, fixed_at, head_reading, binary_reading, body_reading, trailer_reading, binary_at_end, binary_file_reading}

-- a reader's columns, the most bytes that a value may have, the bytes that it keeps since they are
-- no whole part yet, its stage, whether `finish` has ended the input, how many rows it has given,
-- the row that it lends, if it lends one, and where in the file the row begins that comes next
pub record BinaryState : Type 0 where
  pub columns : ℕ
  pub limit : ℕ
  pub kept : List ℕ
  pub stage : BinaryStage
  pub ended : Bool
  pub given : ℕ
  pub held : Option Row
  pub offset : ℕ

-- where the rows of a file begin, by what was read of the 19 bytes that every head has: after the
-- extension, of this length; and at `none` where these bytes aren't there
abbrev pub rows_begin : ℕ → Result (ℕ × List ℕ) NoPart → ℕ
rows_begin none (Ok n) = 19 + n.0
rows_begin none (Err stop) = none

-- how many bytes these rows have in a file
abbrev pub rows_size : List Row → ℕ
rows_size rows = length (flat_map binary_row rows)

-- The offset is where these rows end, after the head of a file that begins with these bytes.
abbrev pub EndsAt : ℕ → List ℕ → List Row → Type 0
EndsAt offset pushed given = (n : ℕ × List ℕ) × (fixed_at pushed ≡ Ok n)
    × (offset ≡ told (19 + n.0 + rows_size given))

-- A reader at this stage, which keeps these bytes, tells where the row begins that comes next, of a
-- file of which it was pushed these bytes and has given these rows: after the head, of which it
-- needs the first 19 bytes, and the rows. Until it has read a head it tells 0.
abbrev pub IsPlaced : BinaryStage → List ℕ → ℕ → List ℕ → List Row → Type 0
IsPlaced stages.Head kept offset pushed given = (kept ≡ pushed) × (given ≡ []) × (offset ≡ 0)
IsPlaced (stages.Extension n) kept offset pushed given = EndsAt offset pushed given
IsPlaced stages.Rows kept offset pushed given = EndsAt offset pushed given
IsPlaced stages.Closed kept offset pushed given = EndsAt offset pushed given
IsPlaced (stages.Failed fault) kept offset pushed given = offset
    ≡ told (rows_begin 0 (fixed_at pushed) + rows_size given)

-- what a reader at this stage still gives of these bytes; of an extension n bytes are to come
abbrev pub binary_stage_reading : BinaryStage → ℕ → ℕ → List ℕ → RowsRead BinaryFault
binary_stage_reading stages.Head columns limit bytes = binary_reading columns limit bytes
binary_stage_reading (stages.Extension n) columns limit bytes =
    head_reading [] (bytes_at n bytes) (body_reading columns limit)
binary_stage_reading stages.Rows columns limit bytes = body_reading columns limit bytes
binary_stage_reading stages.Closed columns limit bytes = trailer_reading bytes
binary_stage_reading (stages.Failed fault) columns limit bytes =
    record { rows = []; ending = Bad fault }

-- what the reader still gives, if these bytes are pushed next
abbrev pub binary_left : BinaryState → List ℕ → RowsRead BinaryFault
binary_left s more = binary_stage_reading s.stage s.columns s.limit (s.kept ++ more)

-- what the reader still gives, if the input has ended
abbrev pub binary_last : BinaryState → RowsRead BinaryFault
binary_last s = binary_at_end (binary_left s [])

-- The reader was pushed these bytes in all, and has given these rows: they are the first that a
-- file which begins so has, what the reader still gives is the rest of that file's reading, and it
-- tells how many they are and where the next one begins.
pub record HasReadBinary (s : BinaryState) (pushed : List ℕ) (given : List Row) : Type 0 where
  pub so_far : s.ended ≡ false → (more : List ℕ)
      → binary_reading s.columns s.limit (pushed ++ more) ≡ after_rows given (binary_left s more)
  pub in_all : binary_file_reading s.columns s.limit pushed ≡ after_rows given (binary_last s)
  pub counted : s.given ≡ told (length given)
  pub placed : IsPlaced s.stage s.kept s.offset pushed given

-- what stands after all rows, of a reader at this stage that keeps these bytes, while the input
-- goes on
abbrev pub binary_ending : BinaryStage → List ℕ → RowsEnding BinaryFault
binary_ending stages.Head kept = Open kept
binary_ending (stages.Extension n) kept = Open []
binary_ending stages.Rows kept = Open kept
binary_ending stages.Closed kept = Done
binary_ending (stages.Failed fault) kept = Bad fault

-- What a reader keeps after None: fewer than 19 bytes of a head, nothing of an extension, and among
-- the rows the bytes of one that isn't whole.
abbrev pub WaitsWith : BinaryStage → List ℕ → Type 0
WaitsWith stages.Head kept = length kept < 19
WaitsWith (stages.Extension n) kept = kept ≡ []
WaitsWith stages.Rows kept = Unit {0}
WaitsWith stages.Closed kept = kept ≡ []
WaitsWith (stages.Failed fault) kept = Unit {0}

-- what a reader at this stage keeps of a piece: all of it, but for bytes of an extension; after the
-- trailer nothing
abbrev pub kept_of : BinaryStage → List ℕ → List ℕ
kept_of stages.Head piece = piece
kept_of (stages.Extension n) piece = drop n piece
kept_of stages.Rows piece = piece
kept_of stages.Closed piece = []
kept_of (stages.Failed fault) piece = []

-- the stage after a piece: an extension may end in it, and a byte after the trailer is a fault
abbrev pub stage_after : BinaryStage → List ℕ → BinaryStage
stage_after stages.Head piece = stages.Head
stage_after (stages.Extension n) piece = if nat_lt (length piece) n
    then stages.Extension (n - length piece) else stages.Rows
stage_after stages.Rows piece = stages.Rows
stage_after stages.Closed [] = stages.Closed
stage_after stages.Closed (b ∷ bs) = stages.Failed AfterTrailer
stage_after (stages.Failed fault) piece = stages.Failed fault

-- the reader after a push that took this piece: it lends no row
abbrev pub pushed_after : BinaryState → List ℕ → BinaryState
pushed_after s piece =
    record s {
      kept = s.kept ++ kept_of s.stage piece;
      stage = stage_after s.stage piece;
      held = None;
    }

-- The reader is in the head or among the rows, and has found neither trailer nor fault.
abbrev pub IsReading : BinaryStage → Type 0
IsReading stages.Head = Unit {0}
IsReading (stages.Extension n) = Unit {0}
IsReading stages.Rows = Unit {0}
IsReading stages.Closed = ⊥
IsReading (stages.Failed fault) = ⊥

-- A push takes the whole piece, or rejects it and changes nothing: by the fault that was found
-- before, or because memory ran out, but never a piece of which nothing is kept (no bytes, within an
-- extension, after the trailer).
abbrev pub PushesBinary : BinaryState → List ℕ → Result Unit BinaryFault → BinaryState → Type 0
PushesBinary old piece (Ok x) new = ((f : BinaryFault) → old.stage ≡ stages.Failed f → ⊥)
    × (new ≡ pushed_after old piece)
PushesBinary old piece (Err f) new = ((old.stage ≡ stages.Failed f)
    ⊎ ((f ≡ Memory) × IsReading old.stage × (0 < length (kept_of old.stage piece)))) × (new ≡ old)
