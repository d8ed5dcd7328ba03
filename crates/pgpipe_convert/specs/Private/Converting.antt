-- How far a conversion has come.
use Rattle.std.specs.Prelude.{ℕ, ◌≡◌, ◌≤◌, ◌+◌, Bool, true, false, List, [], ◌∷◌, ◌++◌, ◌⊎◌, length, Option, Some, None, Result, Ok, Err, OnOk}
use Rattle.std.specs.List.{FoldsTo, concat, flat_map, AllByRecursion}
use Rattle.pg_copy.specs.fault.BinaryFault.{BinaryFault}
use Rattle.pg_copy.specs.fault.BinaryFault.TheVariants as binary_fault
use Rattle.pg_copy.specs.fault.RowFault.{RowFault}
use Rattle.pg_copy.specs.fault.RowFault.TheVariants as row_fault
use Rattle.pg_copy.specs.fault.TextFault.{TextFault}
use Rattle.pg_copy.specs.fault.TextFault.TheVariants as text_fault
use Rattle.pg_copy.specs.BinaryReader.{HasReadBinary, binary_last, binary_left}
use Rattle.pg_copy.specs.Reading.{RowsRead, RowsEnding, Bad, IsGood, after_rows}
use Rattle.pg_copy.specs.Row.{Row}
use Rattle.pg_copy.specs.TextReader.{HasReadText, text_last, text_left}
use Rattle.pg_wire.specs.declared.link.LinkFault.{LinkFault}
use Rattle.pg_wire.specs.Link.{HasRisen}
use Rattle.pgpipe_convert.specs.declared.convert.Converted.{Converted}
use Rattle.pgpipe_convert.specs.declared.convert.Converted.TheVariants as converted
use Rattle.pgpipe_convert.specs.declared.copy_rows.RowReader.{RowReader}
use Rattle.pgpipe_convert.specs.declared.copy_rows.RowReader.TheVariants as reader
use Rattle.pgpipe_base.specs.declared.stop.Stop.{Stop}
use Rattle.pgpipe_base.specs.declared.stop.Stop.TheVariants as stop
use Rattle.pgpipe_convert.specs.Convert.{FileReading, text_file, binary_file, answered, none_left, IsEnd, FileWriting, IsWritable, trailer_for, AreConverted, IsAnswerFor, AreAllConverted, AreConvertedBefore}
use Rattle.pgpipe_base.specs.Outbox.{most_collected, Puts, StaysWithin}
use mathlib.Core.List.{IsPrefix}
use Rattle.pgpipe_base.specs.Receiving.{most_receives, IsSentAtOnce}

-- why the work stops where a reader of text answers a fault
abbrev pub text_stop : TextFault → Stop Converted
text_stop text_fault.Memory = stop.Memory
text_stop f = stop.Answer (converted.Text f)

-- why the work stops where a reader of a binary file answers a fault
abbrev pub binary_stop : BinaryFault → Stop Converted
binary_stop binary_fault.Memory = stop.Memory
binary_stop f = stop.Answer (converted.Binary f)

-- why the work stops where a row can't be written
abbrev pub row_stop : RowFault → Stop Converted
row_stop row_fault.Memory = stop.Memory
row_stop f = stop.Answer (converted.Row f)

-- ---- a reader of either format

-- what it reads
abbrev pub file_by : RowReader → FileReading
file_by (reader.Text s) = text_file s.options s.columns
file_by (reader.Binary s) = binary_file s.columns s.limit

-- whether it was told of the end of the input
abbrev pub ended_of : RowReader → Bool
ended_of (reader.Text s) = s.ended
ended_of (reader.Binary s) = s.ended

-- the row that it lends, if it lends one
abbrev pub held_of : RowReader → Option Row
held_of (reader.Text s) = s.held
held_of (reader.Binary s) = s.held

-- what is still to come of what it was given, or of the whole file, if it was given all
abbrev pub rows_left : Bool → RowReader → RowsRead Converted
rows_left false (reader.Text s) = answered converted.Text (text_left s [])
rows_left false (reader.Binary s) = answered converted.Binary (binary_left s [])
rows_left true (reader.Text s) = answered converted.Text (text_last s)
rows_left true (reader.Binary s) = answered converted.Binary (binary_last s)

-- It was given these bytes, and has given these rows.
abbrev pub HasReadBy : RowReader → List ℕ → List Row → Type 0
HasReadBy (reader.Text s) bytes given = HasReadText s bytes given
HasReadBy (reader.Binary s) bytes given = HasReadBinary s bytes given

-- Each row of such a file has so many values.
abbrev pub HasWidth : FileReading → ℕ → Type 0
HasWidth file columns = (at_end : Bool) (bytes : List ℕ)
    → AllByRecursion (λ row. length row ≡ columns) (file at_end bytes).rows

-- Whatever it was given and has given before: these rows come next in the file, and this is left of
-- it then.
abbrev pub ComeNext : Bool → RowReader → List Row → RowsRead Converted → Type 0
ComeNext at_end r rows left = (bytes : List ℕ) (given : List Row) → HasReadBy r bytes given
    → file_by r at_end bytes ≡ after_rows (given ++ rows) left

-- It has given these rows, and goes on.
pub record ReadsOn (at_end : Bool) (r : RowReader) (rows : List Row) (r' : RowReader) : Type 0 where
  pub same : file_by r' ≡ file_by r
  pub may_go_on : at_end ≡ false → ended_of r' ≡ false
  pub read : (bytes : List ℕ) (given : List Row) → HasReadBy r bytes given
      → HasReadBy r' bytes (given ++ rows)

-- no row is left: in what came so far, or in the whole file
abbrev pub EndsAs : Bool → RowsEnding Converted → Type 0
EndsAs false ending = IsGood ending
EndsAs true ending = IsEnd ending

-- A piece is taken, or stands after a fault, or memory ran out.
abbrev pub TakesPiece : RowReader → List ℕ → Result Unit (Stop Converted) → RowReader → Type 0
TakesPiece r piece (Ok x) r' = (file_by r' ≡ file_by r) × (ended_of r' ≡ ended_of r)
    × ((bytes : List ℕ) (given : List Row) → HasReadBy r bytes given
    → HasReadBy r' (bytes ++ piece) given)
TakesPiece r piece (Err (stop.Answer converted.Whole)) r' = ⊥
TakesPiece r piece (Err (stop.Answer (converted.Row f))) r' = ⊥
TakesPiece r piece (Err (stop.Answer c)) r' = (bytes : List ℕ) (given : List Row)
    → HasReadBy r bytes given
    → file_by r false (bytes ++ piece) ≡ after_rows given (none_left (Bad c))
TakesPiece r piece (Err stop.Memory) r' = r' ≡ r
TakesPiece r piece (Err _) r' = ⊥

-- The next row is given, or what stands in its place, or memory for it ran out.
abbrev pub GivesRow : Bool → RowReader → Result (Option Row) (Stop Converted) → RowReader → Type 0
GivesRow at_end r (Ok (Some row)) r' = ReadsOn at_end r (row ∷ []) r'
GivesRow at_end r (Ok None) r' = ReadsOn at_end r [] r' × (ending : RowsEnding Converted)
    × EndsAs at_end ending × ComeNext at_end r [] (none_left ending)
GivesRow at_end r (Err (stop.Answer converted.Whole)) r' = ⊥
GivesRow at_end r (Err (stop.Answer (converted.Row f))) r' = ⊥
GivesRow at_end r (Err (stop.Answer c)) r' = ComeNext at_end r [] (none_left (Bad c))
GivesRow at_end r (Err stop.Memory) r' = Unit {0}
GivesRow at_end r (Err _) r' = ⊥

-- ---- rows that are put

-- A row is put (true); or it can't be written; or it can be, but memory for it ran out. In the
-- last two cases nothing is put.
abbrev pub WritesRow : FileWriting → Row → List ℕ → Result Bool (Stop Converted) → List ℕ → Type 0
WritesRow to row out (Ok true) out' = IsWritable to row × (out' ≡ out ++ to.row row)
WritesRow to row out (Ok false) out' = ⊥
WritesRow to row out (Err (stop.Answer (converted.Row f))) out' = (to.row_fault row ≡ Some f)
    × (out' ≡ out)
WritesRow to row out (Err stop.Memory) out' = IsWritable to row × (out' ≡ out)
WritesRow to row out (Err _) out' = ⊥

-- The next row is put (true), or no row is left (false); or the reader gives no row, or the row that
-- it gives isn't put.
abbrev pub PutsNext : Bool → FileWriting → RowReader → List ℕ → Result Bool (Stop Converted)
    → RowReader → List ℕ → Type 0
PutsNext at_end to r out (Ok true) r' out' = (row : Row) × ReadsOn at_end r (row ∷ []) r'
    × WritesRow to row out (Ok true) out'
PutsNext at_end to r out (Ok false) r' out' = GivesRow at_end r (Ok None) r' × (out' ≡ out)
PutsNext at_end to r out (Err s) r' out' = (GivesRow at_end r (Err s) r' × (out' ≡ out))
    ⊎ ((row : Row) × ReadsOn at_end r (row ∷ []) r' × WritesRow to row out (Err s) out')

-- What is collected is sent where it is much, so that no more is collected than there is room for;
-- or the sink failed.
abbrev pub SendsMuch : {K : Type 0} → (K → List ℕ → K → Type 0) → (K → ℕ) → List ℕ → K
    → Result Unit (Stop Converted) → List ℕ → K → Type 0
SendsMuch takes failures out sink (Ok x) out' sink' =
    Puts {A = Unit {0}} takes failures out sink [] (Ok tt) out' sink'
    × (length out' ≤ most_collected)
SendsMuch takes failures out sink (Err stop.SinkFailed) out' sink' = (fault : LinkFault)
    × Puts {A = Unit {0}} takes failures out sink [] (Err fault) out' sink'
SendsMuch takes failures out sink (Err _) out' sink' = ⊥

-- The rows that come next were put, so far as the result says, and this is left of the file.
pub record RowsArePut {K A : Type 0} (takes : K → List ℕ → K → Type 0) (failures : K → ℕ)
    (at_end : Bool) (to : FileWriting) (r : RowReader) (out : List ℕ) (sink : K)
    (left : RowsRead Converted) (result : Result A LinkFault) (out' : List ℕ)
    (sink' : K) : Type 0 where
  pub rows : List Row
  pub each_writable : AllByRecursion (IsWritable to) rows
  pub come_next : ComeNext at_end r rows left
  pub put : Puts takes failures out sink (flat_map to.row rows) result out' sink'
  pub within : OnOk result (StaysWithin out out')

-- All the rows that wait are put, or those before what stopped the work.
abbrev pub PutsRows : {K : Type 0} → (K → List ℕ → K → Type 0) → (K → ℕ) → Bool → FileWriting
    → RowReader → List ℕ → K → Result Unit (Stop Converted) → RowReader → List ℕ → K → Type 0
PutsRows takes failures at_end to r out sink (Ok x) r' out' sink' =
    (ending : RowsEnding Converted) × EndsAs at_end ending
    × (put : RowsArePut {A = Unit {0}} takes failures at_end to r out sink (none_left ending)
    (Ok tt) out' sink') × ReadsOn at_end r put.rows r'
PutsRows takes failures at_end to r out sink (Err (stop.Answer converted.Whole)) r' out' sink' = ⊥
PutsRows takes failures at_end to r out sink (Err (stop.Answer c)) r' out' sink' =
    (left : RowsRead Converted) × IsAnswerFor to left c
    × RowsArePut {A = Unit {0}} takes failures at_end to r out sink left (Ok tt) out' sink'
PutsRows takes failures at_end to r out sink (Err stop.Memory) r' out' sink' =
    (left : RowsRead Converted)
    × RowsArePut {A = Unit {0}} takes failures at_end to r out sink left (Ok tt) out' sink'
PutsRows takes failures at_end to r out sink (Err stop.SinkFailed) r' out' sink' =
    (left : RowsRead Converted) × (fault : LinkFault)
    × RowsArePut {A = Unit {0}} takes failures at_end to r out sink left (Err fault) out' sink'
PutsRows takes failures at_end to r out sink (Err _) r' out' sink' = ⊥

-- All the rows that are left were put, and the trailer after them; or those before what stopped the
-- work.
abbrev pub EndConverts : {K : Type 0} → (K → List ℕ → K → Type 0) → (K → ℕ) → FileWriting
    → RowReader → List ℕ → K → Stop Converted → List ℕ → K → Type 0
EndConverts takes failures to r out sink (stop.Answer c) out' sink' = (left : RowsRead Converted)
    × IsAnswerFor to left c × (rows_out : List ℕ)
    × RowsArePut {A = Unit {0}} takes failures true to r out sink left (Ok tt) rows_out sink'
    × (out' ≡ rows_out ++ trailer_for to c)
EndConverts takes failures to r out sink stop.Memory out' sink' = (left : RowsRead Converted)
    × RowsArePut {A = Unit {0}} takes failures true to r out sink left (Ok tt) out' sink'
EndConverts takes failures to r out sink stop.SinkFailed out' sink' = (left : RowsRead Converted)
    × (fault : LinkFault)
    × RowsArePut {A = Unit {0}} takes failures true to r out sink left (Err fault) out' sink'
EndConverts takes failures to r out sink _ out' sink' = ⊥

-- ---- the work

-- The reader may be given more.
abbrev pub IsAtStep : RowReader → Type 0
IsAtStep r = (ended_of r ≡ false) × (bytes : List ℕ) × (given : List Row) × HasReadBy r bytes given

-- The head and all rows of the bytes received are put, and the reader keeps what is left.
pub record HasConverted {K : Type 0} (takes : K → List ℕ → K → Type 0) (failures : K → ℕ)
    (file : FileReading) (to : FileWriting) (start : K) (bytes : List ℕ) (r : RowReader)
    (out : List ℕ) (sink : K) : Type 0 where
  pub rows : List Row
  pub text : List ℕ
  pub is_file : file_by r ≡ file
  pub not_ended : ended_of r ≡ false
  pub read : HasReadBy r bytes rows
  pub ending : RowsEnding Converted
  pub good : IsGood ending
  pub all : file false bytes ≡ after_rows rows (none_left ending)
  pub each_writable : AllByRecursion (IsWritable to) rows
  pub each_row : text ≡ to.head ++ flat_map to.row rows
  pub put : Puts {A = Unit {0}} takes failures [] start text (Ok tt) out sink
  pub within : length out ≤ most_collected

-- The head and rows of the bytes received were put, so far as the result says, with more after
-- them, and what was put before is no more than what was sent and what may be collected. These sends
-- were the first.
pub record ArePut {K A : Type 0} (takes : K → List ℕ → K → Type 0) (failures : K → ℕ)
    (file : FileReading) (to : FileWriting) (ended : Type 0) (start : K) (bytes before : List ℕ)
    (earlier : List (List ℕ)) (left : RowsRead Converted) (more : List ℕ)
    (result : Result A LinkFault) (out : List ℕ) (sink : K) : Type 0 where
  pub text : List ℕ
  pub are_converted : AreConverted file to ended bytes left text
  pub put : Puts takes failures [] start (text ++ more) result out sink
  pub at_once : length before ≤ most_collected + length (concat put.pieces)
  pub begins : IsPrefix earlier put.pieces

-- What stands where the work stops, in a step before which this text was put by these sends.
abbrev pub Stops : {K : Type 0} → (K → List ℕ → K → Type 0) → (K → ℕ) → FileReading → FileWriting
    → Type 0 → K → List ℕ → List ℕ → List (List ℕ) → Stop Converted → List ℕ → K → Type 0
Stops takes failures file to ended start bytes before earlier (stop.Answer c) out sink =
    (left : RowsRead Converted) × IsAnswerFor to left c
    × ArePut {A = Unit {0}} takes failures file to ended start bytes before earlier left
    (trailer_for to c) (Ok tt) out sink
Stops takes failures file to ended start bytes before earlier stop.Memory out sink =
    (left : RowsRead Converted)
    × (put : ArePut {A = Unit {0}} takes failures file to ended start bytes before earlier left []
    (Ok tt) out sink) × IsPrefix before put.text
Stops takes failures file to ended start bytes before earlier stop.SinkFailed out sink =
    (left : RowsRead Converted) × (fault : LinkFault)
    × ArePut {A = Unit {0}} takes failures file to ended start bytes before earlier left []
    (Err fault) out sink
Stops takes failures file to ended start bytes before earlier _ out sink =
    (ending : RowsEnding Converted) × IsGood ending
    × ArePut {A = Unit {0}} takes failures file to ⊥ start bytes before earlier (none_left ending)
    [] (Ok tt) out sink

-- Where a step of the work leads, before which this text was put by these sends.
abbrev pub StepConverts : {K : Type 0} → (K → List ℕ → K → Type 0) → (K → ℕ) → FileReading
    → FileWriting → Type 0 → K → List ℕ → List ℕ → List (List ℕ) → Result Unit (Stop Converted)
    → RowReader
    → List ℕ → K → Type 0
StepConverts takes failures file to ended start bytes before earlier (Ok x) r out sink =
    (stands : HasConverted takes failures file to start bytes r out sink)
    × IsPrefix earlier stands.put.pieces
StepConverts takes failures file to ended start bytes before earlier (Err s) r out sink =
    Stops takes failures file to ended start bytes before earlier s out sink

-- What a stop says of the source: it has ended where the file is whole, it failed, or it didn't
-- fail.
abbrev pub StepsSource : Type 0 → ℕ → ℕ → Result Unit (Stop Converted) → Type 0
StepsSource ended old new (Err (stop.Answer converted.Whole)) = ended × (new ≡ old)
StepsSource ended old new (Err stop.SourceFailed) = HasRisen old new
StepsSource ended old new (Err stop.Endless) = ⊥
StepsSource ended old new _ = new ≡ old

-- What a stop after all the pieces says about the source: it has ended where the file is whole, it
-- failed, it gave no end in as many pieces as are received, or it didn't fail.
abbrev pub StopsSource : Type 0 → ℕ → ℕ → List (List ℕ) → Stop Converted → Type 0
StopsSource ended old new pieces (stop.Answer converted.Whole) = ended × (new ≡ old)
StopsSource ended old new pieces stop.SourceFailed = HasRisen old new
StopsSource ended old new pieces stop.Endless = length pieces ≡ most_receives
StopsSource ended old new pieces _ = new ≡ old

-- Pieces were received until the work stopped, and this is what stands then.
pub record HasRun {S K : Type 0} (gives : S → List ℕ → S → Type 0) (source_failures : S → ℕ)
    (ended : Type 0) (takes : K → List ℕ → K → Type 0) (failures : K → ℕ) (file : FileReading)
    (to : FileWriting) (source : S) (start : K) (s : Stop Converted) (source' : S) (out : List ℕ)
    (sink : K) : Type 0 where
  pub pieces : List (List ℕ)
  pub received : FoldsTo gives source pieces source'
  pub before : List ℕ
  pub converted_before : AreConvertedBefore file to (concat pieces) before
  pub earlier : List (List ℕ)
  pub at_once : IsSentAtOnce (AreAllConverted file to) pieces earlier
  pub stops : Stops takes failures file to ended start (concat pieces) before earlier s out sink
  pub stops_source : StopsSource ended (source_failures source) (source_failures source') pieces s
