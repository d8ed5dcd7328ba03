-- A loop that is run again for each byte of each way, with that way cut after it.
use Rattle.std.specs.Prelude.{◌≡◌, ◌-◌, ℕ, zero, suc, Bool, true, false, List, [], ◌∷◌, ◌++◌, length, take, map, Option, Some, None, Result, Ok, Err, IsErr, codes}
use Rattle.std.specs.Fmt.{decimal}
use Rattle.pg_copy.specs.Row.{Row}
use Rattle.pg_backend.specs.declared.script.Script.{Script}
use Rattle.pg_backend.specs.Check.{IsChecked}
use Rattle.pg_pair.specs.declared.carry.CarryFault.{CarryFault}
use Rattle.pg_pair.specs.declared.carry.Direct.{Direct}
use Rattle.pg_pair.specs.declared.carry.Way.{Way}
use Rattle.pg_pair.specs.declared.carry.Way.TheVariants.{ToBackend, ToClient}
use Rattle.pg_pair.specs.declared.event.Applied.{Applied}
use Rattle.pg_pair.specs.Beginning.{IsBegun}
use Rattle.pg_pair.specs.Carrying.{Carrying}
use Rattle.pg_pair.specs.Event.{Applies}
use Rattle.pg_pair.specs.Laws.{break_of}
use Rattle.pg_pair.specs.View.{PairView}
use Rattle.pgpipe_base.specs.declared.fault.ToolFault.{ToolFault}
use Rattle.pgpipe_base.specs.declared.fault.ToolFault.TheVariants as fault
use Rattle.pgpipe_files.specs.declared.calls_file.Calls.{Calls}
use Rattle.pgpipe_files.specs.CallsFile.{calls_of, what_is_said}
use Rattle.pgpipe_files.specs.Filling.{filled, next_file}
use Rattle.pgpipe_files.specs.ScriptFile.{script_of}
use Rattle.pgpipe_loop.specs.declared.run_loop.everywhere.LoopFiles.{LoopFiles}
use Rattle.pgpipe_loop.specs.declared.run_loop.places.Broken.{Broken}
use Rattle.pgpipe_loop.specs.declared.run_loop.places.Place.{Place}
use Rattle.pgpipe_loop.specs.declared.run_loop.wire.CutWire.{CutWire}
use Rattle.pgpipe_loop.specs.Lines.{text_lines}
use Rattle.pgpipe_loop.specs.RunLoop.{Happened, planned_events}
use mathlib.Core.List.{IsPrefix}

-- ---- what the files say

-- The bytes of the files that the calls name stand in their places, as chunks.
pub data FillsIn (read : Calls) : List (List ℕ) → Calls → Type 0 where
  nothing : FillsIn read [] read
  one_more : (named : List (List ℕ)) (calls : Calls) (bytes : List ℕ) → FillsIn read named calls
      → FillsIn read (named ++ bytes ∷ []) (filled bytes calls)

-- The files say this script and these calls.
pub record Says (files : LoopFiles) (script : Script) (calls : Calls) : Type 0 where
  pub script_is : script_of files.script ≡ Ok script
  pub read : Calls
  pub calls_are : calls_of files.calls ≡ Ok (what_is_said read)
  pub limit : read.settings.limit ≡ 1073741823
  pub fills_in : FillsIn read files.named calls

-- The files say a script that can be played, and calls in which no file is left to be filled in.
pub record IsPlayable (files : LoopFiles) : Type 0 where
  pub script : Script
  pub calls : Calls
  pub says : Says files script calls
  pub checked : IsChecked script
  pub filled : next_file calls.lines ≡ None

-- ---- a wire that is cut

-- the wire that is cut in this place
abbrev pub cut_at : Place → CutWire
cut_at place = record { way = place.way; left = place.bytes; failures = 0 }

-- whether the two ways are one
abbrev pub is_same_way : Way → Way → Bool
is_same_way ToBackend ToBackend = true
is_same_way ToClient ToClient = true
is_same_way _ _ = false

-- What a wire brings along the way that is cut, where so many bytes are left to come: the first of
-- the piece; or none, and the call fails.
abbrev pub BringsLeft : ℕ → CutWire → List ℕ → Result (List ℕ) CarryFault → CutWire → Type 0
BringsLeft zero old piece result new = IsErr result
BringsLeft (suc left) old piece result new = (result ≡ Ok (take (suc left) piece))
    × (new ≡ record old { left = suc left - length piece })

-- What a wire brings by whether the way is the one that is cut (true): along the other one the
-- whole piece.
abbrev pub BringsAlong : Bool → CutWire → List ℕ → Result (List ℕ) CarryFault → CutWire → Type 0
BringsAlong true old piece result new = BringsLeft old.left old piece result new
BringsAlong false old piece result new = (result ≡ Ok piece) × (new ≡ old)

-- what the calls of a wire that is cut do
abbrev pub Brings : Carrying CutWire
Brings old way piece result new = BringsAlong (is_same_way way old.way) old piece result new

-- a carrier that gives each piece whole
abbrev pub GivesAll : Carrying Direct
GivesAll old way piece result new = result ≡ Ok piece

-- ---- the places

-- the places of a way along which so many bytes came: after each of them
abbrev pub places_along : Way → ℕ → List Place
places_along way zero = []
places_along way (suc n) = places_along way n ++ record { way = way; bytes = suc n } ∷ []

-- the places of a loop that has left this pair: one for each byte that has reached the backend, and
-- one for each that has reached the client
abbrev pub places_of : {C : Type 0} → PairView C → List Place
places_of p = places_along ToBackend p.to_backend.reached
    ++ places_along ToClient p.to_client.reached

-- what the pair has come to that was left where a loop was broken in this place: how many groups
-- are settled, requested and not settled, and logged; and the settled ones are the first of the
-- logged ones
abbrev pub broken_as : {C : Type 0} → Place → PairView C → Broken
broken_as place p = record {
  place = place;
  settled = length p.settled;
  doubt = length p.handed - length p.settled;
  logged = length p.backend.log;
  begins = true;
}

-- this place, if the settled groups weren't seen to be the first of the logged ones there (false),
-- and else the one that was found after it
abbrev pub unseen_or : Bool → Place → Option Place → Option Place
unseen_or true place later = later
unseen_or false place later = Some place

-- the first place where the settled groups weren't seen to be the first of the logged ones
abbrev pub first_unseen : List Broken → Option Place
first_unseen [] = None
first_unseen (b ∷ bs) = unseen_or b.begins b.place (first_unseen bs)

-- ---- the runs

module _ (cut : ℕ) (files : LoopFiles) where
  -- The lines of CALLS were all done over this carrier, with a new pair, and left this one.
  pub record IsLeftBy {C : Type 0} (carries : Carrying C) (carrier : C)
      (p : PairView C) : Type 0 where
    pub script : Script
    pub calls : Calls
    pub says : Says files script calls
    pub begun : PairView C
    pub is_begun : IsBegun calls.settings script carrier begun
    pub rows : List Row
    pub failed : Bool
    pub happened : Happened carries false begun (planned_events cut calls.lines) p [] rows failed

  -- They were done over a wire that is cut in this place, then that way was broken, and this is
  -- what the pair has come to.
  pub record IsLeftAt (place : Place) (broken : Broken) : Type 0 where
    pub done : PairView CutWire
    pub is_done : IsLeftBy Brings (cut_at place) done
    pub answer : Applied
    pub pair : PairView CutWire
    pub breaks : Applies Brings (break_of place.way) done (Ok answer) pair
    pub broken_is : broken ≡ broken_as place pair

  -- what loops have come to that were broken in these places, in order
  pub data AreBroken : List Place → List Broken → Type 0 where
    nowhere : AreBroken [] []
    in_one_more : (places : List Place) (all : List Broken) (place : Place) (broken : Broken)
        → AreBroken places all → IsLeftAt place broken
        → AreBroken (places ++ place ∷ []) (all ++ broken ∷ [])

  -- What loops have come to that were broken in each place of the loop whose wire isn't cut.
  pub record IsBrokenEverywhere (all : List Broken) : Type 0 where
    pub carrier : Direct
    pub whole : PairView Direct
    pub is_whole : IsLeftBy GivesAll carrier whole
    pub are_broken : AreBroken (places_of whole) all

-- ---- the lines

-- the verb of CALLS that breaks a way
abbrev pub break_word : Way → List ℕ
break_word ToBackend = codes "breakback"
break_word ToClient = codes "breakclient"

-- the line of a place: the verb that breaks its way, after how many bytes, and how many groups are
-- settled, in doubt and logged
abbrev pub broken_row : Broken → Row
broken_row b = Some (break_word b.place.way) ∷ Some (decimal b.place.bytes)
    ∷ Some (codes "settled") ∷ Some (decimal b.settled)
    ∷ Some (codes "doubt") ∷ Some (decimal b.doubt)
    ∷ Some (codes "logged") ∷ Some (decimal b.logged) ∷ []

-- the line `places`, with how many there are
abbrev pub places_row : ℕ → Row
places_row n = Some (codes "places") ∷ Some (decimal n) ∷ []

-- the line of each place, and how many there are
abbrev pub broken_text : List Broken → List ℕ
broken_text all = text_lines (map broken_row all ++ places_row (length all) ∷ [])

-- What `break_everywhere` returns, by the text sent. Ok: all lines, and the first place where what
-- is settled wasn't seen to begin the log; there is none by IsLeftAt. Memory: nothing was sent.
-- Device: the sink broke, and a prefix was sent.
abbrev pub BreaksAnswer : Type 0 → ℕ → LoopFiles → List ℕ → Result (Option Place) ToolFault → Type 0
BreaksAnswer broke cut files text (Ok unseen) = (all : List Broken)
    × IsBrokenEverywhere cut files all × (text ≡ broken_text all) × (unseen ≡ first_unseen all)
BreaksAnswer broke cut files text (Err fault.Memory) = text ≡ []
BreaksAnswer broke cut files text (Err fault.Device) = broke × ((all : List Broken)
    × IsBrokenEverywhere cut files all × IsPrefix text (broken_text all))
