-- What is printed of the two streams of a connection.
use Rattle.std.specs.Prelude.{ℕ, ◌≡◌, ◌-◌, ◌^◌, ◌≤◌, ◌⊎◌, true, false, List, length, Result, Ok, Err}
use Rattle.std.specs.List.{FoldsTo, concat}
use Rattle.pg_wire.specs.Link.{HasRisen}
use Rattle.pgpipe_base.specs.declared.fault.ToolFault.{ToolFault}
use Rattle.pgpipe_base.specs.declared.fault.ToolFault.TheVariants as fault
use Rattle.pgpipe_base.specs.Receiving.{most_receives, CountsNoFailure}
use Rattle.pgpipe_frames.specs.declared.next.NextFrame.{NextFrame}
use Rattle.pgpipe_frames.specs.declared.next.NextFrame.TheVariants as next
use Rattle.pgpipe_show.specs.declared.both.turn.Due.TheVariants as whose
use Rattle.pgpipe_show.specs.declared.both.turn.Ended.{Ended}
use Rattle.pgpipe_show.specs.declared.both.turn.Ended.TheVariants as ending
use Rattle.pgpipe_show.specs.declared.both.turn.BothEnds.{BothEnds}
use Rattle.pgpipe_show.specs.declared.both.turn.Turn.{Turn}
use Rattle.pgpipe_show.specs.Entries.{Entry, AreEntryLines, AreInTurn, said}
use Rattle.pgpipe_show.specs.Turn.{due, first_turn}
use mathlib.Core.List.{IsPrefix}

-- the most entries that are printed
abbrev pub most_entries : ℕ
most_entries = 2 ^ 64 - 1

-- The text is the lines of entries that stand in turn from the beginning of a connection on, and whose
-- bytes begin what the client sent and what the server sent.
pub record AreShown (front back text : List ℕ) : Type 0 where
  pub entries : List Entry
  pub turn : Turn
  pub last : NextFrame
  pub in_turn : AreInTurn first_turn next.Packet entries turn last
  pub front_begins : IsPrefix (said true entries) front
  pub back_begins : IsPrefix (said false entries) back
  pub lines : AreEntryLines entries text

-- All of these bytes are those of the entries, unless the stream goes on encrypted.
abbrev pub AreAll : Ended → List ℕ → List ℕ → Type 0
AreAll ending.Encrypted entry_bytes bytes = IsPrefix entry_bytes bytes
AreAll _ entry_bytes bytes = bytes ≡ entry_bytes

-- The text is the lines of all that the client and the server sent, in turn, and the streams ended so.
pub record AreAllShown (front back text : List ℕ) (ends : BothEnds) : Type 0 where
  pub entries : List Entry
  pub turn : Turn
  pub last : NextFrame
  pub in_turn : AreInTurn first_turn next.Packet entries turn last
  pub over : due turn ≡ whose.Nobody ends
  pub front_is : AreAll ends.front (said true entries) front
  pub back_is : AreAll ends.back (said false entries) back
  pub lines : AreEntryLines entries text

-- A source stopped: it failed, by its count of failures before and after, or gave no whole frame and
-- no end in 2^40 calls.
abbrev pub HasStopped : ℕ → ℕ → List (List ℕ) → Type 0
HasStopped old new received = HasRisen old new ⊎ (most_receives ≤ length received)

-- What is returned, by the bytes of the client and of the server that were received, and the text
-- that was sent. Memory: the lines of what was printed were sent. Device: the sink broke (a prefix
-- was sent), or a source stopped, or more entries came than are printed (all lines were sent).
abbrev pub BothAnswers : Type 0 → Type 0 → List ℕ → List ℕ → List ℕ → Result BothEnds ToolFault
    → Type 0
BothAnswers stopped broke front back text (Ok ends) = AreAllShown front back text ends
BothAnswers stopped broke front back text (Err fault.Memory) = AreShown front back text
BothAnswers stopped broke front back text (Err fault.Device) =
    (broke × ((all : List ℕ) × AreShown front back all × IsPrefix text all))
    ⊎ ((shown : AreShown front back text) × (stopped ⊎ (most_entries ≤ length shown.entries)))

-- Where a stream ended with whole frames or with a rest, its source has ended.
abbrev pub EndsSource : Type 0 → Ended → Type 0
EndsSource at_end ending.Whole = at_end
EndsSource at_end (ending.Rest size) = at_end
EndsSource at_end (ending.Fault f) = Unit {0}
EndsSource at_end ending.Canceled = Unit {0}
EndsSource at_end ending.Encrypted = Unit {0}

-- Where a stream of the two ended with whole frames or with a rest, its source has ended.
abbrev pub EndsSources : Type 0 → Type 0 → Result BothEnds ToolFault → Type 0
EndsSources front_at_end back_at_end (Ok ends) = EndsSource front_at_end ends.front
    × EndsSource back_at_end ends.back
EndsSources front_at_end back_at_end (Err error) = Unit {0}

-- Both streams were printed: these pieces came of the client's, these of the server's, and these were
-- sent.
pub record ShowsBoth {F B K : Type 0} (front_gives : F → List ℕ → F → Type 0)
    (front_failures : F → ℕ) (front_ended : F → Type 0) (back_gives : B → List ℕ → B → Type 0)
    (back_failures : B → ℕ) (back_ended : B → Type 0) (takes : K → List ℕ → K → Type 0)
    (failures : K → ℕ) (front : F) (back : B) (sink : K) (answer : Result BothEnds ToolFault)
    (front' : F) (back' : B) (sink' : K) : Type 0 where
  pub came : List (List ℕ)
  pub answered : List (List ℕ)
  pub sent : List (List ℕ)
  pub front_received : FoldsTo front_gives front came front'
  pub back_received : FoldsTo back_gives back answered back'
  pub was_sent : FoldsTo takes sink sent sink'
  pub answers : BothAnswers (HasStopped (front_failures front) (front_failures front') came
      ⊎ HasStopped (back_failures back) (back_failures back') answered)
      (HasRisen (failures sink) (failures sink'))
      (concat came) (concat answered) (concat sent) answer
  pub ended : EndsSources (front_ended front') (back_ended back') answer
  -- where the answer isn't Device, none of them failed
  pub front_counts : CountsNoFailure (front_failures front) answer (front_failures front')
  pub back_counts : CountsNoFailure (back_failures back) answer (back_failures back')
  pub sink_counts : CountsNoFailure (failures sink) answer (failures sink')
