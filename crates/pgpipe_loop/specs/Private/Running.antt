-- How far a loop has come.
use Rattle.std.specs.Prelude.{◌≡◌, ℕ, Bool, ◌||◌, ◌⊎◌, List, [], ◌∷◌, ◌++◌, Result, Ok, Err}
use Rattle.pg_copy.specs.Row.{Row}
use Rattle.pg_wire.specs.declared.link.LinkFault.{LinkFault}
use Rattle.pg_pair.specs.Carrying.{Carrying}
use Rattle.pg_pair.specs.declared.carry.Way.{Way}
use Rattle.pg_pair.specs.declared.carry.Way.TheVariants.{ToBackend, ToClient}
use Rattle.pg_pair.specs.declared.event.Applied.{Applied}
use Rattle.pg_pair.specs.declared.event.Event.{Event}
use Rattle.pg_pair.specs.declared.event.Event.TheVariants as event
use Rattle.pg_pair.specs.Event.{Applies}
use Rattle.pg_pair.specs.View.{PairView}
use Rattle.pgpipe_base.specs.declared.fault.ToolFault.{ToolFault}
use Rattle.pgpipe_base.specs.declared.fault.ToolFault.TheVariants as fault
use Rattle.pgpipe_loop.specs.Lines.{text_lines}
use Rattle.pgpipe_loop.specs.declared.run_loop.Ran.{Ran}
use Rattle.pgpipe_loop.specs.RunLoop.{PlannedEvent, Happened, ending_of, says_carrier_failed, is_carrier, left_to_happen, rows_told}
use Rattle.pgpipe_base.specs.Outbox.{Puts}

-- how a sink may take
abbrev pub Taking : Type 0 → Type 1
Taking K = K → List ℕ → K → Type 0

-- a delivery of so many bytes
abbrev pub delivery : Way → ℕ → Event
delivery ToBackend n = event.ToBackend n
delivery ToClient n = event.ToClient n

-- the pair, whether its carrier has failed, and the sink
pub record At (C K : Type 0) : Type 0 where
  pub pair : PairView C
  pub failed : Bool
  pub sink : K

-- these three together
abbrev pub at : {C K : Type 0} → PairView C → Bool → K → At C K
at pair failed sink = record { pair = pair; failed = failed; sink = sink }

-- Text is sent, all of it or, where the sink failed, a prefix.
abbrev pub Sends : {K A : Type 0} → Taking K → (K → ℕ) → K → List ℕ → Result A LinkFault → K
    → Type 0
Sends takes failures sink text result sink' = Puts takes failures [] sink text result [] sink'

-- Lines are sent, or the sink failed.
abbrev pub SendsLines : {K : Type 0} → Taking K → (K → ℕ) → K → List ℕ → Result Unit ToolFault → K
    → Type 0
SendsLines takes failures sink text (Ok x) sink' =
    Sends {A = Unit {0}} takes failures sink text (Ok tt) sink'
SendsLines takes failures sink text (Err fault.Memory) sink' = ⊥
SendsLines takes failures sink text (Err fault.Device) sink' = (fault : LinkFault)
    × Sends {A = Unit {0}} takes failures sink text (Err fault) sink'

-- An event happens, and its lines are sent. Where memory runs out nothing is sent.
abbrev pub Prints : {C K : Type 0} → Carrying C → Bool → Taking K → (K → ℕ) → Event → At C K
    → Result Applied ToolFault → At C K → Type 0
Prints carries trace takes failures e old (Ok answer) new =
    Applies carries e old.pair (Ok answer) new.pair
    × (new.failed ≡ (old.failed || is_carrier answer))
    × Sends {A = Unit {0}} takes failures old.sink
    (text_lines (rows_told trace e old.pair answer new.pair)) (Ok tt) new.sink
Prints carries trace takes failures e old (Err fault.Memory) new = new.sink ≡ old.sink
Prints carries trace takes failures e old (Err fault.Device) new =
    (answer : Applied) × (fault : LinkFault) × Applies carries e old.pair (Ok answer) new.pair
    × Sends {A = Unit {0}} takes failures old.sink
    (text_lines (rows_told trace e old.pair answer new.pair)) (Err fault) new.sink

-- What has happened from this begin on has led here, with this left, and its lines are sent.
pub record HasDone {C K : Type 0} (carries : Carrying C) (trace : Bool)
    (takes : Taking K) (failures : K → ℕ) (start : K) (begun : PairView C)
    (all : List PlannedEvent) (at : At C K)
    (left : List PlannedEvent) : Type 0 where
  pub rows : List Row
  pub happened : Happened carries trace begun all at.pair left rows at.failed
  pub sent : Sends {A = Unit {0}} takes failures start (text_lines rows) (Ok tt) at.sink

-- What has happened led somewhere, and its lines are sent.
pub record IsRefused {C K : Type 0} (carries : Carrying C) (trace : Bool)
    (takes : Taking K) (failures : K → ℕ) (start : K) (begun : PairView C)
    (all : List PlannedEvent) (sink : K) : Type 0 where
  pub at : At C K
  pub left : List PlannedEvent
  pub stands : HasDone carries trace takes failures start begun all at left
  pub sink_is : sink ≡ at.sink

-- The sink failed in the midst of the lines of what has happened.
pub record HasSinkFailed {C K : Type 0} (carries : Carrying C) (trace : Bool)
    (takes : Taking K) (failures : K → ℕ) (start : K) (begun : PairView C)
    (all : List PlannedEvent) (sink : K) : Type 0 where
  pub pair : PairView C
  pub left : List PlannedEvent
  pub rows : List Row
  pub failed : Bool
  pub fault : LinkFault
  pub happened : Happened carries trace begun all pair left rows failed
  pub sent : Sends {A = Unit {0}} takes failures start (text_lines rows) (Err fault) sink

-- What a piece of work leaves: what is left to happen depends on its answer.
abbrev pub WorkLeaves : {A C K : Type 0} → Carrying C → Bool → Taking K → (K → ℕ) → K → PairView C
    → List PlannedEvent
    → (A → List PlannedEvent) → Result A ToolFault → At C K → Type 0
WorkLeaves carries trace takes failures start begun all left (Ok x) new =
    HasDone carries trace takes failures start begun all new (left x)
WorkLeaves carries trace takes failures start begun all left (Err fault.Memory) new =
    IsRefused carries trace takes failures start begun all new.sink
WorkLeaves carries trace takes failures start begun all left (Err fault.Device) new =
    HasSinkFailed carries trace takes failures start begun all new.sink

-- These happen next, and of them this is left, whatever has happened before and whatever is left after them.
abbrev pub Does : {A C K : Type 0} → Carrying C → Bool → Taking K → (K → ℕ) → List PlannedEvent
    → (A → List PlannedEvent) → At C K → Result A ToolFault → At C K → Type 0
Does {A} {C} {K} carries trace takes failures next rest old result new =
    (start : K) (begun : PairView C) (all left : List PlannedEvent)
    → HasDone carries trace takes failures start begun all old (next ++ left)
    → WorkLeaves carries trace takes failures start begun all (λ x. rest x ++ left) result new

-- All of these happen next.
abbrev pub DoesAll : {A C K : Type 0} → Carrying C → Bool → Taking K → (K → ℕ)
    → List PlannedEvent → At C K → Result A ToolFault → At C K → Type 0
DoesAll carries trace takes failures next old result new =
    Does carries trace takes failures next (λ x. []) old result new

-- An event happens once, and the answer is whether nothing came of it.
abbrev pub DoesOnce : {C K : Type 0} → Carrying C → Bool → Taking K → (K → ℕ) → Event → At C K
    → Result Bool ToolFault → At C K → Type 0
DoesOnce carries trace takes failures e old result new =
    (n : ℕ)
    → Does carries trace takes failures (record { event = e; again = n } ∷ [])
    (λ nothing. left_to_happen nothing (record { event = e; again = n })) old result new

-- ---- the end

-- The closing lines are sent. Where memory runs out nothing is sent.
abbrev pub Closes : {C K : Type 0} → Taking K → (K → ℕ) → PairView C → K → Result Unit ToolFault → K
    → Type 0
Closes takes failures p sink (Ok x) sink' =
    Sends {A = Unit {0}} takes failures sink (text_lines (ending_of p)) (Ok tt) sink'
Closes takes failures p sink (Err fault.Memory) sink' = sink' ≡ sink
Closes takes failures p sink (Err fault.Device) sink' = (fault : LinkFault)
    × Sends {A = Unit {0}} takes failures sink (text_lines (ending_of p)) (Err fault) sink'

-- All has happened, and the sink was given its lines and the closing ones.
pub record IsClosed {A C K : Type 0} (carries : Carrying C) (trace : Bool)
    (takes : Taking K) (failures : K → ℕ) (start : K) (begun : PairView C)
    (all : List PlannedEvent) (failed : Bool)
    (result : Result A LinkFault) (sink : K) : Type 0 where
  pub pair : PairView C
  pub rows : List Row
  pub happened : Happened carries trace begun all pair [] rows failed
  pub sent : Sends takes failures start (text_lines (rows ++ ending_of pair)) result sink

-- what the whole work leaves
abbrev pub EndsLoop : {C K : Type 0} → Carrying C → Bool → Taking K → (K → ℕ) → K → PairView C
    → List PlannedEvent → Result Ran ToolFault → K → Type 0
EndsLoop carries trace takes failures start begun all (Ok r) sink =
    IsClosed {A = Unit {0}} carries trace takes failures start begun all (says_carrier_failed r)
    (Ok tt) sink
EndsLoop carries trace takes failures start begun all (Err fault.Memory) sink =
    IsRefused carries trace takes failures start begun all sink
EndsLoop carries trace takes failures start begun all (Err fault.Device) sink =
    HasSinkFailed carries trace takes failures start begun all sink
    ⊎ ((failed : Bool) × (fault : LinkFault)
    × IsClosed {A = Unit {0}} carries trace takes failures start begun all failed (Err fault) sink)
