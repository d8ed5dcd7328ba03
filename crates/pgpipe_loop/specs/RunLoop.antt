-- What happens in a loop, and what is sent of it.
use Rattle.std.specs.Prelude.{◌≡◌, ℕ, zero, suc, ◌-◌, ◌^◌, nat_eq, Bool, true, false, ◌||◌, ◌⊎◌, List, [], ◌∷◌, ◌++◌, length, drop, Option, Some, None, Result, Ok, Err}
use Rattle.std.specs.List.{flat_map}
use Rattle.pg_copy.specs.Row.{Row}
use Rattle.pg_client.specs.declared.settled.Loss.{Loss}
use Rattle.pg_client.specs.View as client
use Rattle.pg_backend.specs.Backend as backend
use Rattle.pg_pair.specs.Carrying.{Carrying}
use Rattle.pg_pair.specs.declared.event.Applied.{Applied}
use Rattle.pg_pair.specs.declared.event.Applied.TheVariants as applied
use Rattle.pg_pair.specs.declared.event.Event.{Event}
use Rattle.pg_pair.specs.declared.event.Event.TheVariants as event
use Rattle.pg_pair.specs.Event.{Applies}
use Rattle.pg_pair.specs.View.{PairView}
use Rattle.pgpipe_files.specs.declared.calls_file.CallLine.{CallLine}
use Rattle.pgpipe_files.specs.declared.calls_file.CallLine.TheVariants as line
use Rattle.pgpipe_loop.specs.declared.run_loop.Ran.{Ran}
use Rattle.pgpipe_loop.specs.declared.run_loop.Ran.TheVariants as ran
use Rattle.pgpipe_base.specs.declared.fault.ToolFault.{ToolFault}
use Rattle.pgpipe_base.specs.declared.fault.ToolFault.TheVariants as fault
use Rattle.pgpipe_loop.specs.Lines.{event_rows, closing_rows, phase_rows, text_lines}
use Rattle.pgpipe_loop.specs.Trace.{event_row, moved_rows}
use mathlib.Core.List.{IsPrefix}

-- ---- what is to happen

-- an event to come, and how many times it may happen again after that: it does while something
-- comes of it
pub record PlannedEvent : Type 0 where
  pub event : Event
  pub again : ℕ

-- an event that happens at most so many times
abbrev pub times : ℕ → Event → List PlannedEvent
times zero e = []
times (suc n) e = record { event = e; again = n } ∷ []

-- the most times that an event of a flow happens
abbrev pub most_times : ℕ
most_times = 2 ^ 64 - 1

-- half a flow: deliveries to the backend while a byte moves, steps while something is handled, and
-- deliveries to the client while a byte moves, of `cut` bytes each
abbrev pub flow_once : ℕ → List PlannedEvent
flow_once cut = times most_times (event.ToBackend cut) ++ times most_times event.Step
    ++ times most_times (event.ToClient cut)

-- the events of a line of CALLS: its own event once, or those of a flow
abbrev pub line_events : ℕ → CallLine → List PlannedEvent
line_events cut (line.Event e) = times 1 e
line_events cut line.Flow = flow_once cut ++ flow_once cut
-- a file that isn't filled in; a loop has none
line_events cut (line.File path) = []

-- the events of all lines of CALLS; a delivery of a flow has at most `cut` bytes
abbrev pub planned_events : ℕ → List CallLine → List PlannedEvent
planned_events cut lines = flat_map (line_events cut) lines

-- ---- what happens

-- whether the answer is Nothing
abbrev pub is_nothing : Applied → Bool
is_nothing applied.Nothing = true
is_nothing _ = false

-- whether the answer is Carrier: the carrier failed or gave other bytes, and the end returned no
-- fault
abbrev pub is_carrier : Applied → Bool
is_carrier applied.Carrier = true
is_carrier _ = false

-- whether nothing came of an event from pair p to q: a delivery moved no byte, another event was
-- answered Nothing
abbrev pub came_to_nothing : {C : Type 0} → Event → PairView C → Applied → PairView C → Bool
came_to_nothing (event.ToBackend n) p answer q = nat_eq q.to_backend.reached p.to_backend.reached
came_to_nothing (event.ToClient n) p answer q = nat_eq q.to_client.reached p.to_client.reached
came_to_nothing e p answer q = is_nothing answer

-- what is still to come of an event that has just happened: nothing where nothing came of it (true)
abbrev pub left_to_happen : Bool → PlannedEvent → List PlannedEvent
left_to_happen true d = []
left_to_happen false d = times d.again d.event

-- the loss that an event brought, by the pair's loss before it and after it
abbrev pub new_loss : Option Loss → Option Loss → Option Loss
new_loss None after = after
new_loss (Some loss) after = None

-- the lines of an event that came to this, from pair p to q, as rows
abbrev pub rows_between : {C : Type 0} → PairView C → Applied → PairView C → List Row
rows_between p answer q =
    event_rows (drop (length p.settled) q.settled) answer (new_loss p.loss q.loss)

-- the rows of an event that came to this in a trace, from pair p to q: none where it did nothing
-- (true), and else its name, what it moved, its own lines, and the phases of both ends after it
abbrev pub traced_unless : {C : Type 0} → Bool → Event → PairView C → Applied → PairView C
    → List Row
traced_unless true e p answer q = []
traced_unless false e p answer q = event_row e ∷ moved_rows p q ++ rows_between p answer q
    ++ phase_rows (client.phase_of q.client) (backend.phase_of q.backend.stage)

-- the lines of an event as rows, in a trace (true) or without one
abbrev pub rows_told : {C : Type 0} → Bool → Event → PairView C → Applied → PairView C → List Row
rows_told false e p answer q = rows_between p answer q
rows_told true e p answer q = traced_unless (is_nothing answer) e p answer q

-- From the pair `begun` the first of all the events have happened, one after the other. They led to
-- this pair; these are still to come, these are their rows, as a trace has them (true) or as a loop
-- without one does, and this says whether one was answered Carrier.
pub data Happened {C : Type 0} (carries : Carrying C) (trace : Bool) (begun : PairView C)
    (all : List PlannedEvent) : PairView C → List PlannedEvent → List Row → Bool → Type 0 where
  nothing : Happened carries trace begun all begun all [] false
  one_more : (p q : PairView C) (d : PlannedEvent) (left : List PlannedEvent) (rows : List Row)
      (failed : Bool) (answer : Applied)
      → Happened carries trace begun all p (d ∷ left) rows failed
      → Applies carries d.event p (Ok answer) q
      → Happened carries trace begun all q
      (left_to_happen (came_to_nothing d.event p answer q) d ++ left)
      (rows ++ rows_told trace d.event p answer q) (failed || is_carrier answer)

-- ---- what is sent

-- The text is the lines of the events that have happened so far.
pub record IsTextSoFar {C : Type 0} (carries : Carrying C) (trace : Bool) (begun : PairView C)
    (all : List PlannedEvent) (text : List ℕ) : Type 0 where
  pub pair : PairView C
  pub left : List PlannedEvent
  pub rows : List Row
  pub failed : Bool
  pub happened : Happened carries trace begun all pair left rows failed
  pub text_is : text ≡ text_lines rows

-- the closing lines of this pair, as rows
abbrev pub ending_of : {C : Type 0} → PairView C → List Row
ending_of p =
    closing_rows p.backend.log (client.phase_of p.client) (backend.phase_of p.backend.stage)

-- All events have happened, and the text is their lines and the closing lines.
pub record IsWholeText {C : Type 0} (carries : Carrying C) (trace : Bool) (begun : PairView C)
    (all : List PlannedEvent) (failed : Bool) (text : List ℕ) : Type 0 where
  pub pair : PairView C
  pub rows : List Row
  pub happened : Happened carries trace begun all pair [] rows failed
  pub text_is : text ≡ text_lines (rows ++ ending_of pair)

-- The text is a prefix of the lines of the events that have happened, or of all with the closing
-- lines, and may end within a line.
abbrev pub IsPartOfText : {C : Type 0} → Carrying C → Bool → PairView C → List PlannedEvent → List ℕ
    → Type 0
IsPartOfText carries trace begun all text = (whole : List ℕ) × IsPrefix text whole
    × (IsTextSoFar carries trace begun all whole
    ⊎ ((failed : Bool) × IsWholeText carries trace begun all failed whole))

-- whether the answer is that the carrier failed
abbrev pub says_carrier_failed : Ran → Bool
says_carrier_failed ran.Whole = false
says_carrier_failed ran.CarrierFailed = true

-- What `run_loop` returns, and `trace_loop` (true), by the text sent. Ok: all lines. Memory: whole lines, up to the event
-- where memory ran out. Device: the sink broke, and a prefix was sent.
abbrev pub LoopAnswers : {C : Type 0} → Type 0 → Carrying C → Bool → PairView C → List PlannedEvent
    → List ℕ → Result Ran ToolFault → Type 0
LoopAnswers broke carries trace begun all text (Ok r) =
    IsWholeText carries trace begun all (says_carrier_failed r) text
LoopAnswers broke carries trace begun all text (Err fault.Memory) =
    IsTextSoFar carries trace begun all text
LoopAnswers broke carries trace begun all text (Err fault.Device) =
    broke × IsPartOfText carries trace begun all text
