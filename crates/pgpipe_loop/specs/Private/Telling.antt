-- What is told of an event, by how far the pair had come before it.
use Rattle.std.specs.Prelude.{ℕ, ◌-◌, Bool, true, false, cond, List, [], ◌∷◌, ◌++◌, length, drop, None, is_some}
use Rattle.pg_copy.specs.Row.{Row}
use Rattle.pg_client.specs.View as client
use Rattle.pg_backend.specs.Backend as backend
use Rattle.pg_pair.specs.declared.carry.Way.TheVariants.{ToBackend, ToClient}
use Rattle.pg_pair.specs.declared.event.Applied.{Applied}
use Rattle.pg_pair.specs.declared.event.Event.{Event}
use Rattle.pg_pair.specs.View.{PairView, WayState}
use Rattle.pgpipe_loop.specs.Lines.{event_rows, phase_rows, text_lines}
use Rattle.pgpipe_loop.specs.RunLoop.{is_nothing}
use Rattle.pgpipe_loop.specs.Trace.{event_row, reached_rows, sent_since}
use Rattle.pgpipe_loop.specs.declared.run_loop.telling.Before.{Before}
use Rattle.pgpipe_loop.specs.declared.run_loop.telling.Extent.{Extent}

-- how much of a way was sent and has reached its end
abbrev pub extent_of : WayState → Extent
extent_of w = record { sent = length w.sent; reached = w.reached }

-- how far a pair has come
abbrev pub before_of : {C : Type 0} → PairView C → Before
before_of p = record {
  settled = length p.settled;
  lost = is_some p.loss;
  to_backend = extent_of p.to_backend;
  to_client = extent_of p.to_client;
}

-- the row that names an event in a trace (true)
abbrev pub named_rows : Bool → Event → List Row
named_rows false e = []
named_rows true e = event_row e ∷ []

-- the rows of what an event came to
abbrev pub rows_since : {C : Type 0} → Before → Applied → PairView C → List Row
rows_since before answer q =
    event_rows (drop before.settled q.settled) answer (cond before.lost None q.loss)

-- the rows of what an event moved
abbrev pub moved_since : {C : Type 0} → Before → PairView C → List Row
moved_since before q = reached_rows ToBackend (q.to_backend.reached - before.to_backend.reached)
    ++ reached_rows ToClient (q.to_client.reached - before.to_client.reached)
    ++ sent_since ToBackend before.to_backend.sent q.to_backend.sent
    ++ sent_since ToClient before.to_client.sent q.to_client.sent

-- the text of an event that was named so in a trace, by whether it did nothing (true)
abbrev pub traced_since : {C : Type 0} → Bool → Before → List ℕ → Applied → PairView C → List ℕ
traced_since true before named answer q = []
traced_since false before named answer q = ((named ++ text_lines (moved_since before q))
    ++ text_lines (rows_since before answer q))
    ++ text_lines (phase_rows (client.phase_of q.client) (backend.phase_of q.backend.stage))

-- the text of an event, in a trace (true) or without one
abbrev pub text_since : {C : Type 0} → Bool → Before → List ℕ → Applied → PairView C → List ℕ
text_since false before named answer q = text_lines (rows_since before answer q)
text_since true before named answer q = traced_since (is_nothing answer) before named answer q
