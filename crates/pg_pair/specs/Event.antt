-- What each event does to a pair, and what a list of events does.
use Rattle.std.specs.Prelude.{◌≡◌, ◌⊎◌, List, [], ◌∷◌, Result, Ok, Err}
use Rattle.pg_backend.specs.Backend as backend
use Rattle.pg_pair.specs.declared.carry.Way.TheVariants.{ToBackend, ToClient}
use Rattle.pg_pair.specs.declared.event.Applied.{Applied}
use Rattle.pg_pair.specs.declared.event.Event.{Event}
use Rattle.pg_pair.specs.declared.event.Event.TheVariants as event
use Rattle.pg_pair.specs.declared.event.PairFault.{PairFault}
use Rattle.pg_pair.specs.declared.event.PairFault.TheVariants as fault
use Rattle.pg_pair.specs.Breaking.{BreaksBoth, BreaksUnless, is_shut}
use Rattle.pg_pair.specs.Calling.{CallsClient}
use Rattle.pg_pair.specs.Carrying.{Carrying}
use Rattle.pg_pair.specs.Delivering.{DeliversUnless}
use Rattle.pg_pair.specs.Stepping.{StepsUnlessClosed}
use Rattle.pg_pair.specs.View.{PairView}

-- The event happens to `p`, this is what it comes to, and `q` is the pair after it.
abbrev pub Happens : {C : Type 0}
    → Carrying C → Event → PairView C → Applied → PairView C → Type 0
Happens carries (event.Call c) p result q = CallsClient c p result q
Happens carries event.Step p result q =
    StepsUnlessClosed (backend.phase_of p.backend.stage) p result q
Happens carries (event.ToBackend n) p result q =
    DeliversUnless (is_shut ToBackend p) carries ToBackend n p result q
Happens carries (event.ToClient n) p result q =
    DeliversUnless (is_shut ToClient p) carries ToClient n p result q
Happens carries event.BreakToBackend p result q =
    BreaksUnless (is_shut ToBackend p) ToBackend p result q
Happens carries event.BreakToClient p result q =
    BreaksUnless (is_shut ToClient p) ToClient p result q

-- The events for which P1 Memory may be returned: calls alone. Room for a settled group is made
-- with its request, so the pair itself asks for memory at no other event.
abbrev pub KeepsMore : Event → Type 0
KeepsMore (event.Call c) = Unit {0}
KeepsMore _ = ⊥

-- What `apply` does: the event happens, and what it came to is returned; or it is dropped because
-- memory ran out (P1), and both ways break.
abbrev pub Applies : {C : Type 0}
    → Carrying C → Event → PairView C → Result Applied PairFault → PairView C → Type 0
Applies carries e p (Ok result) q = Happens carries e p result q
Applies carries e p (Err fault.Memory) q = KeepsMore e × BreaksBoth p q

-- What `run` does: the events are applied in order, up to the first for which memory ran out. That
-- one is dropped, and its fault returned.
abbrev pub Ran : {C : Type 0}
    → Carrying C → List Event → PairView C → Result Unit PairFault → PairView C → Type 0
Ran carries [] p (Ok x) q = q ≡ p
Ran carries [] p (Err f) q = ⊥
Ran {C} carries (e ∷ es) p result q =
    ((f : PairFault) × Applies carries e p (Err f) q × (result ≡ Err f))
    ⊎ ((a : Applied) × (m : PairView C) × Applies carries e p (Ok a) m × Ran carries es m result q)
