-- Events that are passed on.
use Rattle.std.specs.Prelude.{Result, Ok, Err}
use Rattle.pg_pair.specs.declared.event.Applied.{Applied}
use Rattle.pg_pair.specs.declared.event.Event.{Event}
use Rattle.pg_pair.specs.declared.event.PairFault.{PairFault}
use Rattle.pg_pair.specs.Carrying.{Carrying}
use Rattle.pg_pair.specs.Event.{Applies}
use Rattle.pg_pair.specs.View.{PairView}

-- Something came of the event, or it was dropped.
abbrev pub Passes : {C : Type 0}
    → Carrying C → Event → PairView C → Result Unit PairFault → PairView C → Type 0
Passes carries e p (Ok x) q = (a : Applied) × Applies carries e p (Ok a) q
Passes carries e p (Err f) q = Applies carries e p (Err f) q
