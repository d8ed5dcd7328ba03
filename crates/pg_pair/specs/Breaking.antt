-- What a break of a way does to a pair.
use Rattle.std.specs.Prelude.{◌≡◌, Bool, true, false, ◌||◌, Some}
use Rattle.pg_client.specs.declared.phase.Phase.{Phase}
use Rattle.pg_client.specs.declared.phase.Phase.TheVariants as phase
use Rattle.pg_client.specs.declared.settled.Loss.{Loss}
use Rattle.pg_client.specs.View.{phase_of}
use Rattle.pg_client.specs.Keeping.{collecting}
use Rattle.pg_client.specs.Client.{IsLost}
use Rattle.pg_backend.specs.declared.phase.BackPhase.{BackPhase}
use Rattle.pg_backend.specs.declared.phase.BackPhase.TheVariants as back
use Rattle.pg_backend.specs.Backend.{lost_stage}
use Rattle.pg_backend.specs.Backend as backend
use Rattle.pg_pair.specs.declared.carry.Way.{Way}
use Rattle.pg_pair.specs.declared.carry.Way.TheVariants.{ToBackend, ToClient}
use Rattle.pg_pair.specs.declared.event.Applied.{Applied}
use Rattle.pg_pair.specs.declared.event.Applied.TheVariants as applied
use Rattle.pg_pair.specs.View.{DoesNothing, PairView, WayState, way_state}

-- whether a backend in this phase is closed
abbrev pub is_closed_backend : BackPhase → Bool
is_closed_backend back.Closed = true
is_closed_backend _ = false

-- whether a client in this phase is closed
abbrev pub is_closed_client : Phase → Bool
is_closed_client (phase.Closed c) = true
is_closed_client _ = false

-- whether the receiving end of this way is closed
abbrev pub is_closed : {C : Type 0} → Way → PairView C → Bool
is_closed ToBackend p = is_closed_backend (backend.phase_of p.backend.stage)
is_closed ToClient p = is_closed_client (phase_of p.client)

-- whether nothing can arrive along this way any more: it is broken, or its receiving end is closed
abbrev pub is_shut : {C : Type 0} → Way → PairView C → Bool
is_shut w p = (way_state w p).broken || is_closed w p

-- this way, broken
abbrev pub broken : WayState → WayState
broken s = record s { broken = true }

-- The way to the client breaks. An open client (false) is closed by `lost`, and the pair keeps what
-- that returned; a closed one (true) doesn't change.
abbrev pub BreaksToClient : {C : Type 0} → Bool → PairView C → PairView C → Type 0
BreaksToClient true p q = q ≡ record p { to_client = broken p.to_client }
BreaksToClient false p q = (loss : Loss) × IsLost collecting p.client loss q.client
    × (q ≡ record p { client = q.client; to_client = broken p.to_client; loss = Some loss })

-- A way breaks, and its receiving end is closed by `lost`, unless it was closed before.
abbrev pub Breaks : {C : Type 0} → Way → PairView C → PairView C → Type 0
Breaks ToBackend p q = q ≡ record p {
  backend = record p.backend { stage = lost_stage p.backend.stage };
  to_backend = broken p.to_backend;
}
Breaks ToClient p q = BreaksToClient (is_closed ToClient p) p q

-- A break event: the way breaks, and it comes to Done. Where the way is shut (true) nothing
-- happens.
abbrev pub BreaksUnless : {C : Type 0} → Bool → Way → PairView C → Applied → PairView C → Type 0
BreaksUnless true w p result q = DoesNothing p result q
BreaksUnless false w p result q = (result ≡ applied.Done) × Breaks w p q

-- After a piece: the way breaks where the carrier failed or gave other bytes (true); else the pair
-- is as it was.
abbrev pub BreaksIf : {C : Type 0} → Bool → Way → PairView C → PairView C → Type 0
BreaksIf false w p q = q ≡ p
BreaksIf true w p q = Breaks w p q

-- Both ways break as by break events, the one to the backend first.
pub record BreaksBoth {C : Type 0} (p q : PairView C) : Type 0 where
  pub between : PairView C
  pub first_result : Applied
  pub first : BreaksUnless (is_shut ToBackend p) ToBackend p first_result between
  pub second_result : Applied
  pub second : BreaksUnless (is_shut ToClient between) ToClient between second_result q
