-- A pair as its callers see it.
use Rattle.std.specs.Prelude.{◌≡◌, ℕ, Bool, List, take, drop, Option}
use Rattle.pg_client.specs.declared.settled.Settled.{Settled}
use Rattle.pg_client.specs.declared.settled.Loss.{Loss}
use Rattle.pg_client.specs.View.{ClientView}
use Rattle.pg_backend.specs.Backend.{BackendState}
use Rattle.pg_pair.specs.declared.carry.Way.{Way}
use Rattle.pg_pair.specs.declared.carry.Way.TheVariants.{ToBackend, ToClient}
use Rattle.pg_pair.specs.declared.event.Applied.{Applied}
use Rattle.pg_pair.specs.declared.event.Applied.TheVariants as applied

-- one way, that is one direction of the connection: all bytes that the sending end has put out, how
-- many of them have reached the other end, and whether the way is broken
pub record WayState : Type 0 where
  pub sent : List ℕ
  pub reached : ℕ
  pub broken : Bool

-- the bytes that have reached the receiving end
abbrev pub arrived : WayState → List ℕ
arrived s = take s.reached s.sent

-- the bytes that were sent and haven't reached the receiving end
abbrev pub waiting : WayState → List ℕ
waiting s = drop s.reached s.sent

-- a client, a backend, the carrier of their bytes and the two ways between them, and what the pair
-- keeps of the session
pub record PairView (C : Type 0) : Type 0 where
  pub client : ClientView
  pub backend : BackendState
  pub carrier : C
  pub to_backend : WayState
  pub to_client : WayState
  -- for each call that the client has accepted, in order, how many bytes had reached the client
  -- before it
  pub fed_before : List ℕ
  -- the groups that the client has settled, in order
  pub settled : List Settled
  -- for each request that the client made, the chunks that its caller handed over for its copies
  pub handed : List (List (List ℕ))
  -- what the client's `lost` returned when the way to it broke; None before that, and where the
  -- client was closed already
  pub loss : Option Loss

-- the way to the backend, or the way to the client
abbrev pub way_state : {C : Type 0} → Way → PairView C → WayState
way_state ToBackend p = p.to_backend
way_state ToClient p = p.to_client

-- the bytes of this way that haven't reached its receiving end
abbrev pub waiting_at : {C : Type 0} → Way → PairView C → List ℕ
waiting_at w p = waiting (way_state w p)

-- An event did nothing: it comes to Nothing, and the pair is as it was.
abbrev pub DoesNothing : {C : Type 0} → PairView C → Applied → PairView C → Type 0
DoesNothing p result q = (result ≡ applied.Nothing) × (q ≡ p)
