-- What a delivery moves, and what breaks a way: laws of what events do.
use Rattle.std.specs.Prelude.{◌≡◌, ◌≤◌, ℕ, ◌+◌, min, ◌⊎◌, Bool, true, false, List, [], ◌++◌, length, take, None, Result, Ok, Err}
use Rattle.pg_client.specs.declared.fault.FeedFault.{FeedFault}
use Rattle.pg_client.specs.View.{ClientView, with_groups}
use Rattle.pg_client.specs.Keeping.{collecting}
use Rattle.pg_client.specs.Client.{Feeds}
use Rattle.pg_pair.specs.declared.carry.CarryFault.{CarryFault}
use Rattle.pg_pair.specs.declared.carry.Way.{Way}
use Rattle.pg_pair.specs.declared.carry.Way.TheVariants.{ToBackend, ToClient}
use Rattle.pg_pair.specs.declared.event.Applied.{Applied}
use Rattle.pg_pair.specs.declared.event.Applied.TheVariants as applied
use Rattle.pg_pair.specs.declared.event.Event.{Event}
use Rattle.pg_pair.specs.declared.event.Event.TheVariants as event
use Rattle.pg_pair.specs.declared.event.PairFault.{PairFault}
use Rattle.pg_pair.specs.declared.event.PairFault.TheVariants as fault
use Rattle.pg_pair.specs.Breaking.{is_shut}
use Rattle.pg_pair.specs.Delivering.{delivery_applied, EndsWithPiece, DeliversPieces}
use Rattle.pg_pair.specs.Event.{Applies}
use Rattle.pg_pair.specs.Carrying.{Carrying, is_bad}
use Rattle.pg_pair.specs.View.{DoesNothing, PairView, way_state, waiting_at}

-- the event that delivers at most so many bytes along a way
abbrev pub delivery_of : Way → ℕ → Event
delivery_of ToBackend most = event.ToBackend most
delivery_of ToClient most = event.ToClient most

-- the event that breaks a way
abbrev pub break_of : Way → Event
break_of ToBackend = event.BreakToBackend
break_of ToClient = event.BreakToClient

-- ---- the other way

-- From the state `old`, with `before` sent, the client was fed these bytes in pieces, and its
-- settled groups were taken after each. The last list is all that was sent by then.
pub data IsFedOn (old : ClientView) (before : List ℕ)
    : List ℕ → ClientView → List ℕ → Type 0 where
  unfed : IsFedOn old before [] old before
  fed_on : (bytes : List ℕ) (client : ClientView) (sent piece : List ℕ)
      (result : Result Unit FeedFault) (fed : ClientView) (after : List ℕ)
      → IsFedOn old before bytes client sent → Feeds collecting client piece result fed sent after
      → IsFedOn old before (bytes ++ piece) (with_groups fed []) after

-- The client was fed these bytes and became `client`. What it put out as it was fed comes after
-- what was sent to the backend; that way is otherwise as it was.
pub record PutsOut {C : Type 0}
    (p : PairView C) (bytes : List ℕ) (client : ClientView) (q : PairView C) : Type 0 where
  pub put : List ℕ
  pub grown : q.to_backend ≡ record p.to_backend { sent = p.to_backend.sent ++ put }
  pub fed : IsFedOn p.client p.to_backend.sent bytes client q.to_backend.sent

-- What becomes of the other way where these bytes were delivered along this one: the way to the
-- client stays as it was, and the way to the backend grows by what the client puts out.
abbrev pub LeavesOther : {C : Type 0} → Way → PairView C → List ℕ → PairView C → Type 0
LeavesOther ToBackend p bytes q = q.to_client ≡ p.to_client
LeavesOther ToClient p bytes q = (client : ClientView) × PutsOut p bytes client q

-- ---- what moves

-- The lesser of what was asked for and what waited has moved, and the way isn't broken.
pub record MovesAll {C : Type 0} (w : Way) (most : ℕ)
    (p : PairView C) (moved : ℕ) (result : Applied) (q : PairView C) : Type 0 where
  pub lesser : moved ≡ min most (length (waiting_at w p))
  pub result_is : result ≡ delivery_applied None false moved
  pub whole : (way_state w q).broken ≡ false

-- The delivery ended with a piece that didn't go whole: the carrier failed, gave fewer or other
-- bytes, or the end returned a fault.
pub record FallsShort {C : Type 0} (carries : Carrying C)
    (w : Way) (most : ℕ) (p : PairView C) (result : Applied) (q : PairView C) : Type 0 where
  pub before : ℕ
  pub between : PairView C
  pub goes : DeliversPieces carries w most p before between
  pub ends : EndsWithPiece carries w most before between result q

-- How a delivery ends: along a shut way (true) nothing happens; else all that could move has moved,
-- or a piece fell short.
abbrev pub MovesUnless : {C : Type 0}
    → Bool → Carrying C → Way → ℕ → PairView C → ℕ → Applied → PairView C → Type 0
MovesUnless true carries w most p moved result q = DoesNothing p result q
MovesUnless false carries w most p moved result q =
    MovesAll w most p moved result q ⊎ FallsShort carries w most p result q

-- A delivery of at most `most` bytes along `w` moved `moved` bytes: no more than was asked for, no
-- more than waited. `other` says what it did to the other way, `ends` why it moved no more.
pub record Delivers {C : Type 0} (carries : Carrying C)
    (w : Way) (most : ℕ) (p : PairView C) (result : Applied) (q : PairView C) : Type 0 where
  pub moved : ℕ
  pub way : way_state w q ≡ record (way_state w p) {
    reached = (way_state w p).reached + moved;
    broken = (way_state w q).broken;
  }
  pub asked : moved ≤ most
  pub waited : moved ≤ length (waiting_at w p)
  pub other : LeavesOther w p (take moved (waiting_at w p)) q
  pub ends : MovesUnless (is_shut w p) carries w most p moved result q

-- Law: each delivery for which memory doesn't run out does what Delivers says.
abbrev pub DeliveryMoves : {C : Type 0} → Carrying C → Type 0
DeliveryMoves {C} carries =
    (w : Way) (most : ℕ) (p : PairView C) (result : Applied) (q : PairView C)
    → Applies carries (delivery_of w most) p (Ok result) q → Delivers carries w most p result q

-- By this relation a carrier never fails, and each piece arrives whole and unchanged.
abbrev pub GivesWhole : {C : Type 0} → Carrying C → Type 0
GivesWhole {C} carries =
    (old : C) (w : Way) (piece : List ℕ) (came : Result (List ℕ) CarryFault) (new : C)
    → carries old w piece came new → came ≡ Ok piece

-- Law: with a carrier that gives each piece whole, a delivery that returns Done or Nothing, along a
-- way that isn't shut, moves the lesser of what was asked for and what waited.
abbrev pub WholeMoves : {C : Type 0} → Carrying C → Type 0
WholeMoves {C} carries = GivesWhole carries
    → (w : Way) (most : ℕ) (p : PairView C) (result : Applied) (q : PairView C)
    → Applies carries (delivery_of w most) p (Ok result) q → is_shut w p ≡ false
    → (result ≡ applied.Done) ⊎ (result ≡ applied.Nothing)
    → (way_state w q).reached ≡ (way_state w p).reached + min most (length (waiting_at w p))

-- ---- what breaks a way

-- The carrier's last call failed, or a byte arrived by it that isn't the one sent.
pub record CarriedBadly {C : Type 0}
    (carries : Carrying C) (w : Way) (carrier : C) : Type 0 where
  pub before : C
  pub piece : List ℕ
  pub came : Result (List ℕ) CarryFault
  pub carried : carries before w piece came carrier
  pub bad : is_bad piece came ≡ true

-- Why an event has broken a way: it is the break event of this way, a delivery along it in which
-- the carrier failed or gave other bytes, or P1 Memory was returned.
pub data WhyBroken {C : Type 0} (carries : Carrying C)
    (w : Way) (e : Event) (result : Result Applied PairFault) (q : PairView C) : Type 0 where
  break_event : e ≡ break_of w → WhyBroken carries w e result q
  bad_carrier : (most : ℕ) → e ≡ delivery_of w most → CarriedBadly carries w q.carrier
      → WhyBroken carries w e result q
  no_memory : result ≡ Err fault.Memory → WhyBroken carries w e result q

-- An event breaks a way for no reason but those of WhyBroken, and a broken way stays broken.
pub record BreaksOnly {C : Type 0} (carries : Carrying C) (e : Event)
    (p : PairView C) (result : Result Applied PairFault) (q : PairView C) : Type 0 where
  pub why : (w : Way) → (way_state w p).broken ≡ false → (way_state w q).broken ≡ true
      → WhyBroken carries w e result q
  pub stays : (w : Way) → (way_state w p).broken ≡ true → (way_state w q).broken ≡ true

-- Law: BreaksOnly holds of each event.
abbrev pub WaysBreak : {C : Type 0} → Carrying C → Type 0
WaysBreak {C} carries =
    (e : Event) (p : PairView C) (result : Result Applied PairFault) (q : PairView C)
    → Applies carries e p result q → BreaksOnly carries e p result q
