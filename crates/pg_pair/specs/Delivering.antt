-- What a delivery does to a pair: it goes in pieces, which a carrier carries.
use Rattle.std.specs.Prelude.{◌≡◌, ℕ, zero, suc, ◌+◌, ◌-◌, ◌<◌, ◌⊎◌, Bool, true, false, List, [], ◌∷◌, ◌++◌, length, take, Option, Some, None, Result, Ok, Err}
use Rattle.pg_client.specs.declared.fault.FeedFault.{FeedFault}
use Rattle.pg_client.specs.View.{ClientView, groups_waiting, with_groups}
use Rattle.pg_client.specs.Keeping.{collecting}
use Rattle.pg_client.specs.Client.{Feeds}
use Rattle.pg_backend.specs.declared.fault.BackendFault.{BackendFault}
use Rattle.pg_backend.specs.Backend.{BackendState, Stores}
use Rattle.pg_backend.specs.History as back
use Rattle.pg_pair.specs.declared.carry.CarryFault.{CarryFault}
use Rattle.pg_pair.specs.declared.carry.Way.{Way}
use Rattle.pg_pair.specs.declared.carry.Way.TheVariants.{ToBackend, ToClient}
use Rattle.pg_pair.specs.declared.event.Applied.{Applied}
use Rattle.pg_pair.specs.declared.event.Applied.TheVariants as applied
use Rattle.pg_pair.specs.Breaking.{BreaksIf}
use Rattle.pg_pair.specs.Carrying.{Carrying, delivered, is_bad, longest_piece}
use Rattle.pg_pair.specs.View.{DoesNothing, PairView, WayState, waiting_at}

-- The carrier is lent the next piece: the first bytes that wait on this way, at least one, and at
-- most `most` and 4,096. `came` is what arrived or the fault, and `carrier` the carrier after it.
pub record CarriesPiece {C : Type 0} (carries : Carrying C) (w : Way) (most : ℕ) (p : PairView C)
    (piece : List ℕ) (came : Result (List ℕ) CarryFault) (carrier : C) : Type 0 where
  pub piece_is : piece ≡ take longest_piece (take most (waiting_at w p))
  pub some : 0 < length piece
  pub carried : carries p.carrier w piece came carrier

-- ---- at the ends

-- the way after these bytes more have reached its receiving end
abbrev pub reached_more : WayState → List ℕ → WayState
reached_more s bytes = record s { reached = s.reached + length bytes }

-- Bytes reach the client, and its `feed` returns this: what it puts out is sent to the backend, and
-- the groups that it has settled go to the pair.
pub record Feeding {C : Type 0} (p : PairView C) (bytes : List ℕ)
    (result : Result Unit FeedFault) (q : PairView C) : Type 0 where
  pub fed : ClientView
  pub feeds : Feeds collecting p.client bytes result fed p.to_backend.sent q.to_backend.sent
  pub rest : q ≡ record p {
    client = with_groups fed [];
    to_backend = record p.to_backend { sent = q.to_backend.sent };
    to_client = reached_more p.to_client bytes;
    settled = p.settled ++ groups_waiting fed;
  }

-- The backend's `push` has stored the bytes. Nothing of them is handled before a step.
pub record IsStored (old : BackendState) (bytes : List ℕ) (new : BackendState) : Type 0 where
  pub stores : Stores old bytes (Ok record {}) new
  pub history : back.Carries old new (back.with_pushed bytes)

-- Bytes are pushed to the backend. Where `push` returns a fault nothing changes: they haven't
-- reached the backend and are still on their way.
abbrev pub Pushing : {C : Type 0}
    → PairView C → List ℕ → Result Unit BackendFault → PairView C → Type 0
Pushing p bytes (Ok x) q = IsStored p.backend bytes q.backend
    × (q ≡ record p { backend = q.backend; to_backend = reached_more p.to_backend bytes })
Pushing p bytes (Err f) q = Stores p.backend bytes (Err f) p.backend × (q ≡ p)

-- what `feed` returned, as what the event comes to: None, or the client's fault
abbrev pub client_answer : Result Unit FeedFault → Option Applied
client_answer (Ok x) = None
client_answer (Err f) = Some (applied.Client f)

-- what `push` returned, as what the event comes to: None, or the backend's fault
abbrev pub backend_answer : Result Unit BackendFault → Option Applied
backend_answer (Ok x) = None
backend_answer (Err f) = Some (applied.Backend f)

-- Bytes arrive at the receiving end of this way, and `answer` is the fault that the end returns, if
-- it returns one. Without bytes the end isn't called.
abbrev pub ArrivesAt : {C : Type 0}
    → Way → PairView C → List ℕ → Option Applied → PairView C → Type 0
ArrivesAt w p [] answer q = (answer ≡ None) × (q ≡ p)
ArrivesAt ToBackend p (b ∷ bytes) answer q = (result : Result Unit BackendFault)
    × Pushing p (b ∷ bytes) result q × (answer ≡ backend_answer result)
ArrivesAt ToClient p (b ∷ bytes) answer q = (result : Result Unit FeedFault)
    × Feeding p (b ∷ bytes) result q × (answer ≡ client_answer result)

-- ---- piece by piece

-- From the pair `p` pieces of n bytes in all were delivered, one after the other. Each arrived
-- whole and unchanged, and the end returned no fault.
pub data DeliversPieces {C : Type 0} (carries : Carrying C) (w : Way) (most : ℕ)
    (p : PairView C) : ℕ → PairView C → Type 0 where
  no_piece : DeliversPieces carries w most p 0 p
  one_more_piece : (n : ℕ) (m : PairView C) (piece : List ℕ)
      (came : Result (List ℕ) CarryFault) (carrier : C) (q : PairView C)
      → DeliversPieces carries w most p n m → CarriesPiece carries w (most - n) m piece came carrier
      → delivered piece came ≡ piece → is_bad piece came ≡ false
      → ArrivesAt w (record m { carrier = carrier }) piece None q
      → DeliversPieces carries w most p (n + length piece) q

-- what a delivery that moved so many bytes comes to: the fault of the receiving end; else Carrier
-- where the carrier was bad; else Nothing for no byte, and Done
abbrev pub delivery_applied : Option Applied → Bool → ℕ → Applied
delivery_applied (Some a) bad moved = a
delivery_applied None true moved = applied.Carrier
delivery_applied None false zero = applied.Nothing
delivery_applied None false (suc n) = applied.Done

-- The delivery ends here, as n bytes are all that was asked for, or nothing waits any more.
pub record EndsWithoutPiece {C : Type 0} (w : Way) (most n : ℕ)
    (m : PairView C) (result : Applied) (q : PairView C) : Type 0 where
  pub all : (n ≡ most) ⊎ (waiting_at w m ≡ [])
  pub result_is : result ≡ delivery_applied None false n
  pub same : q ≡ m

-- After n bytes the delivery ends with this piece: the carrier failed, fewer or other bytes
-- arrived, or the end returned a fault to it. The bytes before a changed one are still delivered.
pub record EndsWithPiece {C : Type 0} (carries : Carrying C) (w : Way) (most n : ℕ)
    (m : PairView C) (result : Applied) (q : PairView C) : Type 0 where
  pub piece : List ℕ
  pub came : Result (List ℕ) CarryFault
  pub carrier : C
  pub carries_piece : CarriesPiece carries w (most - n) m piece came carrier
  pub answer : Option Applied
  pub taken : PairView C
  pub takes_in : ArrivesAt w (record m { carrier = carrier }) (delivered piece came) answer taken
  pub last : delivered piece came ≡ piece → answer ≡ None → is_bad piece came ≡ false → ⊥
  pub breaks : BreaksIf (is_bad piece came) w taken q
  pub result_is : result
      ≡ delivery_applied answer (is_bad piece came) (n + length (delivered piece came))

-- A delivery of at most `most` bytes: pieces that go whole, and then its end. Along a way that is
-- shut (true) nothing happens.
abbrev pub DeliversUnless : {C : Type 0}
    → Bool → Carrying C → Way → ℕ → PairView C → Applied → PairView C → Type 0
DeliversUnless true carries w most p result q = DoesNothing p result q
DeliversUnless {C} false carries w most p result q = (n : ℕ) × (m : PairView C)
    × DeliversPieces carries w most p n m
    × (EndsWithoutPiece w most n m result q ⊎ EndsWithPiece carries w most n m result q)
