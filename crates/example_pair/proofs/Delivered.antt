-- What a delivery moved, counted by what had reached the end before and after it.
use Rattle.std.proofs.Common.{◌≡◌, ◌≤◌, ◌+◌, ◌-◌, ℕ, Result, Ok, Err, length, take, ap, subst, arith}
use Rattle.pg_pair.specs.declared.carry.Way.{Way}
use Rattle.pg_pair.specs.declared.carry.Way.TheVariants.{ToBackend, ToClient}
use Rattle.pg_pair.specs.declared.event.Applied.{Applied}
use Rattle.pg_pair.specs.declared.event.Event.{Event}
use Rattle.pg_pair.specs.declared.event.PairFault.{PairFault}
use Rattle.pg_pair.specs.declared.event.PairFault.TheVariants as fault
use Rattle.pg_pair.specs.Event.{Applies}
use Rattle.pg_pair.specs.Carrying.{Carrying}
use Rattle.pg_pair.specs.Laws.{delivery_of, DeliveryMoves, Delivers, LeavesOther}
use Rattle.pg_pair.specs.View.{PairView, WayState, way_state, waiting_at}

-- a delivery isn't dropped
happens : {C : Type 0} (carries : Carrying C) (w : Way) (most : ℕ) (p : PairView C) (result : Result Applied PairFault) (q : PairView C) → DeliveryMoves carries → Applies carries (delivery_of w most) p result q
    → (a : Applied) × Delivers carries w most p a q
happens carries w most p (Ok a) q law h = (a, law w most p a q h)
happens carries ToBackend most p (Err fault.Memory) q law h = absurd h.0
happens carries ToClient most p (Err fault.Memory) q law h = absurd h.0

-- So many bytes moved.
pub record HasMoved {C : Type 0} (w : Way) (most : ℕ) (p : PairView C) (before after : ℕ) (q : PairView C) : Type 0 where
  pub grows : before ≤ after
  pub asked : after - before ≤ most
  pub waited : after - before ≤ length (waiting_at w p)
  pub reached : (way_state w q).reached ≡ (way_state w p).reached + (after - before)
  pub other : LeavesOther w p (take (after - before) (waiting_at w p)) q

pub has_moved : {C : Type 0} (carries : Carrying C) (w : Way) (e : Event) (most : ℕ) (p : PairView C) (result : Result Applied PairFault) (q : PairView C) (before after : ℕ) → DeliveryMoves carries → e ≡ delivery_of w most
    → Applies carries e p result q → before ≡ (way_state w p).reached → after ≡ (way_state w q).reached → HasMoved w most p before after q
has_moved carries w e most p result q before after law is h was now =
    let d : Delivers carries w most p (happens carries w most p result q law (subst (λ (x : Event). Applies carries x p result q) is h)).0 q =
    (happens carries w most p result q law (subst (λ (x : Event). Applies carries x p result q) is h)).1 in
    let moved : ℕ = d.moved in
    let way : (way_state w q).reached ≡ (way_state w p).reached + moved = ap (λ (s : WayState). s.reached) d.way in
    let all : moved ≡ after - before = omega arith in
    let asked : moved ≤ most = d.asked in
    let waited : moved ≤ length (waiting_at w p) = d.waited in
    record {
      grows = omega arith;
      asked = omega arith;
      waited = omega arith;
      reached = omega arith;
      other = subst (λ n. LeavesOther w p (take n (waiting_at w p)) q) all d.other;
    }
