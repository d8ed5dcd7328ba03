-- The two ways, event by event: whether they are broken, and what a break changes.
use Rattle.std.proofs.Common.{◌≡◌, ℕ, Bool, true, false, List, [], ◌∷◌, Option, None, Result, Ok, Err, refl, ap, sym, subst, ◌∙◌, ◌⊎◌, inl, inr}
use Rattle.pg_backend.specs.declared.phase.BackPhase.{BackPhase}
use Rattle.pg_backend.specs.declared.phase.BackPhase.TheVariants as back
use Rattle.pg_backend.specs.Backend as backend
use Rattle.pg_pair.specs.declared.carry.Way.{Way}
use Rattle.pg_pair.specs.declared.carry.Way.TheVariants.{ToBackend, ToClient}
use Rattle.pg_pair.specs.declared.event.Applied.{Applied}
use Rattle.pg_pair.specs.declared.event.Applied.TheVariants as applied
use Rattle.pg_client.specs.declared.call.Call.{Call}
use Rattle.pg_pair.specs.declared.event.Event.{Event}
use Rattle.pg_pair.specs.declared.event.Event.TheVariants as event
use Rattle.pg_pair.specs.declared.event.PairFault.{PairFault}
use Rattle.pg_pair.specs.declared.event.PairFault.TheVariants as fault
use Rattle.pg_pair.specs.Breaking.{Breaks, BreaksIf, BreaksUnless, is_closed, is_shut, BreaksToClient}
use Rattle.pg_pair.specs.Calling.{CallsClient}
use Rattle.pg_pair.specs.Delivering.{ArrivesAt, no_piece, DeliversUnless, EndsWithPiece, DeliversPieces, one_more_piece}
use Rattle.pg_pair.specs.Event.{Applies}
use Rattle.pg_pair.specs.Stepping.{StepsUnlessClosed}
use Rattle.pg_pair.specs.Carrying.{Carrying, delivered, is_bad}
use Rattle.pg_pair.specs.Laws.{break_of, break_event, bad_carrier, no_memory, CarriedBadly, delivery_of, WaysBreak, WhyBroken}
use Rattle.pg_pair.specs.View.{PairView, WayState, way_state}

-- A way is broken where it was, and else whole.
abbrev pub IsLike : {C : Type 0} → Way → PairView C → PairView C → Type 0
IsLike w p q = (way_state w q).broken ≡ (way_state w p).broken

pub like_same : {C : Type 0} (w : Way) (p q : PairView C) → q ≡ p → IsLike w p q
like_same {C} w p q e = ap (λ (x : PairView C). (way_state w x).broken) e

-- ---- calls and steps

like_call : {C : Type 0} (w : Way) (c : Call) (p : PairView C) (result : Applied) (q : PairView C) → CallsClient c p result q → IsLike w p q
like_call {C} ToBackend c p applied.Done q h = ap (λ (x : PairView C). x.to_backend.broken) h.rest
like_call {C} ToClient c p applied.Done q h = ap (λ (x : PairView C). x.to_client.broken) h.rest
like_call w c p (applied.Refused request f) q h = like_same w p q h.2
like_call w c p applied.Nothing q h = absurd h
like_call w c p (applied.Client f) q h = absurd h
like_call w c p (applied.Backend f) q h = absurd h
like_call w c p applied.Carrier q h = absurd h

like_step : {C : Type 0} (w : Way) (b : BackPhase) (p : PairView C) (result : Applied) (q : PairView C) → StepsUnlessClosed b p result q → IsLike w p q
like_step w back.Closed p result q h = like_same w p q h.1
like_step {C} ToBackend _ p result q h = ap (λ (x : PairView C). x.to_backend.broken) h.rest
like_step {C} ToClient _ p result q h = ap (λ (x : PairView C). x.to_client.broken) h.rest

-- ---- deliveries

like_taken : {C : Type 0} (v w : Way) (p : PairView C) (bytes : List ℕ) (answer : Option Applied) (q : PairView C) → ArrivesAt v p bytes answer q → IsLike w p q
like_taken v w p [] answer q h = like_same w p q h.1
like_taken {C} ToBackend ToBackend p (b ∷ bytes) answer q (Ok x, h, e) = ap (λ (x : PairView C). x.to_backend.broken) h.1
like_taken {C} ToBackend ToClient p (b ∷ bytes) answer q (Ok x, h, e) = ap (λ (x : PairView C). x.to_client.broken) h.1
like_taken ToBackend w p (b ∷ bytes) answer q (Err f, h, e) = like_same w p q h.1
like_taken {C} ToClient ToBackend p (b ∷ bytes) answer q (result, h, e) = ap (λ (x : PairView C). x.to_backend.broken) h.rest
like_taken {C} ToClient ToClient p (b ∷ bytes) answer q (result, h, e) = ap (λ (x : PairView C). x.to_client.broken) h.rest

-- the carrier alone changes no way
pub stream_carried : {C : Type 0} (w : Way) (p : PairView C) (carrier : C) → way_state w (record p { carrier = carrier }) ≡ way_state w p
stream_carried ToBackend p carrier = refl
stream_carried ToClient p carrier = refl

like_taken_on : {C : Type 0} (v w : Way) (p : PairView C) (carrier : C) (bytes : List ℕ) (answer : Option Applied) (q : PairView C) → ArrivesAt v (record p { carrier = carrier }) bytes answer q → IsLike w p q
like_taken_on v w p carrier bytes answer q h = like_taken v w (record p { carrier = carrier }) bytes answer q h ∙ ap (λ (s : WayState). s.broken) (stream_carried w p carrier)

pub like_gone : {C : Type 0} (carries : Carrying C) (v w : Way) (most : ℕ) (p : PairView C) (n : ℕ) (q : PairView C) → DeliversPieces carries v most p n q → IsLike w p q
like_gone carries v w most p _ _ no_piece = refl
like_gone carries v w most p _ _ (one_more_piece n m piece came carrier q h c whole fine takes) = like_taken_on v w m carrier piece None q takes ∙ like_gone carries v w most p n m h

-- ---- breaks

-- what a break changes: its own way is broken, and the other is as it was
pub record BreaksOne {C : Type 0} (w : Way) (p q : PairView C) : Type 0 where
  pub own : way_state w q ≡ record (way_state w p) { broken = true }
  pub other : (v : Way) → (v ≡ w → ⊥) → way_state v q ≡ way_state v p
  pub carrier : q.carrier ≡ p.carrier

breaks_client : {C : Type 0} (b : Bool) (p q : PairView C) → BreaksToClient b p q → BreaksOne ToClient p q
breaks_client {C} true p q h = record {
  own = ap (λ (x : PairView C). x.to_client) h;
  other = other;
  carrier = ap (λ (x : PairView C). x.carrier) h;
}
  where
    other : (v : Way) → (v ≡ ToClient → ⊥) → way_state v q ≡ way_state v p
    other ToBackend apart = ap (λ (x : PairView C). x.to_backend) h
    other ToClient apart = absurd (apart refl)
breaks_client {C} false p q h = record {
  own = ap (λ (x : PairView C). x.to_client) h.2;
  other = other;
  carrier = ap (λ (x : PairView C). x.carrier) h.2;
}
  where
    other : (v : Way) → (v ≡ ToClient → ⊥) → way_state v q ≡ way_state v p
    other ToBackend apart = ap (λ (x : PairView C). x.to_backend) h.2
    other ToClient apart = absurd (apart refl)

pub breaks_one : {C : Type 0} (w : Way) (p q : PairView C) → Breaks w p q → BreaksOne w p q
breaks_one {C} ToBackend p q h = record {
  own = ap (λ (x : PairView C). x.to_backend) h;
  other = other;
  carrier = ap (λ (x : PairView C). x.carrier) h;
}
  where
    other : (v : Way) → (v ≡ ToBackend → ⊥) → way_state v q ≡ way_state v p
    other ToBackend apart = absurd (apart refl)
    other ToClient apart = ap (λ (x : PairView C). x.to_client) h
breaks_one ToClient p q h = breaks_client (is_closed ToClient p) p q h

pub same_way : (v w : Way) → (v ≡ w) ⊎ (w ≡ v → ⊥)
same_way ToBackend ToBackend = inl refl
same_way ToBackend ToClient = inr (λ e. cc)
same_way ToClient ToBackend = inr (λ e. cc)
same_way ToClient ToClient = inl refl

-- A way is as it was, or is broken now.
abbrev IsLikeOrBroken : {C : Type 0} → Way → Way → PairView C → PairView C → Type 0
IsLikeOrBroken v w p q = IsLike w p q ⊎ ((v ≡ w) × ((way_state w q).broken ≡ true))

by_break : {C : Type 0} (v w : Way) (p q : PairView C) → BreaksOne v p q → IsLikeOrBroken v w p q
by_break v w p q h = elim (same_way v w) [
  | inl e ↦ inr (e, subst (λ (x : Way). (way_state x q).broken ≡ true) e (ap (λ (s : WayState). s.broken) h.own))
  | inr apart ↦ inl (ap (λ (s : WayState). s.broken) (h.other w apart))
]

by_break_event : {C : Type 0} (b : Bool) (v w : Way) (p : PairView C) (result : Applied) (q : PairView C) → BreaksUnless b v p result q → IsLikeOrBroken v w p q
by_break_event true v w p result q h = inl (like_same w p q h.1)
by_break_event false v w p result q h = by_break v w p q (breaks_one v p q h.1)

-- ---- events

-- A way is as it was, or it is broken now, for a reason.
abbrev Keeps : {C : Type 0} → Carrying C → Event → PairView C → Result Applied PairFault → PairView C → Way → Type 0
Keeps carries e p result q w = IsLike w p q ⊎ (((way_state w q).broken ≡ true) × WhyBroken carries w e result q)

keeps_broken : {C : Type 0} (carries : Carrying C) (v w : Way) (e : Event) (p : PairView C) (result : Result Applied PairFault) (q : PairView C) → e ≡ break_of v → IsLikeOrBroken v w p q → Keeps carries e p result q w
keeps_broken carries v w e p result q is (inl same) = inl same
keeps_broken carries v w e p result q is (inr h) = inr (h.1, break_event (is ∙ ap break_of h.0))

keeps_both : {C : Type 0} (carries : Carrying C) (w : Way) (e : Event) (p m q : PairView C) → IsLikeOrBroken ToBackend w p m → IsLikeOrBroken ToClient w m q → Keeps carries e p (Err fault.Memory) q w
keeps_both carries w e p m q first (inr k) = inr (k.1, no_memory refl)
keeps_both carries w e p m q (inl first) (inl second) = inl (second ∙ first)
keeps_both carries w e p m q (inr k) (inl second) = inr (second ∙ k.1, no_memory refl)

carrier_taken : {C : Type 0} (v : Way) (p : PairView C) (bytes : List ℕ) (answer : Option Applied) (q : PairView C) → ArrivesAt v p bytes answer q → q.carrier ≡ p.carrier
carrier_taken {C} v p [] answer q h = ap (λ (x : PairView C). x.carrier) h.1
carrier_taken {C} ToBackend p (b ∷ bytes) answer q (Ok x, h, e) = ap (λ (x : PairView C). x.carrier) h.1
carrier_taken {C} ToBackend p (b ∷ bytes) answer q (Err f, h, e) = ap (λ (x : PairView C). x.carrier) h.1
carrier_taken {C} ToClient p (b ∷ bytes) answer q (result, h, e) = ap (λ (x : PairView C). x.carrier) h.rest

keeps_ended : {C : Type 0} (carries : Carrying C) (b : Bool) (v w : Way) (most n : ℕ) (p m : PairView C) (result : Applied) (q : PairView C) (h : EndsWithPiece carries v most n m result q)
    → is_bad h.piece h.came ≡ b → BreaksIf b v h.taken q → IsLike w p h.taken → Keeps carries (delivery_of v most) p (Ok result) q w
keeps_ended carries false v w most n p m result q h bad breaks same = inl (like_same w h.taken q breaks ∙ same)
keeps_ended carries true v w most n p m result q h bad breaks same = by_way (by_break v w h.taken q one)
  where
    one : BreaksOne v h.taken q
    one = breaks_one v h.taken q breaks

    badly : CarriedBadly carries v q.carrier
    badly = record {
      before = m.carrier;
      piece = h.piece;
      came = h.came;
      carried = subst (λ c. carries m.carrier v h.piece h.came c) (sym (one.carrier ∙ carrier_taken v (record m { carrier = h.carrier }) (delivered h.piece h.came) h.answer h.taken h.takes_in)) h.carries_piece.carried;
      bad = bad;
    }

    by_way : IsLikeOrBroken v w h.taken q → Keeps carries (delivery_of v most) p (Ok result) q w
    by_way (inl like) = inl (like ∙ same)
    by_way (inr k) = inr (k.1, bad_carrier most (ap (λ (x : Way). delivery_of x most) k.0) (subst (λ (x : Way). CarriedBadly carries x q.carrier) k.0 badly))

keeps_delivered : {C : Type 0} (carries : Carrying C) (b : Bool) (v w : Way) (most : ℕ) (p : PairView C) (result : Applied) (q : PairView C)
    → DeliversUnless b carries v most p result q → Keeps carries (delivery_of v most) p (Ok result) q w
keeps_delivered carries true v w most p result q h = inl (like_same w p q h.1)
keeps_delivered carries false v w most p result q (n, m, goes, inl h) = inl (like_same w m q h.same ∙ like_gone carries v w most p n m goes)
keeps_delivered carries false v w most p result q (n, m, goes, inr h) =
    keeps_ended carries (is_bad h.piece h.came) v w most n p m result q h refl h.breaks
    (like_taken_on v w m h.carrier (delivered h.piece h.came) h.answer h.taken h.takes_in ∙ like_gone carries v w most p n m goes)

keeps : {C : Type 0} (carries : Carrying C) (e : Event) (p : PairView C) (result : Result Applied PairFault) (q : PairView C) (w : Way) → Applies carries e p result q → Keeps carries e p result q w
keeps carries (event.Call c) p (Ok result) q w h = inl (like_call w c p result q h)
keeps carries event.Step p (Ok result) q w h = inl (like_step w (backend.phase_of p.backend.stage) p result q h)
keeps carries (event.ToBackend n) p (Ok result) q w h = keeps_delivered carries (is_shut ToBackend p) ToBackend w n p result q h
keeps carries (event.ToClient n) p (Ok result) q w h = keeps_delivered carries (is_shut ToClient p) ToClient w n p result q h
keeps carries event.BreakToBackend p (Ok result) q w h = keeps_broken carries ToBackend w event.BreakToBackend p (Ok result) q refl (by_break_event (is_shut ToBackend p) ToBackend w p result q h)
keeps carries event.BreakToClient p (Ok result) q w h = keeps_broken carries ToClient w event.BreakToClient p (Ok result) q refl (by_break_event (is_shut ToClient p) ToClient w p result q h)
keeps carries e p (Err fault.Memory) q w h =
    keeps_both carries w e p h.1.between q (by_break_event (is_shut ToBackend p) ToBackend w p h.1.first_result h.1.between h.1.first)
    (by_break_event (is_shut ToClient h.1.between) ToClient w h.1.between h.1.second_result q h.1.second)

for_a_reason : {C : Type 0} (carries : Carrying C) (e : Event) (p : PairView C) (result : Result Applied PairFault) (q : PairView C) (w : Way) → Keeps carries e p result q w
    → (way_state w p).broken ≡ false → (way_state w q).broken ≡ true → WhyBroken carries w e result q
for_a_reason carries e p result q w (inl like) was now = absurd cc
for_a_reason carries e p result q w (inr h) was now = h.1

for_good : {C : Type 0} (carries : Carrying C) (e : Event) (p : PairView C) (result : Result Applied PairFault) (q : PairView C) (w : Way) → Keeps carries e p result q w
    → (way_state w p).broken ≡ true → (way_state w q).broken ≡ true
for_good carries e p result q w (inl like) was = like ∙ was
for_good carries e p result q w (inr h) was = h.0

pub ways_break : {C : Type 0} (carries : Carrying C) → WaysBreak carries
ways_break carries e p result q h = record {
  why = λ w. for_a_reason carries e p result q w (keeps carries e p result q w h);
  stays = λ w. for_good carries e p result q w (keeps carries e p result q w h);
}
