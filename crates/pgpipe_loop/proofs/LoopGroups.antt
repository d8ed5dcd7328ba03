-- The groups that a pair has settled stay settled.
use Rattle.std.proofs.Common.{◌≡◌, ◌≤◌, ℕ, Bool, true, false, inl, inr, List, [], ◌∷◌, length, Option, None, Result, Ok, Err, ap, arith, length-append}
use Rattle.pg_backend.specs.declared.phase.BackPhase.{BackPhase}
use Rattle.pg_backend.specs.declared.phase.BackPhase.TheVariants as back
use Rattle.pg_backend.specs.declared.fault.BackendFault.{BackendFault}
use Rattle.pg_backend.specs.Backend as backend
use Rattle.pg_pair.specs.declared.carry.Way.{Way}
use Rattle.pg_pair.specs.declared.carry.Way.TheVariants.{ToBackend, ToClient}
use Rattle.pg_pair.specs.declared.event.Applied.{Applied}
use Rattle.pg_pair.specs.declared.event.Applied.TheVariants as applied
use Rattle.pg_client.specs.View.{groups_waiting}
use Rattle.pg_client.specs.declared.call.Call.{Call}
use Rattle.pg_pair.specs.declared.event.Event.{Event}
use Rattle.pg_pair.specs.declared.event.Event.TheVariants as event
use Rattle.pg_pair.specs.Breaking.{Breaks, BreaksIf, BreaksUnless, is_closed, is_shut, BreaksToClient}
use Rattle.pg_pair.specs.Calling.{CallsClient}
use Rattle.pg_pair.specs.Carrying.{Carrying, delivered, is_bad}
use Rattle.pg_pair.specs.Delivering.{ArrivesAt, no_piece, DeliversUnless, EndsWithPiece, DeliversPieces, one_more_piece, Pushing}
use Rattle.pg_pair.specs.Event.{Applies}
use Rattle.pg_pair.specs.Stepping.{StepsOnce, StepsUnlessClosed}
use Rattle.pg_pair.specs.View.{PairView}

-- No settled group is lost.
abbrev Keeps : {C : Type 0} → PairView C → PairView C → Type 0
Keeps p q = length p.settled ≤ length q.settled

module _ {C : Type 0} (carries : Carrying C) where
  same_keeps : (p q : PairView C) → q ≡ p → Keeps p q
  same_keeps p q e = let n = ap (λ (x : PairView C). length x.settled) e in omega (arith, n)

  calls_keep : (c : Call) (p : PairView C) (a : Applied) (q : PairView C) → CallsClient c p a q → Keeps p q
  calls_keep c p applied.Done q h = let n = ap (λ (x : PairView C). length x.settled) h.rest in omega (arith, n)
  calls_keep c p (applied.Refused r f) q h = same_keeps p q h.2
  calls_keep c p applied.Nothing q h = absurd h
  calls_keep c p (applied.Client f) q h = absurd h
  calls_keep c p (applied.Backend f) q h = absurd h
  calls_keep c p applied.Carrier q h = absurd h

  step_keeps : (p : PairView C) (a : Applied) (q : PairView C) → StepsOnce p a q → Keeps p q
  step_keeps p a q h = let n = ap (λ (x : PairView C). length x.settled) h.rest in omega (arith, n)

  steps_keep : (phase : BackPhase) (p : PairView C) (a : Applied) (q : PairView C) → StepsUnlessClosed phase p a q → Keeps p q
  steps_keep back.Closed p a q h = same_keeps p q h.1
  steps_keep back.First p a q h = step_keeps p a q h
  steps_keep back.Password p a q h = step_keeps p a q h
  steps_keep back.Ready p a q h = step_keeps p a q h
  steps_keep back.Grouping p a q h = step_keeps p a q h
  steps_keep back.CopyIn p a q h = step_keeps p a q h

  tells_keep : (closed : Bool) (p q : PairView C) → BreaksToClient closed p q → Keeps p q
  tells_keep true p q h = let n = ap (λ (x : PairView C). length x.settled) h in omega (arith, n)
  tells_keep false p q h = let n = ap (λ (x : PairView C). length x.settled) h.2 in omega (arith, n)

  breaks_keep : (w : Way) (p q : PairView C) → Breaks w p q → Keeps p q
  breaks_keep ToBackend p q h = let n = ap (λ (x : PairView C). length x.settled) h in omega (arith, n)
  breaks_keep ToClient p q h = tells_keep (is_closed ToClient p) p q h

  breaks_if_keep : (b : Bool) (w : Way) (p q : PairView C) → BreaksIf b w p q → Keeps p q
  breaks_if_keep true w p q h = breaks_keep w p q h
  breaks_if_keep false w p q h = same_keeps p q h

  breaks_unless_keep : (b : Bool) (w : Way) (p : PairView C) (a : Applied) (q : PairView C) → BreaksUnless b w p a q → Keeps p q
  breaks_unless_keep true w p a q h = same_keeps p q h.1
  breaks_unless_keep false w p a q h = breaks_keep w p q h.1

  pushing_keeps : (p : PairView C) (bytes : List ℕ) (r : Result Unit BackendFault) (q : PairView C) → Pushing p bytes r q → Keeps p q
  pushing_keeps p bytes (Ok x) q h = let n = ap (λ (x : PairView C). length x.settled) h.1 in omega (arith, n)
  pushing_keeps p bytes (Err f) q h = same_keeps p q h.1

  takes_in_keeps : (w : Way) (p : PairView C) (bytes : List ℕ) (answer : Option Applied) (q : PairView C) → ArrivesAt w p bytes answer q → Keeps p q
  takes_in_keeps w p [] answer q h = same_keeps p q h.1
  takes_in_keeps ToBackend p (b ∷ bytes) answer q h = pushing_keeps p (b ∷ bytes) h.0 q h.1
  takes_in_keeps ToClient p (b ∷ bytes) answer q h = let n = ap (λ (x : PairView C). length x.settled) h.1.rest in omega (arith, n, length-append p.settled (groups_waiting h.1.fed))

  goes_keeps : (w : Way) (most : ℕ) (p : PairView C) (n : ℕ) (q : PairView C) → DeliversPieces carries w most p n q → Keeps p q
  goes_keeps w most p n q no_piece = omega arith
  goes_keeps w most p n q (one_more_piece k m piece came carrier r g c same good t) = omega (arith, goes_keeps w most p k m g, takes_in_keeps w (record m { carrier = carrier }) piece None r t)

  ends_keep : (w : Way) (most n : ℕ) (m : PairView C) (a : Applied) (q : PairView C) → EndsWithPiece carries w most n m a q → Keeps m q
  ends_keep w most n m a q h = omega (arith, takes_in_keeps w (record m { carrier = h.carrier }) (delivered h.piece h.came) h.answer h.taken h.takes_in, breaks_if_keep (is_bad h.piece h.came) w h.taken q h.breaks)

  delivers_keep : (shut : Bool) (w : Way) (most : ℕ) (p : PairView C) (a : Applied) (q : PairView C) → DeliversUnless shut carries w most p a q → Keeps p q
  delivers_keep true w most p a q h = same_keeps p q h.1
  delivers_keep false w most p a q h =
      elim h.3 [
        | inl whole ↦ omega (arith, goes_keeps w most p h.0 h.1 h.2, same_keeps h.1 q whole.same)
        | inr last ↦ omega (arith, goes_keeps w most p h.0 h.1 h.2, ends_keep w most h.0 h.1 a q last)
      ]

  pub event_keeps : (e : Event) (p : PairView C) (a : Applied) (q : PairView C) → Applies carries e p (Ok a) q → Keeps p q
  event_keeps (event.Call c) p a q h = calls_keep c p a q h
  event_keeps event.Step p a q h = steps_keep (backend.phase_of p.backend.stage) p a q h
  event_keeps (event.ToBackend n) p a q h = delivers_keep (is_shut ToBackend p) ToBackend n p a q h
  event_keeps (event.ToClient n) p a q h = delivers_keep (is_shut ToClient p) ToClient n p a q h
  event_keeps event.BreakToBackend p a q h = breaks_unless_keep (is_shut ToBackend p) ToBackend p a q h
  event_keeps event.BreakToClient p a q h = breaks_unless_keep (is_shut ToClient p) ToClient p a q h
