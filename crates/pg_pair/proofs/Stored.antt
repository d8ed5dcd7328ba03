-- The headline has one proof at most, so what is kept of a pair, truncated, implies it.
use Rattle.std.proofs.Common.{◌≡◌, ◌≤◌, ℕ, List, [], ◌∷◌, length, false, Result, Ok, Err}
use Rattle.std.specs.Result.{OnOk, is_err}
use Rattle.std.specs.Coded.{Coded-set, coded_list, coded×, coded_ℕ}
use Rattle.std.proofs.Math.Bridge.{le_prop}
use Rattle.std.proofs.Math.Logic.{∥∥₁_elim, ∥∥₁_prop}
use Rattle.pg_wire.specs.declared.session.Outcome.{Outcome}
use Rattle.pg_wire.specs.declared.session.Request.{Request}
use Rattle.pg_wire.specs.contracts.session.Request as request
use Rattle.pg_wire.specs.contracts.session.Outcome as outcome
use Rattle.pg_backend.specs.contracts.phase.BackPhase as back_phase
use Rattle.pg_backend.specs.declared.phase.BackPhase.{BackPhase}
use Rattle.pg_backend.specs.declared.script.Logged.{Logged}
use Rattle.pg_backend.specs.Turns.{Took, TookEach}
use Rattle.pg_pair.specs.Headline.{Headline}
use Rattle.pg_pair.specs.Invariant.{Tied}
use Rattle.pg_pair.specs.View.{PairView}

groups_prop : (xs ys : List (Request × Outcome)) → IsProp (xs ≡ ys)
groups_prop xs ys = Coded-set (coded_list (coded× request.the_row.coded outcome.the_row.coded)) xs ys

chunks_prop : (xs ys : List (List ℕ)) → IsProp (xs ≡ ys)
chunks_prop xs ys = Coded-set (coded_list (coded_list coded_ℕ)) xs ys

phase_prop : (a b : BackPhase) → IsProp (a ≡ b)
phase_prop a b = Coded-set back_phase.the_row.coded a b

took_prop : (l : Logged) (h : List (List ℕ)) → IsProp (Took l h)
took_prop l h = hlevel (chunks_prop)

each_prop : (ls : List Logged) (hs : List (List (List ℕ))) → IsProp (TookEach ls hs)
each_prop [] hs = hlevel (chunks_prop)
each_prop (l ∷ ls) [] = hlevel (chunks_prop)
each_prop (l ∷ ls) (h ∷ hs) = hlevel (took_prop l h, each_prop ls hs)

-- what follows from what is so of a pair at any time follows from what is kept of that
pub kept_headline : {C : Type 0} (p : PairView C) → (Tied p → Headline p) → ∥ Tied p ∥₁ → Headline p
kept_headline p holds some = record {
  beginning = ∥∥₁_elim some (groups_prop _ _) (λ t. (holds t).beginning);
  copied = ∥∥₁_elim some (each_prop _ _) (λ t. (holds t).copied);
  asked = ∥∥₁_elim some ∥∥₁_prop (λ t. (holds t).asked);
  one_at_most = ∥∥₁_elim some le_prop (λ t. (holds t).one_at_most);
  ready = λ a b c. record {
    phase = ∥∥₁_elim some (phase_prop _ _) (λ t. ((holds t).ready a b c).phase);
    leaves_copies = ∥∥₁_elim some ∥∥₁_prop (λ t. ((holds t).ready a b c).leaves_copies);
  };
}

-- no more has reached an end than was sent to it
pub kept_within_backend : {C : Type 0} (p : PairView C) → ∥ Tied p ∥₁ → p.to_backend.reached ≤ length p.to_backend.sent
kept_within_backend p some = ∥∥₁_elim some le_prop (λ t. t.backend.within)

pub kept_within_client : {C : Type 0} (p : PairView C) → ∥ Tied p ∥₁ → p.to_client.reached ≤ length p.to_client.sent
kept_within_client p some = ∥∥₁_elim some le_prop (λ t. t.client.within)

-- what is said of an Ok
pub ok_of : {T E P : Type 0} (r : Result T E) → false ≡ is_err r → OnOk r P → P
ok_of (Ok x) e p = p
ok_of (Err x) e p = absurd cc
