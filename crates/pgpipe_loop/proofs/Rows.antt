-- Worked examples of what is left of a loop to do.
use Rattle.std.proofs.Common.{◌≡◌, ℕ, true, false, [], ◌∷◌, refl}
use Rattle.pg_pair.specs.declared.event.Applied.TheVariants as applied
use Rattle.pg_pair.specs.declared.event.Event.TheVariants as event
use Rattle.pg_pair.specs.View.{WayState, PairView}
use Rattle.pgpipe_files.specs.declared.calls_file.CallLine.TheVariants as calls
use Rattle.pgpipe_loop.specs.RunLoop.{line_events, came_to_nothing, left_to_happen}

-- so many bytes of ten have reached the other end
stream : ℕ → WayState
stream n = record { sent = 0 ∷ 1 ∷ 2 ∷ 3 ∷ 4 ∷ 5 ∷ 6 ∷ 7 ∷ 8 ∷ 9 ∷ []; reached = n; broken = false }

one_event : line_events 9 (calls.Event event.Step) ≡ record { event = event.Step; again = 0 } ∷ []
one_event = refl

-- a delivery comes to nothing where no more bytes have reached the other end, and a step where it is answered so
delivery_moves_none : {C : Type 0} (p : PairView C) → came_to_nothing (event.ToBackend 9) (record p { to_backend = stream 3 }) applied.Carrier (record p { to_backend = stream 3 }) ≡ true
unfolding stream
delivery_moves_none p = refl

delivery_moves_one : {C : Type 0} (p : PairView C) → came_to_nothing (event.ToBackend 9) (record p { to_backend = stream 3 }) applied.Done (record p { to_backend = stream 4 }) ≡ false
unfolding stream
delivery_moves_one p = refl

step_taken : {C : Type 0} (p q : PairView C) → came_to_nothing event.Step p applied.Done q ≡ false
step_taken p q = refl

no_step_taken : {C : Type 0} (p q : PairView C) → came_to_nothing event.Step p applied.Nothing q ≡ true
no_step_taken p q = refl

-- what came to something is done again, as often as is left
done_again : left_to_happen false (record { event = event.Step; again = 2 }) ≡ record { event = event.Step; again = 1 } ∷ []
done_again = refl

never_again : left_to_happen true (record { event = event.Step; again = 2 }) ≡ []
never_again = refl

last_time : left_to_happen false (record { event = event.Step; again = 0 }) ≡ []
last_time = refl
