-- Where a part is found, by one step.
use Rattle.std.proofs.Common.{◌≡◌, ◌==◌, true, false, ℕ, List, [], ◌∷◌, Some, None, refl}
use Rattle.pgpipe_explain.specs.declared.tracker.Tracker.{Tracker}
use Rattle.pgpipe_explain.specs.Tracker.{after, after_byte, place_in}

pub found_at : (t : Tracker) (bytes : List ℕ) (n : ℕ) → (t.place.number == n) ≡ true → place_in t bytes n ≡ Some t.place
unfolding place_in
found_at t [] n is = rw is refl
found_at t (b ∷ bytes) n is = rw is refl

pub not_yet : (t : Tracker) (b : ℕ) (bytes : List ℕ) (n : ℕ) → (t.place.number == n) ≡ false → place_in t (b ∷ bytes) n ≡ place_in (after_byte t b) bytes n
unfolding place_in
not_yet t b bytes n is = rw is refl

pub not_at_end : (t : Tracker) (n : ℕ) → (t.place.number == n) ≡ false → place_in t [] n ≡ None
unfolding place_in
not_at_end t n is = rw is refl

pub after_none : (t : Tracker) (bytes : List ℕ) → bytes ≡ [] → after t bytes ≡ t
unfolding after
after_none t bytes none = rw none refl
