-- The last list of chunks, taken out of the others.
use Rattle.std.specs.Prelude.{◌≤◌, ◌+◌, List, [], ◌∷◌, Option, Some, None}
use Rattle.std.specs.Vec.{vec_capacity, vec_len}
use Rattle.std.specs.declared.vec.Vec.{Vec}

-- the list that was taken out, or none
abbrev pub list_of : {X Z : Type 0} → Option (Vec X Z) → List (List X)
list_of (Some v) = v.items ∷ []
list_of None = []

-- There is room for one chunk more.
abbrev pub HasRoom : {X Z : Type 0} → Option (Vec X Z) → Type 0
HasRoom (Some v) = vec_len v + 1 ≤ vec_capacity v
HasRoom None = Unit {0}
