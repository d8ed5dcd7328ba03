-- A word on lists.
use Rattle.std.specs.Prelude.{◌≡◌, List, ◌++◌}

-- The first list is a prefix of the second: the second is the first, and then more.
abbrev pub IsPrefix : {A : Type 0} → List A → List A → Type 0
IsPrefix {A} xs ys = (rest : List A) × (ys ≡ xs ++ rest)
