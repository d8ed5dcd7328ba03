-- Worked examples of fields, computed from the definitions alone.
use Rattle.std.proofs.Common.{◌≡◌, [], ◌∷◌, Some, None, codes, refl}
use Rattle.pgpipe_lines.specs.Arguments.{number_of}

-- the greatest number, one above it, and one with a sign that it may not have
pub greatest : number_of (Some (codes "4294967295") ∷ []) ≡ Some 4294967295
greatest = refl

pub above : number_of (Some (codes "4294967296") ∷ []) ≡ None
above = refl

pub with_plus : number_of (Some (codes "+1") ∷ []) ≡ None
with_plus = refl
