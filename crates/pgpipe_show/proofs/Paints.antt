-- What one more byte comes to.
use Rattle.std.proofs.Common.{◌≡◌, ℕ, List, [], ◌∷◌, ◌++◌, refl, append_assoc}
use Rattle.pgpipe_show.specs.declared.color.part.LinePart.{LinePart}
use Rattle.pgpipe_show.specs.ColoredPart.{colored, escape, next, part_after}

-- its escape and it were put behind what stood there
pub paints_more : (part next_part : LinePart) (b : ℕ) (rest front mid now : List ℕ) → mid ≡ front ++ escape part b → now ≡ mid ++ b ∷ [] → next_part ≡ next part b → now ++ colored next_part rest ≡ front ++ colored part (b ∷ rest)
unfolding colored
paints_more part next_part b rest front mid now is_mid is_now is_next = rw (is_next, is_now, is_mid) (simp append_assoc)

pub part_more : (part next_part : LinePart) (b : ℕ) (rest : List ℕ) → next_part ≡ next part b → part_after next_part rest ≡ part_after part (b ∷ rest)
unfolding part_after
part_more part next_part b rest is_next = rw is_next refl
