-- How a file is made to have no comments, byte by byte.
use Rattle.std.proofs.Common.{◌≡◌, ℕ, ◌+◌, ◌<◌, ◌≤◌, List, ◌++◌, length, drop, sym, ap, ◌∙◌, append_assoc}
use Rattle.std.specs.Prelude.{slice_index}
use Rattle.std.proofs.lemmas.List.{append-nil, drop_all, drop_more}
use Rattle.pgpipe_lines.specs.declared.comments.BytePlace.{BytePlace}
use Rattle.pgpipe_lines.specs.Comments.{after, left_of, uncommented, uncommented_from}

-- one byte more
pub one_more : (text now bytes : List ℕ) (p next : BytePlace) (i : ℕ) → i < length bytes → now ≡ text ++ left_of p (slice_index bytes i) → next ≡ after p (slice_index bytes i)
    → text ++ uncommented_from p (drop i bytes) ≡ uncommented bytes → now ++ uncommented_from next (drop (i + 1) bytes) ≡ uncommented bytes
unfolding uncommented_from
one_more text now bytes p next i lt put moved so_far =
    let b = slice_index bytes i in
    rw (put, moved) (append_assoc text (left_of p b) (uncommented_from (after p b) (drop (i + 1) bytes)) ∙ ap (λ (bs : List ℕ). text ++ uncommented_from p bs) (sym (drop_more bytes i 0 lt)) ∙ so_far)

-- no byte more
pub all_done : (text bytes : List ℕ) (p : BytePlace) (i : ℕ) → length bytes ≤ i → text ++ uncommented_from p (drop i bytes) ≡ uncommented bytes → text ≡ uncommented bytes
unfolding uncommented_from
all_done text bytes p i le so_far = sym (append-nil text) ∙ ap (λ (bs : List ℕ). text ++ uncommented_from p bs) (sym (drop_all i bytes le)) ∙ so_far
