-- Messages that are put line by line.
use Rattle.std.proofs.Common.{◌≡◌, ◌≤◌, ◌<◌, ◌+◌, ℕ, zero, suc, Bool, true, false, cond, List, [], ◌∷◌, length, take, drop, unwrap_or, Option, Some, None, refl, sym, ap, ◌∙◌, arith}
use Rattle.std.specs.Prelude.{MatchOption, nat_le, ◌&&◌}
use Rattle.std.proofs.lemmas.Bool.{cond-true, cond-false, leb-true}
use Rattle.std.proofs.lemmas.List.{length-drop}
use Rattle.pg_copy.specs.Row.{Row}
use Rattle.pg_pair.specs.declared.carry.Way.{Way}
use Rattle.pgpipe_loop.specs.Trace.{begins_whole, first_size, length_after, sent_row, sent_rows}
use Rattle.pgpipe_loop.specs.Private.Lines.{LineState, with_row, with_rows}

-- of three tests that hold the second does
second : (x y z : Bool) → (x && y && z) ≡ true → y ≡ true
second true true true e = refl
second true true false e = absurd cc
second true false z e = absurd cc
second false y z e = absurd cc

size_if : (lead : ℕ) (bytes : List ℕ) (b : Bool) → begins_whole lead bytes ≡ b → 0 < length bytes → 0 < cond b (lead + length_after lead bytes) (length bytes)
size_if lead bytes true e some =
    let four : 4 ≤ length_after lead bytes = leb-true 4 (length_after lead bytes) (second (nat_le (lead + 4) (length bytes)) (nat_le 4 (length_after lead bytes)) (nat_le (lead + length_after lead bytes) (length bytes)) e) in
    omega arith
size_if lead bytes false e some = some

-- the first message has a byte
first_some : (lead : ℕ) (bytes : List ℕ) → 0 < length bytes → 0 < first_size lead bytes
first_some lead bytes some = size_if lead bytes (begins_whole lead bytes) refl some

pub size_is : (lead : ℕ) (bytes : List ℕ) (r : Option ℕ) → MatchOption r (begins_whole lead bytes ≡ false) (λ size. (begins_whole lead bytes ≡ true) × (size ≡ lead + length_after lead bytes) × (4 ≤ size) × (size ≤ length bytes))
    → unwrap_or r (length bytes) ≡ first_size lead bytes
size_is lead bytes None part = sym (cond-false _ _ _ part)
size_is lead bytes (Some size) whole = whole.1 ∙ sym (cond-true _ _ _ whole.0)

enough : (n m : ℕ) (way : Way) (lead : ℕ) (bytes : List ℕ) → length bytes ≤ n → length bytes ≤ m → sent_rows n way lead bytes ≡ sent_rows m way lead bytes
enough zero zero way lead bytes le le' = refl
enough zero (suc m) way lead [] le le' = refl
enough zero (suc m) way lead (b ∷ bytes) le le' = absurd (omega arith)
enough (suc n) zero way lead [] le le' = refl
enough (suc n) zero way lead (b ∷ bytes) le le' = absurd (omega arith)
enough (suc n) (suc m) way lead [] le le' = refl
enough (suc n) (suc m) way lead (b ∷ bytes) le le' =
    let size = first_size lead (b ∷ bytes) in
    let some : 0 < size = first_some lead (b ∷ bytes) (omega arith) in
    let less : length (drop size (b ∷ bytes)) ≤ length bytes = omega (arith, some, length-drop size (b ∷ bytes)) in
    ap (λ (rows : List Row). sent_row way lead (take size (b ∷ bytes)) ∷ rows) (enough n m way 1 (drop size (b ∷ bytes)) (omega (arith, less)) (omega (arith, less)))

-- one message more
pub message_put : (s new total : LineState) (way : Way) (lead size : ℕ) (rest now later : List ℕ) → 0 < length rest → size ≡ first_size lead rest → now ≡ take size rest → later ≡ drop size rest
    → new ≡ with_row s (sent_row way lead now) → with_rows s (sent_rows (length rest) way lead rest) ≡ total → with_rows new (sent_rows (length later) way 1 later) ≡ total
message_put s new total way lead size [] now later lt e f g h i = absurd (omega arith)
message_put s new total way lead size (b ∷ bytes) now later lt e f g h i =
    let first = first_size lead (b ∷ bytes) in
    let some : 0 < first = first_some lead (b ∷ bytes) (omega arith) in
    let now_is : now ≡ take first (b ∷ bytes) = f ∙ ap (λ (n : ℕ). take n (b ∷ bytes)) e in
    let later_is : later ≡ drop first (b ∷ bytes) = g ∙ ap (λ (n : ℕ). drop n (b ∷ bytes)) e in
    let less : length (drop first (b ∷ bytes)) ≤ length bytes = omega (arith, some, length-drop first (b ∷ bytes)) in
    ap (λ (l : List ℕ). with_rows new (sent_rows (length l) way 1 l)) later_is
    ∙ ap (λ (rows : List Row). with_rows new rows) (enough (length (drop first (b ∷ bytes))) (length bytes) way 1 (drop first (b ∷ bytes)) (omega arith) less)
    ∙ ap (λ (t : LineState). with_rows t (sent_rows (length bytes) way 1 (drop first (b ∷ bytes)))) (h ∙ ap (λ (l : List ℕ). with_row s (sent_row way lead l)) now_is)
    ∙ i
