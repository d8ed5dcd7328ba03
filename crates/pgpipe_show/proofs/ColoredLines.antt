-- What a line comes to, part by part.
use Rattle.std.proofs.Common.{◌≡◌, ◌≢◌, ◌==◌, ◌&&◌, ◌||◌, ◌+◌, ◌<◌, ◌≤◌, ℕ, Bool, true, false, nat_lt, cond, get_or, drop, List, [], ◌∷◌, ◌++◌, codes, refl, ap, sym, arith, add-one, drop-cons}
use Rattle.std.specs.List.{AllByRecursion}
use Rattle.std.proofs.lemmas.Bool.{and_parts}
use borrow.Author.Tests.{eqb-true, ltb-true, ne_eqb}
use Rattle.pgpipe_show.specs.declared.color.part.LinePart.TheVariants.{Start, ErrorName, Name, Rest, ErrorRest}
use Rattle.pgpipe_show.specs.ColoredPart.{colored, cyan, ends_word, red, reset}
use Rattle.pgpipe_show.specs.ColoredText.{FollowsWord, IsWord, error_line, named_line}

no_or : (x y : Bool) → (x || y) ≡ false → (x ≡ false) × (y ≡ false)
no_or false y h = (refl, h)
no_or true y h = absurd (cc)

-- what doesn't end a word isn't the line's end
no_end : (b : ℕ) → ends_word b ≡ false → (b == 10) ≡ false
no_end b within = (no_or ((b == 32) || (b == 44)) (b == 10) within).1

-- ---- after the first word

rest_line : (rest more : List ℕ) → AllByRecursion (λ b. b ≢ 10) rest → colored Rest (rest ++ 10 ∷ more) ≡ rest ++ 10 ∷ colored Start more
unfolding colored
rest_line [] more none = refl
rest_line (b ∷ rest) more none = rw (ne_eqb b 10 none.0) (ap (λ (l : List ℕ). b ∷ l) (rest_line rest more none.1))

error_rest_line : (rest more : List ℕ) → AllByRecursion (λ b. b ≢ 10) rest → colored ErrorRest (rest ++ 10 ∷ more) ≡ rest ++ reset ++ 10 ∷ colored Start more
unfolding colored
error_rest_line [] more none = refl
error_rest_line (b ∷ rest) more none = rw (ne_eqb b 10 none.0) (ap (λ (l : List ℕ). b ∷ l) (error_rest_line rest more none.1))

-- ---- where the first word ends

name_ends : (rest more : List ℕ) → FollowsWord rest → colored Name (rest ++ 10 ∷ more) ≡ reset ++ rest ++ 10 ∷ colored Start more
unfolding colored
name_ends [] more follows = refl
name_ends (b ∷ rest) more follows =
    rw (follows.0, ne_eqb b 10 follows.1.0) (ap (λ (l : List ℕ). reset ++ b ∷ l) (rest_line rest more follows.1.1))

-- a front of `ErrorResponse` alone is another word
front_ends : (n : ℕ) (rest more : List ℕ) → (n == 13) ≡ false → FollowsWord rest → colored (ErrorName n) (rest ++ 10 ∷ more) ≡ reset ++ rest ++ 10 ∷ colored Start more
unfolding colored
front_ends n [] more other follows = rw other refl
front_ends n (b ∷ rest) more other follows =
    rw (follows.0, ne_eqb b 10 follows.1.0, other) (ap (λ (l : List ℕ). reset ++ b ∷ l) (rest_line rest more follows.1.1))

error_ends : (rest more : List ℕ) → FollowsWord rest → cyan ++ codes "ErrorResponse" ++ colored (ErrorName 13) (rest ++ 10 ∷ more) ≡ error_line rest ++ 10 ∷ colored Start more
unfolding colored
error_ends [] more follows = refl
error_ends (b ∷ rest) more follows =
    rw (follows.0, ne_eqb b 10 follows.1.0) (ap (λ (l : List ℕ). cyan ++ codes "ErrorResponse" ++ reset ++ red ++ b ∷ l) (error_rest_line rest more follows.1.1))

-- ---- the first word

name_line : (word rest more : List ℕ) → IsWord word → FollowsWord rest → colored Name (word ++ rest ++ 10 ∷ more) ≡ word ++ reset ++ rest ++ 10 ∷ colored Start more
unfolding colored
name_line [] rest more is follows = name_ends rest more follows
name_line (b ∷ word) rest more is follows =
    rw (is.0, no_end b is.0) (ap (λ (l : List ℕ). b ∷ l) (name_line word rest more is.1 follows))

-- a byte goes on with `ErrorResponse` or it doesn't
begun_cases : (test : Bool) (n : ℕ) (text line : List ℕ) → (test ≡ true → colored (ErrorName (n + 1)) text ≡ line) → colored Name text ≡ line → colored (cond test (ErrorName (n + 1)) Name) text ≡ line
begun_cases true n text line on off = on refl
begun_cases false n text line on off = off

goes_on : (n b : ℕ) (word : List ℕ) → (nat_lt n 13 && (get_or (codes "ErrorResponse") n 0 == b)) ≡ true → word ≡ drop (n + 1) (codes "ErrorResponse") → b ∷ word ≡ drop n (codes "ErrorResponse")
goes_on n b word test is =
    let both = and_parts (nat_lt n 13) (get_or (codes "ErrorResponse") n 0 == b) test in
    let same : get_or (codes "ErrorResponse") n 0 ≡ b = eqb-true _ b both.1 in
    let split = drop-cons (codes "ErrorResponse") n 0 (ltb-true n 13 both.0) in
    rw (is, ← same, add-one) (sym split)

below : (n b : ℕ) → (nat_lt n 13 && (get_or (codes "ErrorResponse") n 0 == b)) ≡ true → n + 1 ≤ 13
below n b test =
    let less : n < 13 = ltb-true n 13 (and_parts (nat_lt n 13) (get_or (codes "ErrorResponse") n 0 == b) test).0 in
    omega arith

front_line : (n : ℕ) (word rest more : List ℕ) → n ≤ 13 → IsWord word → word ≢ drop n (codes "ErrorResponse") → FollowsWord rest → colored (ErrorName n) (word ++ rest ++ 10 ∷ more) ≡ word ++ reset ++ rest ++ 10 ∷ colored Start more
unfolding colored
front_line n [] rest more most is other follows =
    front_ends n rest more (ne_eqb n 13 (λ e. other (rw e refl))) follows
front_line n (b ∷ word) rest more most is other follows =
    let on : (nat_lt n 13 && (get_or (codes "ErrorResponse") n 0 == b)) ≡ true → colored (ErrorName (n + 1)) (word ++ rest ++ 10 ∷ more) ≡ word ++ reset ++ rest ++ 10 ∷ colored Start more =
    λ test. front_line (n + 1) word rest more (below n b test) is.1 (λ e. other (goes_on n b word test e)) follows in
    rw (is.0, no_end b is.0) (ap (λ (l : List ℕ). b ∷ l) (begun_cases _ n _ _ on (name_line word rest more is.1 follows)))

pub other_line : (word rest more : List ℕ) → IsWord word → word ≢ [] → word ≢ codes "ErrorResponse" → FollowsWord rest → colored Start (word ++ rest ++ 10 ∷ more) ≡ named_line word rest ++ 10 ∷ colored Start more
unfolding colored
other_line [] rest more is some other follows = absurd (some refl)
other_line (b ∷ word) rest more is some other follows =
    let on : (nat_lt 0 13 && (get_or (codes "ErrorResponse") 0 0 == b)) ≡ true → colored (ErrorName 1) (word ++ rest ++ 10 ∷ more) ≡ word ++ reset ++ rest ++ 10 ∷ colored Start more =
    λ test. front_line 1 word rest more (omega arith) is.1 (λ e. other (goes_on 0 b word test e)) follows in
    rw (is.0, no_end b is.0) (ap (λ (l : List ℕ). cyan ++ b ∷ l) (begun_cases _ 0 _ _ on (name_line word rest more is.1 follows)))

pub an_error_line : (rest more : List ℕ) → FollowsWord rest → colored Start (codes "ErrorResponse" ++ rest ++ 10 ∷ more) ≡ error_line rest ++ 10 ∷ colored Start more
unfolding colored
an_error_line rest more follows = error_ends rest more follows
