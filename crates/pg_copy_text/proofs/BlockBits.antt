-- What the bits of a comparison of sixteen bytes say of each of them.
use Rattle.std.proofs.Common.{◌≡◌, ◌≢◌, ℕ, ◌%◌, ◌^◌, ◌<◌, List, [], ◌∷◌, ◌++◌, Bool, true, false, cond, length, get_or, map, replicate, refl, sym, ap, ◌∙◌, arith, w8, w64, ◌≤◌, eqb, max, zero, suc, bit_or}
use Rattle.std.proofs.Math.Bool.{not}
use Rattle.std.proofs.lemmas.Nat.Bits.{bit_at_or, bit_at-zero, bit_at-trailing_zeros}
use Rattle.std.proofs.lemmas.Bool.{ne_eqb, cond-false}
use Rattle.std.proofs.lemmas.Nat.{or_lt}
use Rattle.pg_copy_text.specs.Private.Units.{IsPlain, NoBackslash}
use Rattle.std.specs.Int.{bit_at, trailing_zeros}
use Rattle.std.specs.Simd.Lanes.{zip2, mask_l, pick_l, top}
use Rattle.std.specs.List.{range_with_len}
use Rattle.std.proofs.Math.ListN.{get_or-append}
use Rattle.std.proofs.lemmas.List.FromFn.{get_or-map-range_with_len, length-range_with_len}
use Rattle.std.proofs.lemmas.Simd.{bit_mask_l, bitmask_splat}
use Rattle.std.proofs.lemmas.List.{get_or-map, length-map}

pub unless : (t : Bool) → not t ≡ true → t ≡ false
unless true e = absurd cc
unless false e = refl

pub when : (t : Bool) → not t ≡ false → t ≡ true
when true e = refl
when false e = absurd cc

clear : (b : Bool) → cond {A = ℕ} b 1 0 ≡ 0 → b ≡ false
clear false e = refl
clear true e = absurd (omega (arith, e))

-- where the bit of a byte isn't set, it doesn't compare so
pub not_compared : (t : ℕ → ℕ → Bool) (block : List ℕ) (y : ℕ) → length block ≡ 16
    → (k : ℕ) → k < 16
    → bit_at (mask_l (map (top 7) (zip2 (λ a b. cond (t a b) 255 0) block (replicate 16 y))) % 2 ^ 64) k ≡ 0
    → t (get_or block k 0) y ≡ false
not_compared t block y long k low e =
    let within : k < length block = omega (arith, low, long) in
    let bit : bit_at (mask_l (map (λ x. t x y) block)) k ≡ 0 = ap (λ m. bit_at m k) (sym (bitmask_splat w8 t block 16 y long (omega arith))) ∙ e in
    clear _ (sym (bit_mask_l (map (λ x. t x y) block) k ∙ ap (λ b. cond {A = ℕ} b 1 0) (get_or-map (λ x. t x y) block k 0 false within)) ∙ bit)

-- a byte that stands for itself by its number
pub plain_of : (delimiter b : ℕ) → 13 < b → b ≢ 92 → b ≢ delimiter → IsPlain delimiter b
plain_of delimiter b great other parts =
    let not_one : (c : ℕ) → c ≤ 13 → eqb b c ≡ false = λ c low. ne_eqb b c (λ e. omega (arith, e, great, low)) in
    let slash : eqb b 92 ≡ false = ne_eqb b 92 other in
    let part : eqb b delimiter ≡ false = ne_eqb b delimiter parts in
    record {
      no_delimiter = part;
      no_newline = not_one 10 (omega arith);
      no_return = not_one 13 (omega arith);
      no_backslash = slash;
      no_letter = cond-false _ _ _ (not_one 8 (omega arith)) ∙ cond-false _ _ _ (not_one 9 (omega arith)) ∙ cond-false _ _ _ (not_one 10 (omega arith)) ∙ cond-false _ _ _ (not_one 11 (omega arith)) ∙ cond-false _ _ _ (not_one 12 (omega arith)) ∙ cond-false _ _ _ (not_one 13 (omega arith)) ∙ cond-false _ _ _ slash ∙ cond-false _ _ _ part;
    }

-- no bit of either is set where none is of both
pub or_clear : (a b k : ℕ) → bit_at (bit_or a b) k ≡ 0 → (bit_at a k ≡ 0) × (bit_at b k ≡ 0)
or_clear a b k e =
    let both = sym (bit_at_or a b k) ∙ e in
    (omega (arith, both), omega (arith, both))

nonzero : (m k : ℕ) → 1 ≤ bit_at m k → 0 < m
nonzero zero k e = absurd (omega (arith, e, bit_at-zero k))
nonzero (suc m) k e = omega arith

not_later : (a b : ℕ) → (b < a → ⊥) → a ≤ b
not_later a b never = omega (arith, never)

-- the zeros that stand below the lowest bit of a number with this bit
pub marked : (n mark end : ℕ) → n < 2 ^ 64 → mark < 2 ^ 64 → bit_at mark end ≡ 1 → (trailing_zeros w64 (bit_or n mark) ≤ end) × ((k : ℕ) → k < trailing_zeros w64 (bit_or n mark) → bit_at (bit_or n mark) k ≡ 0)
marked n mark end small little one =
    let m = bit_or n mark in
    let set : bit_at m end ≡ max (bit_at n end) (bit_at mark end) = bit_at_or n mark end in
    let some : 0 < m = nonzero m end (omega (arith, set, one)) in
    let tz = bit_at-trailing_zeros w64 m some (or_lt 64 n mark small little) in
    (not_later _ end (λ l. omega (arith, set, one, tz.2 end l)), tz.2)

-- no byte is a backslash where none is by its place
pub none_by_place : (bs : List ℕ) → ((i : ℕ) → i < length bs → get_or bs i 0 ≢ 92) → NoBackslash bs
none_by_place [] never = tt
none_by_place (b ∷ bs) never = (ne_eqb b 92 (never 0 (omega arith)), none_by_place bs (λ i l. never (suc i) (omega (arith, l))))

-- ---- fewer bytes, more than once in the lanes of a block

-- the first of the numbers that a list is picked by are those of its first places
first_picked : (xs : List ℕ) (n k : ℕ) (more : List ℕ) → k < n → n ≤ length xs
    → get_or (pick_l 0 (xs ++ xs) (range_with_len 0 n) ++ more) k 0 ≡ get_or xs k 0
first_picked xs n k more low long =
    let f : ℕ → ℕ = λ j. get_or (xs ++ xs) j 0 in
    get_or-append (map f (range_with_len 0 n)) more 0 k (omega (arith, low, length-map (range_with_len 0 n) f, length-range_with_len 0 n))
    ∙ get_or-map-range_with_len f 0 n k k 0 low (omega arith)
    ∙ get_or-append xs xs 0 k (omega (arith, low, long))

pub half_lane : (half : List ℕ) (k : ℕ) → length half ≡ 8 → k < 8 → get_or (pick_l 0 (half ++ half) (0 ∷ 1 ∷ 2 ∷ 3 ∷ 4 ∷ 5 ∷ 6 ∷ 7 ∷ 0 ∷ 1 ∷ 2 ∷ 3 ∷ 4 ∷ 5 ∷ 6 ∷ 7 ∷ [])) k 0 ≡ get_or half k 0
half_lane half k long low = first_picked half 8 k (pick_l 0 (half ++ half) (range_with_len 0 8)) low (omega (arith, long))

pub quarter_lane : (quarter : List ℕ) (k : ℕ) → length quarter ≡ 4 → k < 4 → get_or (pick_l 0 (quarter ++ quarter) (0 ∷ 1 ∷ 2 ∷ 3 ∷ 0 ∷ 1 ∷ 2 ∷ 3 ∷ 0 ∷ 1 ∷ 2 ∷ 3 ∷ 0 ∷ 1 ∷ 2 ∷ 3 ∷ [])) k 0 ≡ get_or quarter k 0
quarter_lane quarter k long low =
    first_picked quarter 4 k (pick_l 0 (quarter ++ quarter) (range_with_len 0 4 ++ range_with_len 0 4 ++ range_with_len 0 4)) low (omega (arith, long))
