-- Sixteen bytes in hexadecimal, written side by side.
use Rattle.std.proofs.Common.{◌≡◌, ℕ, ◌+◌, ◌*◌, ◌/◌, ◌%◌, ◌<◌, ◌++◌, List, [], ◌∷◌, length, get_or, replicate, take, drop, zero, suc, ◌≤◌, bit_and, ◌^◌, refl, sym, ap, ◌∙◌, arith}
use Rattle.std.specs.Simd.Lanes.{pick_l, zip2}
use Rattle.std.specs.List.{range_with_len}
use Rattle.std.proofs.lemmas.Simd.{pick_l_whole, get_or-zip2, get_or-replicate}
use Rattle.std.proofs.lemmas.Nat.{and_mask}
use Rattle.std.proofs.lemmas.List.{take-take, drop-take, take-append-drop}
use Rattle.std.proofs.Math.Seq.{take-nil}
use Rattle.hex.specs.Hex.{encode_with, encode_lower, lower_digits}

-- the list of these sixteen numbers, each by its place
abbrev by_place : List ℕ → List ℕ
by_place xs = pick_l 0 xs (range_with_len 0 16)

-- the digits of the high and the low four bits by turns
abbrev pub by_turns : List ℕ → List ℕ → List ℕ
by_turns high low = pick_l 0 (high ++ low) (0 ∷ 16 ∷ 1 ∷ 17 ∷ 2 ∷ 18 ∷ 3 ∷ 19 ∷ 4 ∷ 20 ∷ 5 ∷ 21 ∷ 6 ∷ 22 ∷ 7 ∷ 23 ∷ 8 ∷ 24 ∷ 9 ∷ 25 ∷ 10 ∷ 26 ∷ 11 ∷ 27 ∷ 12 ∷ 28 ∷ 13 ∷ 29 ∷ 14 ∷ 30 ∷ 15 ∷ 31 ∷ [])

-- they are those that are written, of sixteen bytes
pub digits_written : (hs ls bytes : List ℕ) → length hs ≡ 16 → length ls ≡ 16 → length bytes ≡ 16
    → ((k : ℕ) → k < 16 → get_or hs k 0 ≡ get_or lower_digits (get_or bytes k 0 / 16) 0)
    → ((k : ℕ) → k < 16 → get_or ls k 0 ≡ get_or lower_digits (get_or bytes k 0 % 16) 0)
    → by_turns hs ls ≡ encode_lower bytes
unfolding encode_with
digits_written hs ls bytes eh el eb high low =
    let told : by_turns (by_place hs) (by_place ls) ≡ encode_lower (by_place bytes) = λ i. high 0 (omega arith) i ∷ low 0 (omega arith) i ∷ high 1 (omega arith) i ∷ low 1 (omega arith) i ∷ high 2 (omega arith) i ∷ low 2 (omega arith) i ∷ high 3 (omega arith) i ∷ low 3 (omega arith) i ∷ high 4 (omega arith) i ∷ low 4 (omega arith) i ∷ high 5 (omega arith) i ∷ low 5 (omega arith) i ∷ high 6 (omega arith) i ∷ low 6 (omega arith) i ∷ high 7 (omega arith) i ∷ low 7 (omega arith) i ∷ high 8 (omega arith) i ∷ low 8 (omega arith) i ∷ high 9 (omega arith) i ∷ low 9 (omega arith) i ∷ high 10 (omega arith) i ∷ low 10 (omega arith) i ∷ high 11 (omega arith) i ∷ low 11 (omega arith) i ∷ high 12 (omega arith) i ∷ low 12 (omega arith) i ∷ high 13 (omega arith) i ∷ low 13 (omega arith) i ∷ high 14 (omega arith) i ∷ low 14 (omega arith) i ∷ high 15 (omega arith) i ∷ low 15 (omega arith) i ∷ [] in
    ap (λ (xs : List ℕ). by_turns xs ls) (sym (pick_l_whole 0 hs 16 eh)) ∙ (ap (λ (xs : List ℕ). by_turns (by_place hs) xs) (sym (pick_l_whole 0 ls 16 el)) ∙ (told ∙ ap encode_lower (pick_l_whole 0 bytes 16 eb)))

-- the high four bits of each of sixteen bytes
pub high_bits : (bytes : List ℕ) (k : ℕ) → length bytes ≡ 16 → k < 16
    → get_or (zip2 (λ a b. a / 2 ^ b) bytes (replicate 16 4)) k 0 ≡ get_or bytes k 0 / 16
high_bits bytes k long low =
    get_or-zip2 (λ a b. a / 2 ^ b) bytes (replicate 16 4) k 0 0 0 (omega (arith, low, long)) low
    ∙ ap (λ (n : ℕ). get_or bytes k 0 / 2 ^ n) (get_or-replicate 16 k 4 0 low)

-- and the low four
pub low_bits : (bytes : List ℕ) (k : ℕ) → length bytes ≡ 16 → k < 16
    → get_or (zip2 bit_and bytes (replicate 16 15)) k 0 ≡ get_or bytes k 0 % 16
low_bits bytes k long low =
    get_or-zip2 bit_and bytes (replicate 16 15) k 0 0 0 (omega (arith, low, long)) low
    ∙ ap (λ (n : ℕ). bit_and (get_or bytes k 0) n) (get_or-replicate 16 k 15 0 low)
    ∙ and_mask (get_or bytes k 0) 4

-- ---- block by block

encoded_on : (t xs ys : List ℕ) → encode_with t (xs ++ ys) ≡ encode_with t xs ++ encode_with t ys
unfolding encode_with
encoded_on t [] ys = refl
encoded_on t (b ∷ xs) ys = ap (λ (l : List ℕ). get_or t (b / 16) 0 ∷ get_or t (b % 16) 0 ∷ l) (encoded_on t xs ys)

encoded_first : (t xs : List ℕ) (n : ℕ) → take (2 * n) (encode_with t xs) ≡ encode_with t (take n xs)
unfolding encode_with
encoded_first t xs zero = refl
encoded_first t [] (suc n) = take-nil (2 * suc n)
encoded_first t (b ∷ xs) (suc n) =
    let two : 2 * suc n ≡ suc (suc (2 * n)) = omega arith in
    ap (λ (k : ℕ). take k (get_or t (b / 16) 0 ∷ get_or t (b % 16) 0 ∷ encode_with t xs)) two
    ∙ ap (λ (l : List ℕ). get_or t (b / 16) 0 ∷ get_or t (b % 16) 0 ∷ l) (encoded_first t xs n)

-- the first of a list, and those after them
two_takes : (n m : ℕ) (xs : List ℕ) → take n xs ++ take m (drop n xs) ≡ take (n + m) xs
two_takes n m xs =
    ap (λ (l : List ℕ). l ++ take m (drop n xs)) (sym (take-take n (n + m) xs (omega arith)))
    ∙ ap (λ (l : List ℕ). take n (take (n + m) xs) ++ l) (sym (drop-take n m xs))
    ∙ take-append-drop n (take (n + m) xs)

-- with the digits of the next block, those of so many bytes more stand there
pub one_block_more : (bytes old new : List ℕ) (at n : ℕ) → n ≤ at → take (2 * at) old ≡ encode_lower (take at bytes)
    → take (2 * n + 32) new ≡ take (2 * n) old ++ encode_lower (take 16 (drop n bytes))
    → take (2 * (n + 16)) new ≡ encode_lower (take (n + 16) bytes)
one_block_more bytes old new at n before so_far written =
    let t = lower_digits in
    let doubled : 2 * (n + 16) ≡ 2 * n + 32 = omega arith in
    let first : take (2 * n) old ≡ encode_lower (take n bytes) =
    sym (take-take (2 * n) (2 * at) old (omega (arith, before)))
    ∙ ap (λ (l : List ℕ). take (2 * n) l) so_far
    ∙ encoded_first t (take at bytes) n
    ∙ ap encode_lower (take-take n at bytes before) in
    ap (λ (k : ℕ). take k new) doubled ∙ written
    ∙ ap (λ (l : List ℕ). l ++ encode_lower (take 16 (drop n bytes))) first
    ∙ sym (encoded_on t (take n bytes) (take 16 (drop n bytes)))
    ∙ ap encode_lower (two_takes n 16 bytes)

-- no byte, no digit
pub none_written : [] ≡ encode_lower []
unfolding encode_with
none_written = refl
