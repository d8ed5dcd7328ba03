-- The numbers that a reader tells.
use Rattle.std.proofs.Common.{◌≡◌, ℕ, suc, ◌+◌, ◌<◌, List, [], ◌∷◌, ◌++◌, length, refl, sym, ap, ◌∙◌, arith, inl, inr}
use Rattle.std.proofs.lemmas.List.{length-append}
use Rattle.std.proofs.lemmas.Bool.{cases_lt, lt-ltb, le-ltb}
use Rattle.pg_copy_rows.specs.Row.{Row}
use Rattle.pg_copy_rows.specs.Reading.{told, one_more, given_after}

one-told : (n : ℕ) → one_more (told n) ≡ told (suc n)
one-told n = elim (cases_lt n 18446744073709551615) [
  | inl lt ↦ rw (lt-ltb n 18446744073709551615 lt, lt-ltb n 18446744073709551615 lt) (next lt)
  | inr le ↦ rw (le-ltb n 18446744073709551615 le, le-ltb (suc n) 18446744073709551615 (omega arith)) refl
]
  where
    next : n < 18446744073709551615 → suc n ≡ told (suc n)
    next lt = elim (cases_lt (suc n) 18446744073709551615) [
      | inl more ↦ rw (lt-ltb (suc n) 18446744073709551615 more) refl
      | inr last ↦ rw (le-ltb (suc n) 18446744073709551615 last) (omega arith)
    ]

told-after : (n : ℕ) (rows : List Row) → given_after (told n) rows ≡ told (n + length rows)
told-after n [] = let same : n ≡ n + 0 = omega arith in ap told same
told-after n (row ∷ rows) =
    let same : suc n + length rows ≡ n + suc (length rows) = omega arith in
    ap (λ (m : ℕ). given_after m rows) (one-told n) ∙ told-after (suc n) rows ∙ ap told same

pub told-rows : (given rows : List Row) → given_after (told (length given)) rows ≡ told (length (given ++ rows))
told-rows given rows = told-after (length given) rows ∙ ap told (sym (length-append given rows))

pub told-small : (n : ℕ) → n < 18446744073709551615 → told n ≡ n
told-small n lt = rw (lt-ltb n 18446744073709551615 lt) refl

pub told-add : (n m : ℕ) → told (told n + m) ≡ told (n + m)
told-add n m = elim (cases_lt n 18446744073709551615) [
  | inl lt ↦ ap (λ (k : ℕ). told (k + m)) (told-small n lt)
  | inr le ↦
      let last : told n ≡ 18446744073709551615 = rw (le-ltb n 18446744073709551615 le) refl in
      rw (last, le-ltb (18446744073709551615 + m) 18446744073709551615 (omega arith), le-ltb (n + m) 18446744073709551615 (omega arith)) refl
]
