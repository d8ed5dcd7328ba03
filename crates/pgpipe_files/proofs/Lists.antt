-- Lemmas on lists.
use Rattle.std.proofs.Common.{◌≡◌, ℕ, List, length, take, drop, min, sym, ap, ◌∙◌, arith, inl, inr}
use Rattle.std.proofs.Math.Nat.{min_comm, min-eq_left}
use Rattle.std.proofs.lemmas.Bool.{cases_lt}
use Rattle.std.proofs.lemmas.List.{take_all, drop_all}

-- at most n elements, taken off the front or left
pub take-least : {A : Type 0} (n m : ℕ) (xs : List A) → m ≡ min (length xs) n → (take m xs ≡ take n xs) × (drop m xs ≡ drop n xs)
take-least n m xs e =
    elim (cases_lt (length xs) n) [
      | inl lt ↦
          let same : m ≡ length xs = e ∙ min-eq_left {n = length xs} {m = n} (omega arith) in
          (take_all m xs (omega arith) ∙ sym (take_all n xs (omega arith)), drop_all m xs (omega arith) ∙ sym (drop_all n xs (omega arith)))
      | inr le ↦
          let same : m ≡ n = e ∙ min_comm (length xs) n ∙ min-eq_left {n = n} {m = length xs} le in
          (ap (λ (k : ℕ). take k xs) same, ap (λ (k : ℕ). drop k xs) same)
    ]
