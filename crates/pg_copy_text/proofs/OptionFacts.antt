-- What is known of a file's options.
use Rattle.std.proofs.Common.{◌≡◌, ℕ, ◌-◌, ◌<◌, ◌≤◌, Bool, true, false, cond, eqb, ltb, leb, Some, None, refl, arith, inl, inr}
use Rattle.std.specs.Prelude.{◌||◌, ◌⊎◌}
use Rattle.std.specs.Char.{digit_value, is_ascii_digit, is_ascii_lowercase}
use Rattle.std.specs.List.{list_any}
use Rattle.std.specs.Str.{bytes_eq}
use Rattle.std.proofs.lemmas.Bool.{ne_eqb, eqb-false, ltb-false, ltb-true, leb-false, cond_both, and_cases}
use Rattle.pg_copy_rows.specs.declared.fault.OptionFault.{OptionFault}
use Rattle.pg_copy_rows.specs.declared.fault.OptionFault.TheVariants as faults
use Rattle.pg_copy_text.specs.Text.{Options, end_mark, ends_escaped}
use Rattle.pg_copy_text.specs.TextOptions.{is_no_delimiter, ends_field, is_no_mark, AreOptions}

-- of the delimiter, and of the null mark
pub record OptionFacts (o : Options) : Type 0 where
  pub no_newline : eqb o.delimiter 10 ≡ false
  pub no_return : eqb o.delimiter 13 ≡ false
  pub no_backslash : eqb o.delimiter 92 ≡ false
  pub no_dot : eqb o.delimiter 46 ≡ false
  pub no_letter : (k : ℕ) → 97 ≤ k → k ≤ 122 → eqb o.delimiter k ≡ false
  pub no_digit : 8 ≤ digit_value o.delimiter
  pub mark_clear : list_any (ends_field o.delimiter) o.null_mark ≡ false
  pub mark_other : bytes_eq o.null_mark end_mark ≡ false
  pub mark_closed : ends_escaped false o.null_mark ≡ false

both-none : (a b : Bool) (x y : OptionFault) → cond a (Some x) (cond b (Some y) None) ≡ None → (a ≡ false) × (b ≡ false)
both-none true b x y e = absurd cc
both-none false true x y e = absurd cc
both-none false false x y e = (refl, refl)

six : (a b c d e f : Bool) → (a || b || c || d || e || f) ≡ false → (a ≡ false) × (b ≡ false) × (c ≡ false) × (d ≡ false) × (e ≡ false) × (f ≡ false)
six true b c d e f h = absurd cc
six false true c d e f h = absurd cc
six false false true d e f h = absurd cc
six false false false true e f h = absurd cc
six false false false false true f h = absurd cc
six false false false false false true h = absurd cc
six false false false false false false h = (refl, refl, refl, refl, refl, refl)

pub three : (a b c : Bool) → (a || b || c) ≡ false → (a ≡ false) × (b ≡ false) × (c ≡ false)
three true b c h = absurd cc
three false true c h = absurd cc
three false false true h = absurd cc
three false false false h = (refl, refl, refl)

-- what is out of a range is below it or above it
outside : (lo hi c : ℕ) → (leb lo c) ≡ false ⊎ (leb c hi) ≡ false → (c < lo) ⊎ (hi < c)
outside lo hi c (inl e) = inl (leb-false lo c e)
outside lo hi c (inr e) = inr (leb-false c hi e)

other-letter : (d k : ℕ) → (d < 97) ⊎ (122 < d) → 97 ≤ k → k ≤ 122 → eqb d k ≡ false
other-letter d k (inl lt) low high = ne_eqb d k (λ e. absurd (omega (arith, e)))
other-letter d k (inr lt) low high = ne_eqb d k (λ e. absurd (omega (arith, e)))

no_eight : (c : ℕ) → (c < 48) ⊎ (57 < c) → 48 ≤ c → c < 58 → 8 ≤ c - 48
no_eight c (inl lt) low high = absurd (omega arith)
no_eight c (inr lt) low high = absurd (omega arith)

high-digit : (c : ℕ) → (c < 48) ⊎ (57 < c) → 8 ≤ digit_value c
high-digit c out =
    cond_both (ltb c 48) 36 _ (λ v. 8 ≤ v) (λ e. omega arith) (λ e48.
    cond_both (ltb c 58) (c - 48) _ (λ v. 8 ≤ v) (λ e58. no_eight c out (ltb-false c 48 e48) (ltb-true c 58 e58)) (λ e58.
    cond_both (ltb c 65) 36 _ (λ v. 8 ≤ v) (λ e. omega arith) (λ e65.
    cond_both (ltb c 91) (c - 55) _ (λ v. 8 ≤ v) (λ e. omega (arith, ltb-false c 65 e65)) (λ e91.
    cond_both (ltb c 97) 36 _ (λ v. 8 ≤ v) (λ e. omega arith) (λ e97.
    cond_both (ltb c 123) (c - 87) 36 (λ v. 8 ≤ v) (λ e. omega (arith, ltb-false c 97 e97)) (λ e. omega arith))))))

pub option-facts : (o : Options) → AreOptions o → OptionFacts o
option-facts o are =
    let d = o.delimiter in
    let b = both-none (is_no_delimiter d) (is_no_mark d o.null_mark) (faults.Delimiter d) faults.NullMark are in
    let h = six (eqb d 10) (eqb d 13) (eqb d 92) (eqb d 46) (is_ascii_lowercase d) (is_ascii_digit d) b.0 in
    let m = three (list_any (ends_field d) o.null_mark) (bytes_eq o.null_mark end_mark) (ends_escaped false o.null_mark) b.1 in
    record {
      no_newline = h.0;
      no_return = h.1;
      no_backslash = h.2;
      no_dot = h.3;
      no_letter = λ k low high. other-letter d k (outside 97 122 d (and_cases (leb 97 d) (leb d 122) h.4)) low high;
      no_digit = high-digit d (outside 48 57 d (and_cases (leb 48 d) (leb d 57) h.5));
      mark_clear = m.0;
      mark_other = m.1;
      mark_closed = m.2;
    }

pub no-backslash : (o : Options) → AreOptions o → o.delimiter ≡ 92 → ⊥
no-backslash o are = eqb-false o.delimiter 92 (option-facts o are).no_backslash
